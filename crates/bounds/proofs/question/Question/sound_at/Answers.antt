use Rattle.std.proofs.Common.{◌+◌, get_or, sym, ap, ◌∙◌, rules}
use Rattle.bounds.specs.Questions.{question, sound_atb}
use Rattle.bounds.proofs.Sounding.{sound_row, sound_past}
use Rattle.bounds.proofs.Spans.{spans_one}
use Rattle.bounds.proofs.question.Question.sound_at.Goals as goal

pub returns-in-Some : goal.returns-in-Some
returns-in-Some c =
    let q = c.args.self.now in
    c.spans.ensures.value
    ∙ spans_one c.in-Some.row.now (get_or q.estimates.now c.args.place 0)
    ∙ sym (sound_row (question c.rows.result.now q.task q.above.now q.estimates.now) c.args.place c.in-Some.row.now (search rules) (search rules))
    ∙ ap (λ rows. sound_atb (question rows q.task q.above.now q.estimates.now) (c.args.place + 1)) c.rows.ensures.value

pub returns-in-None : goal.returns-in-None
returns-in-None c =
    let q = c.args.self.now in
    sym (sound_past (question c.rows.result.now q.task q.above.now q.estimates.now) c.args.place (search rules))
    ∙ ap (λ rows. sound_atb (question rows q.task q.above.now q.estimates.now) (c.args.place + 1)) c.rows.ensures.value
