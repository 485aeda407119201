use Rattle.std.proofs.Common.{None, sym, ap, ◌∙◌}
use Rattle.std.proofs.lemmas.Bool.{cond-true}
use Rattle.bounds.specs.Climbs.{climbs}
use Rattle.bounds.specs.Posing.{question_of}
use Rattle.bounds.specs.Questions.{asked}
use Rattle.bounds.specs.Sounds.{sound_test}
use Rattle.bounds.proofs.Posing.{unsound_late}
use Rattle.bounds.proofs.climb.answer_by_climb.Goals as goal

pub returns-in_err-q : goal.returns-in_err-q
returns-in_err-q c = c.from_residual.ensures ∙ sym (unsound_late (asked c.args.q.now) _ c.in_err-q.ensures)

pub returns : goal.returns
returns c =
    let q = c.in_ok-q.q in
    c.least_window.ensures.found
    ∙ sym (cond-true _ _ None (sound_test (question_of q) q.sound))
    ∙ ap (climbs c.args.m.count c.args.limit) c.in_ok-q.ensures
