use Rattle.std.proofs.Common.{length, sym, ap, ◌∙◌, div-le_self, arith}
use Rattle.bounds.specs.Loads.{da}
use Rattle.bounds.specs.Posing.{question_of}
use Rattle.bounds.specs.Questions.{asked}
use Rattle.table.specs.declared.row.Row.{Row}
use Rattle.bounds.proofs.DeadlineLoads.{da_read, deadline_load_le}
use Rattle.bounds.proofs.Posing.{unsound_late}
use Rattle.bounds.proofs.da.DaTest.ask.Goals as goal

pub returns-in_err-q : goal.returns-in_err-q
returns-in_err-q c = c.from_residual.ensures ∙ sym (unsound_late (asked c.args.q.now) _ c.in_err-q.ensures)

pub overflow_add-bound : goal.overflow_add-bound
overflow_add-bound c =
    let q = c.in_ok-q.q in
    omega (arith, div-le_self c.load_above.result c.count.result, c.load_above.ensures, deadline_load_le (question_of q) (length q.rows.now), q.sound.few)

pub returns : goal.returns
returns c =
    let m = c.args.self.now.processors.count in
    let q = c.in_ok-q.q in
    c.timely.ensures
    ∙ da_read m (question_of q) c.wcet.result c.deadline.result c.load_above.result c.count.result
    q.sound (c.wcet.ensures ∙ ap (λ (r : Row). r.wcet) c.own-own.ensures) (c.deadline.ensures ∙ ap (λ (r : Row). r.deadline) c.own-own.ensures) c.load_above.ensures c.count.ensures
    ∙ ap (da m) c.in_ok-q.ensures
