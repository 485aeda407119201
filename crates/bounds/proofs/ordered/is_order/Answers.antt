use Rattle.std.proofs.Common.{length, arith}
use Rattle.std.proofs.lemmas.Bool.{false≢true}
use Rattle.table.specs.Rows.{view}
use Rattle.bounds.proofs.Listed.{listed_none, listed_more, repeated}
use Rattle.bounds.proofs.ordered.is_order.Goals as goal
use Rattle.bounds.proofs.ordered.is_order.Goals.{then-task-eq0-via-then-task-eq0, then-task-eq0-via-else-task-eq0+then-task-rows, then-task-eq0-via-else-task-eq0+else-task-rows+then-seen-task}

pub loop-task-init : goal.loop-task-init
loop-task-init c = listed_none (length (view c.args.table.now)) c.args.order.now

pub loop-task-preserved : goal.loop-task-preserved
loop-task-preserved c = listed_more (view c.args.table.now) c.args.order.now c.loop-task.seen c.loop-task.task-index (omega arith) c.loop-task.invariant (omega arith) (omega arith) c.if-seen-task.false

pub returns-then-task-eq0 : goal.returns-then-task-eq0
returns-then-task-eq0 c = (
  (λ no. absurd (false≢true no)),
  (λ o.
      let row = o.each c.loop-task.task-index (omega (arith, o.size)) in
      absurd (elim c.then-task-eq0.branch [
        | then-task-eq0-via-then-task-eq0 w ↦ omega (arith, row.0)
        | then-task-eq0-via-else-task-eq0+then-task-rows w ↦ omega (arith, row.1)
        | then-task-eq0-via-else-task-eq0+else-task-rows+then-seen-task w ↦ repeated (view c.args.table.now) c.args.order.now c.loop-task.seen c.loop-task.task-index (omega arith) c.loop-task.invariant (omega (arith, o.size)) w.if-seen-task.true row.0 o
      ])),
)
