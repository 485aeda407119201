use Rattle.table.specs.Rows.{view}
use Rattle.bounds.proofs.Misses.{Met}
use Rattle.bounds.proofs.check.first_miss.Given as goal

abbrev pub invariant-loop-task : goal.invariant-loop-task
invariant-loop-task g l = Met (g.T.Test.answer l.test) (view l.ordered.table.now) l.ordered.order.now l.estimates l.above l.task-index
