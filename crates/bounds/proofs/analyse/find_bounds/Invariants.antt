use Rattle.table.specs.Rows.{view}
use Rattle.bounds.proofs.Descents.{Reached}
use Rattle.bounds.proofs.analyse.find_bounds.Given as goal

abbrev pub invariant-loop-task : goal.invariant-loop-task
invariant-loop-task g l = Reached (g.T.Test.answer l.test) (view l.ordered.table.now) l.ordered.order.now l.above l.estimates l.bounds l.task-index
