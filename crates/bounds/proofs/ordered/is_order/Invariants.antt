use Rattle.std.proofs.Common.{length}
use Rattle.table.specs.Rows.{view}
use Rattle.bounds.proofs.Listed.{Listed}
use Rattle.bounds.proofs.ordered.is_order.Given as goal

abbrev pub invariant-loop-task : goal.invariant-loop-task
invariant-loop-task l = Listed (length (view l.table)) l.order l.seen l.task-index
