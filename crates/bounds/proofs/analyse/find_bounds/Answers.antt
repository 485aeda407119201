use Rattle.std.proofs.Common.{length, sym, refl, ap, ◌∙◌, arith}
use Rattle.table.specs.Places.{nth}
use Rattle.table.specs.Rows.{view}
use Rattle.table.proofs.Placed.{nth_replicate}
use Rattle.bounds.specs.Orders.{wcets}
use Rattle.bounds.proofs.Descents.{reached_none, reached_more}
use Rattle.bounds.proofs.analyse.find_bounds.Goals as goal

pub loop-task-init : goal.loop-task-init
loop-task-init g c =
    let zeros = c.fill.ensures.after (λ y e. e) in
    reached_none (g.T.Test.answer c.args.test.now) (view c.args.ordered.now.table.now) c.args.ordered.now.order.now _ _ _ (c.fill.ensures.len ∙ c.requires) refl (c.wcets_of-estimates.ensures ∙ ap wcets c.rows.ensures.value) (λ k. ap (λ xs. nth xs k 0) zeros ∙ nth_replicate (length c.args.bounds.now) 0 k)

pub loop-task-preserved : goal.loop-task-preserved
loop-task-preserved g c = reached_more (g.T.Test.answer c.args.test.now) (view c.args.ordered.now.table.now) c.args.ordered.now.order.now c.loop-task.above c.loop-task.estimates c.loop-task.bounds c.loop-task.task-index c.args.ordered.now.each_once c.loop-task.invariant c.in-Some.bound (omega (arith, c.args.ordered.now.each_once.size)) (sym c.in-Some.ensures)
