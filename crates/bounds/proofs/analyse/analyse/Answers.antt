use Rattle.std.proofs.Common.{◌≤◌, length, refl, arith}
use Rattle.table.specs.Rows.{view}
use Rattle.table.proofs.Asked.{met}
use Rattle.bounds.specs.Orders.{Order, Found}
use Rattle.bounds.proofs.Handed.{as_handed}
use Rattle.bounds.proofs.Holding.{late_when}
use Rattle.bounds.proofs.analyse.analyse.Goals as goal

pub returns : goal.returns
returns g c =
    let ordered = c.in_ok-ordered.ordered in
    let parts = c.in_ok-ordered.ensures.parts in
    let found = as_handed (λ t o. Found (g.T.Test.answer c.args.test.now) (view t) o c.find_bounds.result c.find_bounds.new.bounds) parts c.find_bounds.ensures in
    met (as_handed (λ t o. 1 ≤ length (view t)) parts ordered.some) (met (as_handed (λ t o. Order (view t) o) parts ordered.each_once)
    (met (omega (arith, c.if-bounds-len.false, c.len.ensures.rows)) (_, refl, found, c.find_bounds.auto.bounds, late_when (g.T.Test.answer c.args.test.now) (view c.args.table.now) c.args.order.now _ _ found)))
