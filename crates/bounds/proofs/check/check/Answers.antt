use Rattle.std.proofs.Common.{◌≤◌, length, refl, subst}
use Rattle.table.specs.Rows.{view}
use Rattle.table.proofs.Asked.{met}
use Rattle.table.proofs.View.{few_rows}
use Rattle.bounds.specs.Orders.{Order, Estimates, FirstMiss}
use Rattle.bounds.proofs.Handed.{as_handed}
use Rattle.bounds.proofs.Holding.{miss_when}
use Rattle.bounds.proofs.check.check.Goals as goal

pub returns : goal.returns
returns g c =
    let parts = c.in_ok-ordered.ensures.parts in
    let order = as_handed (λ t o. Order (view t) o) parts c.in_ok-ordered.ordered.each_once in
    let estimates = subst (λ rows. Estimates rows c.args.estimates.now) c.rows.ensures.value (c.are_estimates.ensures.0 c.if-not-are_estimates.false) in
    let rows = view c.args.table.now in
    let first = as_handed (λ t o. FirstMiss (g.T.Test.answer c.args.test.now) (view t) o c.args.estimates.now c.first_miss.result) parts c.first_miss.ensures in
    met (as_handed (λ t o. 1 ≤ length (view t)) parts c.in_ok-ordered.ordered.some)
    (met (order, estimates) (_, refl, first, miss_when (g.T.Test.answer c.args.test.now) rows c.args.order.now c.args.estimates.now estimates.size (few_rows c.args.table.now) order _ first))
