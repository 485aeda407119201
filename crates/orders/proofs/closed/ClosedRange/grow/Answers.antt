use Rattle.std.proofs.Common.{◌+◌, refl, ◌∙◌}
use Rattle.table.specs.Rows.{view}
use Rattle.table.proofs.View.{few_rows}
use Rattle.orders.specs.declared.end.End.TheVariants.{Low, High}
use Rattle.orders.specs.Growth.{EndGrown, start}
use Rattle.orders.proofs.Grows.{grown_next}
use Rattle.orders.proofs.closed.ClosedRange.grow.Goals as goal

pub loop-place-init : goal.loop-place-init
loop-place-init g c = (refl, refl, start)

pub loop-place-preserved : goal.loop-place-preserved
loop-place-preserved g c =
    let s = c.args.self in
    let rows = view s.range.table.now in
    let k = c.loop-place.place + 1 in
    let before = c.loop-place.grown.range.ends in
    let lower = c.grow_end.result.range.ends in
    let after = c.grow_end-grown.result.range.ends in
    let test = c.grow_end.ensures.test ∙ c.loop-place.invariant.0 in
    let table = c.grow_end.ensures.table ∙ c.loop-place.invariant.1 in
    let low : EndGrown (g.T.Test.answer s.test.now) rows Low before k lower = rw (c.loop-place.invariant.0, c.loop-place.invariant.1) at c.grow_end.ensures.grown in
    let high : EndGrown (g.T.Test.answer s.test.now) rows High lower k after = rw (test, table) at c.grow_end-grown.ensures.grown in
    (c.grow_end-grown.ensures.test ∙ test, c.grow_end-grown.ensures.table ∙ table, grown_next (g.met.T.Test.kept s.test.now) rows (few_rows s.range.table.now) s.range.ends c.loop-place.place before lower after c.loop-place.invariant.2 low high)
