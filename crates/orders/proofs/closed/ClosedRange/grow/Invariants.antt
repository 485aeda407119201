use Rattle.std.proofs.Common.{◌≡◌}
use Rattle.table.specs.Rows.{view}
use Rattle.orders.specs.Growth.{GrownTo}
use Rattle.orders.proofs.closed.ClosedRange.grow.Given as goal

-- the rows before `place` are grown
abbrev pub invariant-loop-place : goal.invariant-loop-place
invariant-loop-place g l =
    let s = l.fn.self in
    (l.grown.test.now ≡ s.test.now) × (l.grown.range.table.now ≡ s.range.table.now)
    × GrownTo (g.T.Test.answer s.test.now) (view s.range.table.now) s.range.ends l.place l.grown.range.ends
