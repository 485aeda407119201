use Rattle.std.proofs.Common.{◌≡◌, ◌+◌, ◌-◌, ◌<◌, ◌^◌}
use Rattle.table.specs.Rows.{view}
use Rattle.orders.proofs.Grows.{MovedOut}
use Rattle.orders.proofs.closed.ClosedRange.grow_end.Given as goal

-- the same test and table, the end moved out as far as is known to do, and little left to move it
abbrev pub invariant-loop-round : goal.invariant-loop-round
invariant-loop-round g l =
    let s = l.fn.self in
    (l.grown.test.now ≡ s.test.now) × (l.grown.range.table.now ≡ s.range.table.now)
    × MovedOut (g.T.Test.answer s.test.now) (view s.range.table.now) l.end s.range.ends (l.place + 1) l.left l.grown.range.ends
    × (l.left < 2 ^ (20 - (l.round - 3)))
