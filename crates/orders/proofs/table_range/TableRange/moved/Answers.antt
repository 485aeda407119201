use Rattle.std.proofs.Common.{◌≡◌, ◌+◌, ◌≤◌, sym, subst, arith}
use Rattle.table.specs.Rows.{row, view}
use Rattle.table.proofs.Placed.{nth_next}
use Rattle.orders.specs.declared.end.End.TheVariants.{Low, High}
use Rattle.orders.specs.Growth.{moved, reach}
use Rattle.orders.specs.Ranges.{Within}
use Rattle.orders.proofs.Moves.{low_written, high_written, moved_within}
use Rattle.orders.proofs.table_range.TableRange.moved.Goals as goal
use Rattle.orders.proofs.table_range.TableRange.moved.Goals.{in-Low, in-High}

pub overflow_sub-ends : goal.overflow_sub-ends
overflow_sub-ends c =
    let s = c.args.self.now in
    let short : c.args.by ≤ reach Low (view s.table.now) s.ends (c.args.place + 1) = rw c.in-Low.is at c.requires.short in
    omega (arith, nth_next s.ends.lows c.args.place 0)

pub overflow_add-ends : goal.overflow_add-ends
overflow_add-ends c =
    let s = c.args.self.now in
    let rows = view s.table.now in
    let k = c.args.place + 1 in
    let short : c.args.by ≤ reach High rows s.ends k = rw c.in-High.is at c.requires.short in
    let w = s.within k (omega arith, omega (arith, c.requires.place)) in
    omega (arith, nth_next s.ends.highs c.args.place 0, w.2, (row rows k).ok)

pub returns-clause-ends : goal.returns-clause-ends
returns-clause-ends c =
    let r = c.args.self.now.ends in
    elim c.match-end.branch [
      | in-Low w ↦ rw (w.ends-is, w.in-Low.is) (low_written r c.args.place c.args.by)
      | in-High w ↦ rw (w.ends-is, w.in-High.is) (high_written r c.args.place c.args.by)
    ]

pub invariant_of-result : goal.invariant_of-result
invariant_of-result c =
    let s = c.args.self.now in
    let rows = view s.table.now in
    let k = c.args.place + 1 in
    let is : c.match-end.ends ≡ moved c.args.end s.ends k c.args.by =
    elim c.match-end.branch [
      | in-Low w ↦ rw (w.ends-is, w.in-Low.is) (low_written s.ends c.args.place c.args.by)
      | in-High w ↦ rw (w.ends-is, w.in-High.is) (high_written s.ends c.args.place c.args.by)
    ] in
    record { within = subst (Within rows) (sym is) (moved_within rows s.ends s.within k (omega arith, omega (arith, c.requires.place)) c.args.end c.args.by c.requires.short) }
