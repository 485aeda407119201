use Rattle.std.proofs.Common.{arith}
use Rattle.orders.proofs.Moves.{room_low, room_high}
use Rattle.orders.proofs.table_range.TableRange.reach.Goals as goal

pub overflow_sub-result : goal.overflow_sub-result
overflow_sub-result c =
    let s = c.args.self.now in
    omega (arith, c.wcet.ensures, (room_low c.rows.ensures.value c.index-rows-place.is s.ends s.within c.requires).0)

pub returns-in-Low : goal.returns-in-Low
returns-in-Low c =
    let s = c.args.self.now in
    rw (c.wcet.ensures, c.in-Low.is) (room_low c.rows.ensures.value c.index-rows-place.is s.ends s.within c.requires).1

pub overflow_sub-result-in-High : goal.overflow_sub-result-in-High
overflow_sub-result-in-High c =
    let s = c.args.self.now in
    omega (arith, c.deadline.ensures, (room_high c.rows.ensures.value c.index-rows-place.is s.ends s.within c.requires).0)

pub returns-in-High : goal.returns-in-High
returns-in-High c =
    let s = c.args.self.now in
    rw (c.deadline.ensures, c.in-High.is) (room_high c.rows.ensures.value c.index-rows-place.is s.ends s.within c.requires).1
