-- What begin does.
use Rattle.std.specs.Prelude.{◌≡◌, ◌≤◌, length}
use Rattle.table.specs.declared.fault.Fault.TheVariants.{Empty, BadSlots}
use Rattle.table.specs.Asking.{Asks, Refuses, Reply, accepted}
use Rattle.study.specs.declared.room.Room.{Room}
use Rattle.study.specs.declared.state.State.TheVariants as state
use Rattle.study.specs.Slots.{HasSlots, put_slot}
use Rattle.study.specs.Whole.{whole}
use Rattle.study.specs.Moments.{Moment, rows_of}

-- each list is of whole slots, 1 to 4,096 of them
abbrev pub HasRoom : Room → Moment → Type 0
HasRoom room now = HasSlots now.ledger room.ledger × HasSlots now.pending room.pending

-- a search has just begun: one range is pending, that of all C to D
pub record WholePending (room : Room) (before after : Moment) : Type 0 where
  pub table : after.study.table ≡ before.study.table
  pub state : after.study.state ≡ state.Running room
  pub ledger_count : after.study.ledger_count ≡ 0
  pub pending_count : after.study.pending_count ≡ 1
  pub steps : after.study.steps ≡ 0
  pub ledger : after.ledger ≡ before.ledger
  pub pending : after.pending ≡ put_slot before.pending 1 (whole (rows_of before))

-- begin: is there a row, and have both lists their whole slots?
abbrev pub Begins : Moment → Reply → Moment → Type 0
Begins before reply after =
    Asks (1 ≤ length (rows_of before)) (Refuses Empty before reply after)
    (Asks ((room : Room) × HasRoom room before) (Refuses BadSlots before reply after)
    ((room : Room) × HasRoom room before × (reply ≡ accepted) × WholePending room before after))
