-- What a step does.
use Rattle.std.specs.Prelude.{◌≡◌, ℕ, ◌+◌, ◌-◌, ◌*◌, ◌<◌, ◌≤◌, List, length}
use Rattle.table.specs.declared.row.Row.{Row}
use Rattle.table.specs.declared.fault.Fault.TheVariants.{NotRunning, OtherLists}
use Rattle.table.specs.Places.{nth}
use Rattle.table.specs.Asking.{Asks, Refuses, Reply, accepted}
use Rattle.bounds.specs.Questions.{Meaning}
use Rattle.orders.specs.declared.range.Range.{Range}
use Rattle.orders.specs.Ranges.{Within}
use Rattle.study.specs.declared.room.Room.{Room}
use Rattle.study.specs.declared.state.State.{State}
use Rattle.study.specs.declared.state.State.TheVariants as state
use Rattle.study.specs.declared.deed.Deed.{Deed}
use Rattle.study.specs.declared.deed.Deed.TheVariants.{End, Keep, Split}
use Rattle.study.specs.Slots.{slot, put_slot}
use Rattle.study.specs.Pieces.{pieces, put_slots}
use Rattle.study.specs.Moments.{Moment, rows_of}
use Rattle.study.specs.Deeds.{Due}

-- a search is running, on lists with this room
abbrev pub Runs : Room → Moment → Type 0
Runs room now = now.study.state ≡ state.Running room

-- the last counted pending range
abbrev pub taken_of : Moment → Range
taken_of now = slot now.pending now.study.pending_count

-- a list by row has 0 past the last of n rows
abbrev pub ZeroPast : ℕ → List ℕ → Type 0
ZeroPast n numbers = (k : ℕ) → n < k → nth numbers k 0 ≡ 0

-- what a counted slot holds: a range of the table, with 0 past the last row
abbrev pub IsSlot : List Row → Range → Type 0
IsSlot rows r = Within rows r × ZeroPast (length rows) r.lows × ZeroPast (length rows) r.highs

-- both lists have the length they had at begin, and the last counted pending slot, if any is
-- counted, holds a range of the table
abbrev pub AsLeft : Room → Moment → Type 0
AsLeft room now =
    (length now.ledger ≡ 64 * room.ledger) × (length now.pending ≡ 64 * room.pending)
    × (1 ≤ now.study.pending_count → IsSlot (rows_of now) (taken_of now))

-- What a step leaves: the state, how many slots are counted of each list, and both lists.
pub record Left : Type 0 where
  pub state : State
  pub ledger_count : ℕ
  pub pending_count : ℕ
  pub ledger : List ℕ
  pub pending : List ℕ

-- After a step these are left; the table is as it was, and one step more is counted.
pub record Leaves (before : Moment) (left : Left) (after : Moment) : Type 0 where
  pub table : after.study.table ≡ before.study.table
  pub state : after.study.state ≡ left.state
  pub ledger_count : after.study.ledger_count ≡ left.ledger_count
  pub pending_count : after.study.pending_count ≡ left.pending_count
  pub steps : after.study.steps ≡ before.study.steps + 1
  pub ledger : after.ledger ≡ left.ledger
  pub pending : after.pending ≡ left.pending

-- the ledger with a range in the slot after the last counted one
abbrev pub recorded : Moment → Range → List ℕ
recorded now r = put_slot now.ledger (now.study.ledger_count + 1) r

-- the pieces of the last counted pending range, where the list of its lows is grown to U
abbrev pub pieces_of : Moment → Range → List Range
pieces_of now grown = pieces (taken_of now) grown (length (rows_of now))

-- For each deed, what it leaves. A verdict alters no lent number and neither count. What is kept
-- goes to the ledger, and its range leaves the pending list. What a range is split by goes to the
-- ledger, and the range is replaced by its pieces.
abbrev pub left_by : Room → Moment → Deed → Left
left_by room now (End verdict) = record {
  state = verdict;
  ledger_count = now.study.ledger_count;
  pending_count = now.study.pending_count;
  ledger = now.ledger;
  pending = now.pending;
}
left_by room now (Keep grown) = record {
  state = state.Running room;
  ledger_count = now.study.ledger_count + 1;
  pending_count = now.study.pending_count - 1;
  ledger = recorded now grown;
  pending = now.pending;
}
left_by room now (Split grown) = record {
  state = state.Running room;
  ledger_count = now.study.ledger_count + 1;
  pending_count = now.study.pending_count - 1 + length (pieces_of now grown);
  ledger = recorded now grown;
  pending = put_slots now.pending now.study.pending_count (pieces_of now grown);
}

-- both lists have the slots that are counted
abbrev pub Fits : Room → Left → Type 0
Fits room left = (left.ledger_count ≤ room.ledger) × (left.pending_count ≤ room.pending)

-- a deed is done where both lists have the slots for it, and where one is lacking the search is
-- stopped
abbrev pub CarriesOut : Room → Moment → Deed → Moment → Type 0
CarriesOut room before deed after =
    Asks (Fits room (left_by room before deed))
    (Leaves before (left_by room before (End state.Stopped)) after)
    (Leaves before (left_by room before deed) after)

module _ (meaning : Meaning) where
  -- What a step does on lists that are as the search left them.
  pub data Does (room : Room) (before : Moment) : Deed → Type 0 where
    -- nothing is pending: it ends with none
    none : before.study.pending_count ≡ 0 → Does room before (End state.None)
    -- what is due of the last pending range, where both lists have the slots
    does : (deed : Deed) → 1 ≤ before.study.pending_count
        → Due meaning (rows_of before) (taken_of before) deed
        → Fits room (left_by room before deed) → Does room before deed
    -- and where a slot is lacking it ends with stopped
    stops : (deed : Deed) → 1 ≤ before.study.pending_count
        → Due meaning (rows_of before) (taken_of before) deed
        → ¬ Fits room (left_by room before deed) → Does room before (End state.Stopped)

  -- one step's work: it does one deed, and leaves what that leaves
  pub record OneDeed (room : Room) (before after : Moment) : Type 0 where
    pub deed : Deed
    pub done : Does room before deed
    pub leaves : Leaves before (left_by room before deed) after

  -- step: is a search running, and are both lists as it left them?
  abbrev pub Steps : Moment → Reply → Moment → Type 0
  Steps before reply after =
      Asks ((room : Room) × Runs room before) (Refuses NotRunning before reply after)
      ((room : Room) × Runs room before
      × Asks (AsLeft room before) (Refuses OtherLists before reply after)
      ((reply ≡ accepted) × OneDeed room before after))
