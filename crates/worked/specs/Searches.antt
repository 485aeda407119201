-- What begin and a step lead to, whatever the lent lists hold.
use Rattle.std.specs.Prelude.{◌≡◌, ℕ, ◌≤◌, List}
use Rattle.table.specs.declared.row.Row.{Row}
use Rattle.table.specs.Asking.{Reply, accepted}
use Rattle.bounds.specs.Questions.{Meaning}
use Rattle.study.specs.declared.room.Room.{Room}
use Rattle.study.specs.Moments.{Moment, rows_of}
use Rattle.study.specs.Begins.{HasRoom, Begins}
use Rattle.study.specs.Steps.{Steps}

-- on these rows, and lists that have at least so many slots, begin is accepted, and this is so of
-- what it leaves
abbrev pub BeginsTo : List Row → ℕ → ℕ → (Moment → Type 0) → Type 0
BeginsTo rows ledger pending Said =
    (before after : Moment) (room : Room) (reply : Reply)
    → rows_of before ≡ rows → HasRoom room before → ledger ≤ room.ledger → pending ≤ room.pending
    → Begins before reply after → (reply ≡ accepted) × Said after

-- from this moment a step is accepted, and this is so of what it leaves
abbrev pub StepsTo : Meaning → Moment → (Moment → Type 0) → Type 0
StepsTo meaning before Said =
    (reply : Reply) (after : Moment) → Steps meaning before reply after → (reply ≡ accepted) × Said after
