-- The assigner: levels filled from the lowest up, each by the lowest-numbered unplaced task that
-- passes there.
use Rattle.std.specs.Prelude.{◌≡◌, ℕ, zero, suc, ◌+◌, ◌<◌, ◌≤◌, Bool, true, false, ◌&&◌, List, [], ◌∷◌, length, take, replicate, IfSome, Some, None, Option, MatchOption, nat_le, slice_set, option_and_then}
use Rattle.table.specs.declared.row.Row.{Row}
use Rattle.table.specs.Asking.{Asks}
use Rattle.table.specs.Places.{nth, put}
use Rattle.bounds.specs.Questions.{Meaning, question, In, NoMore}
use Rattle.bounds.specs.Orders.{task_at, first}
use Rattle.bounds.specs.Responses.{least_from}
use Rattle.orders.specs.declared.range.Range.{Range}
use Rattle.orders.specs.Ranges.{high, Within, Admits, Closed}

-- an answer is at most a number; late is not
abbrev pub at_most : Option ℕ → ℕ → Bool
at_most None x = false
at_most (Some bound) x = nat_le bound x

-- all tasks of n rows, as a set
unfoldable pub full : ℕ → List Bool
full zero = replicate 32 false
full (suc n) = slice_set (full n) n true

module _ (meaning : Meaning) (rows : List Row) (r : Range) where
  -- an unplaced task passes at the lowest level left: its answer, with all other unplaced tasks above
  -- it, is at most its high
  abbrev pub candidate : List Bool → ℕ → Bool
  candidate left k =
      nth left k false && at_most (meaning (question rows k (put left k false) r.lows)) (high r k)

  -- so many levels filled with unplaced tasks, from the lowest up, above the tasks that are placed
  unfoldable pub fill : ℕ → List Bool → List ℕ → Option (List ℕ)
  fill zero left placed = Some placed
  fill (suc levels) left placed =
      option_and_then (λ k. fill levels (put left k false) (k ∷ placed))
      (least_from (candidate left) 1 (length rows))

  -- all levels filled, the highest first; none where no task passes at one
  abbrev pub assigned : Option (List ℕ)
  assigned = fill (length rows) (full (length rows)) []

  -- the assigner gives what is no range of the rows no order; for a range it gives the order of the
  -- filled levels, with 0 past the last task, or none
  abbrev pub Assigns : Option (List ℕ) → Type 0
  Assigns found =
      Asks (Within rows r) (found ≡ None)
      (MatchOption found (assigned ≡ None)
      (λ tasks.
      (assigned ≡ Some (take (length rows) tasks))
      × ((p : ℕ) → length rows ≤ p → task_at tasks p ≡ 0)))

  -- it finds an order exactly when the range is open, and what it finds lists every row once and
  -- passes
  abbrev pub FindsIfOpen : Option (List ℕ) → Type 0
  FindsIfOpen found =
      Within rows r
      → MatchOption found (Closed meaning rows r)
      (λ tasks. Admits meaning rows r (take (length rows) tasks))

  -- on each level of an order no lower-numbered unplaced task passes: when the task with p tasks above
  -- it is placed, the unplaced ones are the first p + 1 of the order
  abbrev pub LowestNumbered : List ℕ → Type 0
  LowestNumbered order =
      (p : ℕ) → p < length rows → (k : ℕ) → k < task_at order p → In (first order (p + 1)) k
      → let above = put (first order (p + 1)) k false in
      ¬ NoMore (meaning (question rows k above r.lows)) (Some (high r k))

  -- each level of an order that the assigner gives has the lowest-numbered unplaced task that passes
  -- there
  abbrev pub FillsLowest : Option (List ℕ) → Type 0
  FillsLowest found = IfSome found (λ tasks. LowestNumbered (take (length rows) tasks))
