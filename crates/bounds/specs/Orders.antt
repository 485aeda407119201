-- Orders, the bounds that are found down an order, and what analyse and check do.
use Rattle.std.specs.Prelude.{◌≡◌, ℕ, zero, suc, ◌<◌, ◌≤◌, Bool, true, false, List, ◌++◌, map, length, take, replicate, Some, None, Ok, Err, Option, Result, MatchOption, slice_index}
use Rattle.table.specs.declared.row.Row.{Row}
use Rattle.table.specs.declared.fault.Fault.{Fault}
use Rattle.table.specs.declared.fault.Fault.TheVariants.{Empty, BadOrder, BadLength}
use Rattle.table.specs.Asking.{Asks, Refuses}
use Rattle.table.specs.Faults.{nowhere}
use Rattle.table.specs.Places.{nth, put}
use Rattle.table.specs.Rows.{row, Names}
use Rattle.bounds.specs.declared.miss.Miss.{Miss}
use Rattle.bounds.specs.Questions.{Meaning, Lies, NoMore}

-- the task of an order that has p tasks above it
abbrev pub task_at : List ℕ → ℕ → ℕ
task_at order p = slice_index order p

-- An order lists every row once: it is as long as the rows are many, each task of it is a row, and no two are the same.
pub record Order (rows : List Row) (order : List ℕ) : Type 0 where
  pub size : length order ≡ length rows
  pub each : (p : ℕ) → p < length rows → Names rows (task_at order p)
  pub apart : (p q : ℕ) → p < length rows → q < length rows → task_at order p ≡ task_at order q → p ≡ q

-- the first p tasks of an order, as a set
unfoldable pub first : List ℕ → ℕ → List Bool
first order zero = replicate 32 false
first order (suc p) = put (first order p) (task_at order p) true

-- a list by row with 0 past the last row, 32 places in all
abbrev pub padded : List ℕ → List ℕ
padded xs = take 32 (xs ++ replicate 32 0)

-- the C of each row
abbrev pub wcet_list : List Row → List ℕ
wcet_list rows = map (λ (r : Row). r.wcet) rows

-- the estimates of which each is its row's C
abbrev pub wcets : List Row → List ℕ
wcets rows = padded (wcet_list rows)

-- the estimates once the first p tasks of an order have their bounds: these bounds, and C for every
-- other row
unfoldable pub estimated : List Row → List ℕ → List ℕ → ℕ → List ℕ
estimated rows order bounds zero = wcets rows
estimated rows order bounds (suc p) =
    put (estimated rows order bounds p) (task_at order p) (nth bounds (task_at order p) 0)

-- nothing is found exactly when this holds
abbrev pub NoneWhen : {A : Type 0} → Option A → Type 0 → Type 0
NoneWhen found P = (found ≡ None → P) × (P → found ≡ None)

-- a list is refused: there is no row, or it is no order
abbrev pub RefusesOrder : List Row → List ℕ → Fault → Type 0
RefusesOrder rows order fault = Asks (1 ≤ length rows) (fault ≡ Empty) (Asks (Order rows order) (fault ≡ BadOrder nowhere) ⊥)

-- there is exactly one estimate for each row, from its C to its D
pub record Estimates (rows : List Row) (estimates : List ℕ) : Type 0 where
  pub size : length estimates ≡ length rows
  pub within : (k : ℕ) → Names rows k → Lies (row rows k) (nth estimates k 0)

module _ (meaning : Meaning) (rows : List Row) where
  -- the answer for the task that has p tasks above it, with these estimates in 32 places
  abbrev pub answer_with : List ℕ → List ℕ → ℕ → Option ℕ
  answer_with order estimates p =
      meaning (record { rows = rows; task = task_at order p; above = first order p; estimates = estimates })

  -- the answer for the task that has p tasks above it, when these have their bounds
  abbrev pub answer_at : List ℕ → List ℕ → ℕ → Option ℕ
  answer_at order bounds p = answer_with order (estimated rows order bounds p) p

  -- none of the first p tasks of an order is late, and these are their bounds, by row number
  abbrev pub Bounded : List ℕ → List ℕ → ℕ → Type 0
  Bounded order bounds p =
      (q : ℕ) → q < p → answer_at order bounds q ≡ Some (nth bounds (task_at order q) 0)

  -- the first late task of an order is the one with p tasks above it
  abbrev pub LateAt : List ℕ → List ℕ → ℕ → Type 0
  LateAt order bounds p =
      (p < length order) × Bounded order bounds p × (answer_at order bounds p ≡ None)

  -- the bounds of an order, found from the top down: each row's bound in its place, and 0 for the first
  -- late task and all below it
  abbrev pub Found : List ℕ → Option ℕ → List ℕ → Type 0
  Found order late bounds =
      MatchOption late (Bounded order bounds (length order))
      (λ k.
      (p : ℕ) × LateAt order bounds p × (task_at order p ≡ k)
      × ((q : ℕ) → p ≤ q → q < length order → nth bounds (task_at order q) 0 ≡ 0))

  -- an order holds: from the top down no task is late, with the bounds found so far as estimates
  abbrev pub Holds : List ℕ → Type 0
  Holds order = (bounds : List ℕ) × Bounded order bounds (length order)

  -- an order has a late task
  abbrev pub HasLate : List ℕ → Type 0
  HasLate order = (bounds : List ℕ) × (p : ℕ) × LateAt order bounds p

  -- analyse: the bounds of the order and its first late task; there is none exactly when the order
  -- holds
  abbrev pub Analyses : List ℕ → List ℕ → Result (Option ℕ) Fault → List ℕ → Type 0
  Analyses order before r after =
      Asks (1 ≤ length rows) (Refuses Empty before r after)
      (Asks (Order rows order) (Refuses (BadOrder nowhere) before r after)
      (Asks (length before ≡ length rows) (Refuses BadLength before r after)
      ((late : Option ℕ) × (r ≡ Ok late) × Found order late after
      × (length after ≡ length before) × NoneWhen late (Holds order))))

  -- the answer of the task that has p tasks above it, with these estimates, is at most its own
  -- estimate
  abbrev pub MeetsAt : List ℕ → List ℕ → ℕ → Type 0
  MeetsAt order estimates p =
      NoMore (answer_with order (padded estimates) p) (Some (nth estimates (task_at order p) 0))

  -- the first task from the top whose answer is late or above its estimate, with that answer; or
  -- none
  abbrev pub FirstMiss : List ℕ → List ℕ → Option Miss → Type 0
  FirstMiss order estimates miss =
      MatchOption miss ((p : ℕ) → p < length order → MeetsAt order estimates p)
      (λ x.
      (p : ℕ) × (p < length order) × (task_at order p ≡ x.task)
      × (answer_with order (padded estimates) p ≡ x.bound)
      × ¬ MeetsAt order estimates p × ((q : ℕ) → q < p → MeetsAt order estimates q))

  -- an order passes lows and highs, by row: each task's answer, with the lows as estimates, is at most
  -- its high
  abbrev pub PassesBy : List ℕ → List ℕ → List ℕ → Type 0
  PassesBy lows highs order =
      (p : ℕ) → p < length order
      → NoMore (answer_with order lows p) (Some (nth highs (task_at order p) 0))

  -- check: the first task of the order that misses its estimate; there is none exactly when the order
  -- passes the estimates as lows and highs
  abbrev pub Checks : List ℕ → List ℕ → Result (Option Miss) Fault → Type 0
  Checks order estimates r =
      Asks (1 ≤ length rows) (r ≡ Err Empty)
      (Asks (Order rows order × Estimates rows estimates) (r ≡ Err (BadOrder nowhere))
      ((miss : Option Miss) × (r ≡ Ok miss) × FirstMiss order estimates miss
      × NoneWhen miss (PassesBy (padded estimates) (padded estimates) order)))
