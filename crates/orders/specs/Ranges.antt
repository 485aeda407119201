-- Ranges: what passes them, and when they are open, closed and wider.
use Rattle.std.specs.Prelude.{ℕ, ◌<◌, ◌≤◌, ◌⊎◌, List}
use Rattle.table.specs.declared.row.Row.{Row}
use Rattle.table.specs.Places.{nth}
use Rattle.table.specs.Rows.{row, Names}
use Rattle.bounds.specs.Orders.{Order, padded, PassesBy}
use Rattle.orders.specs.declared.range.Range.{Range}
use Rattle.bounds.specs.Questions.{Meaning}

-- row k's low
abbrev pub low : Range → ℕ → ℕ
low r k = nth r.lows k 0

-- row k's high
abbrev pub high : Range → ℕ → ℕ
high r k = nth r.highs k 0

-- a range of the rows: C ≤ low ≤ high ≤ D for each row
abbrev pub Within : List Row → Range → Type 0
Within rows r =
    (k : ℕ) → Names rows k
    → ((row rows k).wcet ≤ low r k) × (low r k ≤ high r k) × (high r k ≤ (row rows k).deadline)

-- a range contains another: none of its lows is greater, and none of its highs is smaller
abbrev pub Contains : List Row → Range → Range → Type 0
Contains rows outer inner =
    (k : ℕ) → Names rows k → (low outer k ≤ low inner k) × (high inner k ≤ high outer k)

-- a range is wider than another: it contains it, and at least one low or high differs
abbrev pub Wider : List Row → Range → Range → Type 0
Wider rows outer inner =
    Contains rows outer inner
    × ((k : ℕ) × Names rows k × ((low outer k < low inner k) ⊎ (high inner k < high outer k)))

-- a list of estimates as a range: each is its row's low and high
abbrev pub as_range : List ℕ → Range
as_range estimates = record { lows = padded estimates; highs = padded estimates }

-- a list of estimates lies in a range: each is at least its row's low and at most its high
abbrev pub LiesIn : List Row → List ℕ → Range → Type 0
LiesIn rows estimates r = Contains rows r (as_range estimates)

module _ (meaning : Meaning) (rows : List Row) where
  -- an order passes a range: each task's answer, with the lows as estimates, is at most its high
  abbrev pub Passes : Range → List ℕ → Type 0
  Passes r order = PassesBy meaning rows r.lows r.highs order

  -- a range admits the orders that pass it
  abbrev pub Admits : Range → List ℕ → Type 0
  Admits r order = Order rows order × Passes r order

  -- a range is open if it admits an order
  abbrev pub Open : Range → Type 0
  Open r = (order : List ℕ) × Admits r order

  -- a range is closed if it admits none
  abbrev pub Closed : Range → Type 0
  Closed r = (order : List ℕ) → ¬ Admits r order
