-- Growth: row by row, the low down and then the high up as far as the range stays closed.
use Rattle.std.specs.Prelude.{◌≡◌, ℕ, suc, ◌+◌, ◌-◌, ◌<◌, ◌≤◌, List, length}
use Rattle.table.specs.declared.row.Row.{Row}
use Rattle.table.specs.Places.{put}
use Rattle.table.specs.Rows.{row}
use Rattle.orders.specs.declared.range.Range.{Range}
use Rattle.orders.specs.declared.end.End.{End}
use Rattle.orders.specs.declared.end.End.TheVariants.{Low, High}
use Rattle.orders.specs.Ranges.{low, high, Within, Contains, Wider, Open, Closed}
use Rattle.bounds.specs.Questions.{Meaning}

-- the range with another low of row k
abbrev pub with_low : Range → ℕ → ℕ → Range
with_low r k v = record { lows = put r.lows k v; highs = r.highs }

-- the range with another high of row k
abbrev pub with_high : Range → ℕ → ℕ → Range
with_high r k v = record { lows = r.lows; highs = put r.highs k v }

-- the range with an end of row k moved out
abbrev pub moved : End → Range → ℕ → ℕ → Range
moved Low r k by = with_low r k (low r k - by)
moved High r k by = with_high r k (high r k + by)

-- how far an end of row k may be moved out
abbrev pub reach : End → List Row → Range → ℕ → ℕ
reach Low rows r k = low r k - (row rows k).wcet
reach High rows r k = (row rows k).deadline - high r k

module _ (meaning : Meaning) (rows : List Row) where
  -- an end of row k is grown: the low goes down to the least value, not below C, at which the range
  -- is closed, or the high up to the greatest value, not above D
  pub record EndGrown (end : End) (r : Range) (k : ℕ) (q : Range) : Type 0 where
    pub by : ℕ
    pub is : q ≡ moved end r k by
    pub inside : by ≤ reach end rows r k
    pub closed : Closed meaning rows q
    pub farther :
        (more : ℕ) → by < more → more ≤ reach end rows r k → ¬ Closed meaning rows (moved end r k more)

  -- the first k rows are grown, in number order: each row's low, then its high
  pub data GrownTo (r : Range) : ℕ → Range → Type 0 where
    start : GrownTo r 0 r
    next :
        {k : ℕ} {before lower after : Range} → GrownTo r k before
        → EndGrown Low before (suc k) lower → EndGrown High lower (suc k) after → GrownTo r (suc k) after

  -- growing a closed range of the rows
  abbrev pub Grown : Range → Range → Type 0
  Grown r q = Within rows r → Closed meaning rows r → GrownTo r (length rows) q

  -- what is open, or no range, is given back as it is
  abbrev pub GivenBack : Range → Range → Type 0
  GivenBack r q = (Open meaning rows r → q ≡ r) × (¬ Within rows r → q ≡ r)

  -- a range that is barred: it is closed, and every wider range is open
  pub record Barred (r : Range) : Type 0 where
    pub within : Within rows r
    pub closed : Closed meaning rows r
    pub wider : (outer : Range) → Within rows outer → Wider rows outer r → Open meaning rows outer

  -- the second range contains the first, and is barred
  abbrev pub Maximal : Range → Range → Type 0
  Maximal r q = Contains rows q r × Barred q

  -- growing a closed range of the rows: the grown range is maximal
  abbrev pub GrownMaximal : Range → Range → Type 0
  GrownMaximal r q = Within rows r → Closed meaning rows r → Maximal r q

  -- narrowing keeps a range closed
  abbrev pub Narrowing : Type 0
  Narrowing =
      (outer inner : Range) → Within rows outer → Within rows inner → Contains rows outer inner
      → Closed meaning rows outer → Closed meaning rows inner
