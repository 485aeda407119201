-- An end of a range moved out.
use Rattle.std.proofs.Common.{◌≡◌, ℕ, ◌+◌, ◌-◌, ◌<◌, ◌≤◌, ◌⊎◌, List, length, get_or, set, sym, ap, subst, ◌∙◌, inl, inr, arith}
use Rattle.std.proofs.lemmas.List.{get_or_past}
use Rattle.std.proofs.lemmas.Bool.{cases_eq, cases_lt}
use Rattle.table.specs.declared.row.Row.{Row}
use Rattle.table.specs.Places.{nth}
use Rattle.table.specs.Rows.{row, Names}
use Rattle.table.proofs.Placed.{nth_at, nth_next, nth_put_same, nth_put_other}
use Rattle.bounds.proofs.ReadRows.{row_read}
use Rattle.orders.specs.declared.range.Range.{Range}
use Rattle.orders.specs.declared.end.End.{End}
use Rattle.orders.specs.declared.end.End.TheVariants.{Low, High}
use Rattle.orders.specs.Ranges.{low, high, Within, Contains}
use Rattle.orders.specs.Growth.{with_low, with_high, moved, reach}
use Rattle.orders.proofs.Puts.{put_same, put_twice, put_written}

-- a number above 0 stands in the list
stands : (xs : List ℕ) (k : ℕ) → 1 ≤ k → 1 ≤ nth xs k 0 → k ≤ length xs
stands xs k a h =
    elim (cases_lt (length xs) k) [
      | inl past ↦ absurd (omega (arith, nth_at xs k 0 a, get_or_past xs (k - 1) 0 (omega arith)))
      | inr in' ↦ in'
    ]

-- not moved at all
pub moved_none : (end : End) (r : Range) (k : ℕ) → 1 ≤ k → moved end r k 0 ≡ r
moved_none Low r k h = ap (with_low r k) (omega arith) ∙ ap (λ xs. record { lows = xs; highs = r.highs }) (put_same r.lows k 0 h)
moved_none High r k h = ap (with_high r k) (omega arith) ∙ ap (λ xs. record { lows = r.lows; highs = xs }) (put_same r.highs k 0 h)

module _ (rows : List Row) (r : Range) (within : Within rows r) (k : ℕ) (names : Names rows k) where
  abbrev w : ((row rows k).wcet ≤ low r k) × (low r k ≤ high r k) × (high r k ≤ (row rows k).deadline)
  w = within k names

  pub reach_short : (end : End) → reach end rows r k < 1000000
  reach_short Low = omega (arith, w.0, w.1, w.2, (row rows k).ok)
  reach_short High = omega (arith, w.0, w.1, w.2, (row rows k).ok)

  low_here : (v : ℕ) → low (with_low r k v) k ≡ v
  low_here v = nth_put_same r.lows k v 0 names.0 (stands r.lows k names.0 (omega (arith, w.0, (row rows k).ok)))

  high_here : (v : ℕ) → high (with_high r k v) k ≡ v
  high_here v = nth_put_same r.highs k v 0 names.0 (stands r.highs k names.0 (omega (arith, w.0, w.1, (row rows k).ok)))

  -- a row's low once row k's is moved out, and its high
  low_moved : (by j : ℕ) → ((j ≡ k) × (low (moved Low r k by) j ≡ low r j - by)) ⊎ (low (moved Low r k by) j ≡ low r j)
  low_moved by j = elim (cases_eq j k) [
    | inl e ↦ inl (e, ap (low (moved Low r k by)) e ∙ low_here (low r k - by) ∙ ap (λ i. low r i - by) (sym e))
    | inr d ↦ inr (nth_put_other r.lows k j (low r k - by) 0 d)
  ]

  high_moved : (by j : ℕ) → ((j ≡ k) × (high (moved High r k by) j ≡ high r j + by)) ⊎ (high (moved High r k by) j ≡ high r j)
  high_moved by j = elim (cases_eq j k) [
    | inl e ↦ inl (e, ap (high (moved High r k by)) e ∙ high_here (high r k + by) ∙ ap (λ i. high r i + by) (sym e))
    | inr d ↦ inr (nth_put_other r.highs k j (high r k + by) 0 d)
  ]

  pub moved_within : (end : End) (by : ℕ) → by ≤ reach end rows r k → Within rows (moved end r k by)
  moved_within Low by h j nj = let wj = within j nj in elim (low_moved by j) [
    | inl at ↦ (omega (arith, at.1, ap (reach Low rows r) at.0, wj.0), omega (arith, at.1, wj.1), wj.2)
    | inr is ↦ (omega (arith, is, wj.0), omega (arith, is, wj.1), wj.2)
  ]
  moved_within High by h j nj = let wj = within j nj in elim (high_moved by j) [
    | inl at ↦ (wj.0, omega (arith, at.1, wj.1), omega (arith, at.1, ap (reach High rows r) at.0, wj.2))
    | inr is ↦ (wj.0, omega (arith, is, wj.1), omega (arith, is, wj.2))
  ]

  -- with an end moved out it contains what it was
  pub moved_wider : (end : End) (by : ℕ) → Contains rows (moved end r k by) r
  moved_wider Low by j nj = elim (low_moved by j) [ inl at ↦ (omega (arith, at.1), omega arith) | inr is ↦ (omega (arith, is), omega arith) ]
  moved_wider High by j nj = elim (high_moved by j) [ inl at ↦ (omega arith, omega (arith, at.1)) | inr is ↦ (omega arith, omega (arith, is)) ]

  -- what contains it still does once an end is moved out, no farther than its own
  pub moved_inside : (end : End) (v : Range) → Within rows v → Contains rows v r → (by : ℕ) → by + reach end rows v k ≤ reach end rows r k → Contains rows v (moved end r k by)
  moved_inside Low v hv c by h j nj = let cj = c j nj in elim (low_moved by j) [
    | inl at ↦ (omega (arith, at.1, ap (reach Low rows r) at.0, ap (reach Low rows v) at.0, (hv j nj).0, cj.0), cj.1)
    | inr is ↦ (omega (arith, is, cj.0), cj.1)
  ]
  moved_inside High v hv c by h j nj = let cj = c j nj in elim (high_moved by j) [
    | inl at ↦ (cj.0, omega (arith, at.1, ap (reach High rows r) at.0, ap (reach High rows v) at.0, (hv j nj).2, cj.1))
    | inr is ↦ (cj.0, omega (arith, is, cj.1))
  ]

  pub moved_twice : (end : End) (a b : ℕ) → moved end (moved end r k a) k b ≡ moved end r k (a + b)
  moved_twice Low a b =
      ap (with_low (with_low r k (low r k - a)) k) (omega (arith, low_here (low r k - a)))
      ∙ ap (λ xs. record { lows = xs; highs = r.highs }) (put_twice r.lows k (low r k - a) (low r k - (a + b)) names.0)
  moved_twice High a b =
      ap (with_high (with_high r k (high r k + a)) k) (omega (arith, high_here (high r k + a)))
      ∙ ap (λ xs. record { lows = r.lows; highs = xs }) (put_twice r.highs k (high r k + a) (high r k + (a + b)) names.0)

  pub reach_moved : (end : End) (a : ℕ) → reach end rows (moved end r k a) k ≡ reach end rows r k - a
  reach_moved Low a = omega (arith, low_here (low r k - a))
  reach_moved High a = omega (arith, high_here (high r k + a))

  pub moved_contains : (end : End) (a b : ℕ) → a ≤ b → b ≤ reach end rows r k → Contains rows (moved end r k b) (moved end r k a)
  moved_contains end a b h far = moved_inside end (moved end r k b) (moved_within end b far) (moved_wider end b) a (omega (arith, reach_moved end b))

-- the wider range has less room left
pub reach_wider : (rows : List Row) (v r : Range) → Contains rows v r → (k : ℕ) → Names rows k → (end : End) → reach end rows v k ≤ reach end rows r k
reach_wider rows v r c k names Low = omega (arith, (c k names).0)
reach_wider rows v r c k names High = omega (arith, (c k names).1)

-- an end written in its place
module _ (r : Range) (place by : ℕ) where
  pub low_written : record { lows = set r.lows place (get_or r.lows place 0 - by); highs = r.highs } ≡ moved Low r (place + 1) by
  low_written = ap (λ xs. record { lows = xs; highs = r.highs }) (put_written r.lows place 0 (λ v. v - by))

  pub high_written : record { lows = r.lows; highs = set r.highs place (get_or r.highs place 0 + by) } ≡ moved High r (place + 1) by
  high_written = ap (λ xs. record { lows = r.lows; highs = xs }) (put_written r.highs place 0 (λ v. v + by))

-- what the code reads of a row and of its low or high
module _ {shown rows : List Row} (same : shown ≡ rows) {place : ℕ} {one : Row} (is : one ≡ get_or shown place one) (r : Range) (within : Within rows r) (inside : place < length rows) where
  read : row rows (place + 1) ≡ one
  read = row_read rows place one inside (subst (λ xs. one ≡ get_or xs place one) same is)

  pub room_low : (one.wcet ≤ get_or r.lows place 0) × (get_or r.lows place 0 - one.wcet ≡ reach Low rows r (place + 1))
  room_low =
      let wcet = ap (λ (q : Row). q.wcet) read in
      let w = within (place + 1) (omega arith, omega arith) in
      (omega (arith, nth_next r.lows place 0, w.0), omega (arith, nth_next r.lows place 0))

  pub room_high : (get_or r.highs place 0 ≤ one.deadline) × (one.deadline - get_or r.highs place 0 ≡ reach High rows r (place + 1))
  room_high =
      let deadline = ap (λ (q : Row). q.deadline) read in
      let w = within (place + 1) (omega arith, omega arith) in
      (omega (arith, nth_next r.highs place 0, w.2), omega (arith, nth_next r.highs place 0))
