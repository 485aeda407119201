-- The climb skips no window that fits.
use Rattle.std.proofs.Common.{◌≡◌, ℕ, ◌+◌, ◌-◌, ◌*◌, ◌/◌, ◌<◌, ◌≤◌, min, max, Bool, true, false, cond, ltb, leb, List, Some, None, sym, ap, ◌∙◌, subst, inl, inr, mul-le-mul_right, mul_comm, add-mul, div-mul-le_self, arith}
use Rattle.std.proofs.lemmas.Nat.{div_below, le-div}
use Rattle.std.proofs.lemmas.Bool.{cases_Bool, cases_lt, cond-true, cond-false, ltb-true, ltb-false, le-leb, lt-leb}
use Rattle.table.specs.declared.row.Row.{Row}
use Rattle.table.specs.Places.{nth}
use Rattle.bounds.specs.declared.tally.Tally.{Tally}
use Rattle.bounds.specs.Loads.{cap_of}
use Rattle.bounds.specs.Responses.{least_fit}
use Rattle.bounds.specs.Climbs.{capped_total, Uncapped, Tallied, NoneFit}
use Rattle.bounds.specs.Sums.{sum_mono}
use Rattle.bounds.proofs.Summing.{sum_add, total_constant}
use Rattle.bounds.proofs.Firsts.{least_found, least_missing}

-- y' ≤ x / d says d · y' ≤ x
below_div : (x d y : ℕ) → y ≤ x / d → d * y ≤ x
below_div x d y h = omega (arith, mul-le-mul_right {m = y} {n = x / d} d h, div-mul-le_self x d, mul_comm d y)

-- a cap below which none can do, by the loads above the cap and the rest
abbrev jump : Tally → ℕ → ℕ
jump t m = cond (ltb t.over m) (min (t.rest / (m - t.over) + 1) (t.least + 1)) (t.least + 1)

-- the next cap to try on m processors
abbrev pub next_cap : Tally → ℕ → ℕ
next_cap t m = max (t.sum / m + 1) (jump t m)

-- it is above each cap that the sum alone rules out
pub next_rises : (t : Tally) (m y : ℕ) → 0 < m → m * y ≤ t.sum → y < next_cap t m
next_rises t m y pos h = omega (arith, le-div y t.sum m pos (omega (arith, mul_comm y m)))

module _ (loads : List ℕ) (y : ℕ) (t : Tally) (tallied : Tallied loads 32 y t) where
  abbrev big : ℕ → Bool
  big k = ltb y (nth loads k 0)

  rises : (z : ℕ) → y ≤ z → capped_total loads 32 y ≤ capped_total loads 32 z
  rises z h = sum_mono _ _ 32 (λ k low high. omega arith)

  -- up to a number that each of the others is at least, each of those is at the cap
  split : (z : ℕ) → y ≤ z → z ≤ t.least → t.over * z + t.rest ≤ capped_total loads 32 z
  split z h le =
      let parts = sum_mono (λ k. cond (big k) z 0 + cond (big k) 0 (nth loads k 0)) (λ k. min (nth loads k 0) z) 32 (λ k low high. elim (cases_Bool (big k)) [
        | inl y ↦ omega (arith, cond-true (big k) 0 (nth loads k 0) y, cond-true (big k) z 0 y, tallied.least k low high (ltb-true _ (nth loads k 0) y))
        | inr s ↦ omega (arith, cond-false (big k) 0 (nth loads k 0) s, cond-false (big k) z 0 s, ltb-false y (nth loads k 0) s)
      ]) in
      omega (arith, parts, sum_add (λ k. cond (big k) z 0) (λ k. cond (big k) 0 (nth loads k 0)) 32, total_constant big z 32, ap (λ o. o * z) tallied.over, tallied.rest)

  -- no cap from y on that the loads above the cap and the rest rule out can do
  jumps : (m z : ℕ) → y ≤ z → z < jump t m → m * z ≤ capped_total loads 32 z
  jumps m z h lt =
      let few = ltb t.over m in
      let both = min (t.rest / (m - t.over) + 1) (t.least + 1) in
      elim (cases_Bool few) [
        | inl yes' ↦
            let is = cond-true few both (t.least + 1) yes' in
            let fewer = ltb-true t.over m yes' in
            let sum : m ≡ t.over + (m - t.over) = omega arith in
            omega (arith, below_div t.rest (m - t.over) z (omega arith), split z h (omega arith), ap (λ k. k * z) sum, add-mul t.over (m - t.over) z)
        | inr no' ↦
            let is = cond-false few both (t.least + 1) no' in
            omega (arith, split z h (omega arith), mul-le-mul_right {m = m} {n = t.over} z (ltb-false t.over m no'))
      ]

  -- no cap from y on and below the next one can do
  pub skips : (m z : ℕ) → 0 < m → y ≤ z → z < next_cap t m → m * z ≤ capped_total loads 32 z
  skips m z pos h lt =
      elim (cases_lt z (t.sum / m + 1)) [
        | inl near ↦ omega (arith, below_div t.sum m z (omega arith), tallied.sum, rises z h)
        | inr far ↦ jumps m z h (omega arith)
      ]

-- a window fits exactly when its load is below m times its cap
module _ (m : ℕ) (pos : 0 < m) (i : Row) (load : ℕ → ℕ) (l : ℕ) (low : i.wcet ≤ l) where
  pub fits_below : load l < m * cap_of i l → leb (i.wcet + load l / m) l ≡ true
  fits_below h = le-leb _ _ (omega (arith, div_below (load l) m (cap_of i l) pos (omega (arith, mul_comm (cap_of i l) m))))

  pub misses_above : m * cap_of i l ≤ load l → leb (i.wcet + load l / m) l ≡ false
  misses_above h = lt-leb _ _ (omega (arith, le-div (cap_of i l) (load l) m pos (omega (arith, mul_comm (cap_of i l) m))))

-- no window below the cap y fits
abbrev pub Passed : ℕ → Row → (ℕ → ℕ) → ℕ → Type 0
Passed m i load y = (l : ℕ) → i.wcet ≤ l → cap_of i l < y → leb (i.wcet + load l / m) l ≡ false

module _ (m : ℕ) (pos : 0 < m) (i : Row) (load : ℕ → ℕ) (y : ℕ) (from : 1 ≤ y) (passed : Passed m i load y) where
  pub climbed : y ≤ cap_of i i.deadline → load (i.wcet + y - 1) < m * y → least_fit m i load ≡ Some (i.wcet + y - 1)
  climbed in' h =
      let cap : cap_of i (i.wcet + y - 1) ≡ y = omega arith in
      least_found _ i.wcet (i.deadline - i.wcet + 1) (i.wcet + y - 1) (omega arith) (omega (arith, i.ok))
      (fits_below m pos i load (i.wcet + y - 1) (omega arith) (omega (arith, ap (λ k. m * k) cap)))
      (λ l low high. passed l low (omega arith))

  pub passed_all : cap_of i i.deadline < y → least_fit m i load ≡ None
  passed_all past = least_missing _ i.wcet (i.deadline - i.wcet + 1) (λ l low high. passed l low (omega (arith, i.ok)))

  pub passed_more : (loads : List ℕ) (z : ℕ) → Uncapped load i (i.wcet + y - 1) loads → NoneFit loads m y z → Passed m i load z
  passed_more loads z holds none l low high =
      elim (cases_lt (cap_of i l) y) [
        | inl before ↦ passed l low before
        | inr after ↦ misses_above m pos i load l low (omega (arith, none (cap_of i l) after high, holds.later l (omega arith)))
      ]

  -- what a turn of the climb shows, by the wcet that was read
  module _ (wcet : ℕ) (we : wcet ≡ i.wcet) (loads : List ℕ) (t : Tally) (holds : Uncapped load i (wcet + y - 1) loads) (tallied : Tallied loads 32 y t) where
    holds_here : Uncapped load i (i.wcet + y - 1) loads
    holds_here = subst (λ w. Uncapped load i (w + y - 1) loads) we holds

    pub turn_found : y ≤ cap_of i i.deadline → t.sum < m * y → Some (wcet + y - 1) ≡ least_fit m i load
    turn_found in' h =
        let l = i.wcet + y - 1 in
        let cap : cap_of i l ≡ y = omega arith in
        let sum : load l ≡ t.sum = sym holds_here.here ∙ ap (capped_total loads 32) cap ∙ sym tallied.sum in
        ap (λ w. Some (w + y - 1)) we ∙ sym (climbed in' (omega (arith, sum, h)))

    pub turn_passed : (z : ℕ) → NoneFit loads m y z → Passed m i load z
    turn_passed z none = passed_more loads z holds_here none
