-- The tally of the loads, load by load.
use Rattle.std.proofs.Common.{◌≡◌, ℕ, ◌+◌, ◌-◌, ◌*◌, ◌<◌, ◌≤◌, min, false, cond, ltb, List, get_or, take, sym, ap, ◌∙◌, inl, inr, mul-one, arith}
use Rattle.std.proofs.lemmas.List.{get_or-take}
use Rattle.std.proofs.lemmas.Bool.{cases_eq, cases_lt, cases_Bool, cond-true, cond-false, lt-ltb, le-ltb, ltb-false}
use Rattle.table.specs.Places.{nth}
use Rattle.table.proofs.Placed.{nth_at, nth_next}
use Rattle.bounds.specs.declared.tally.Tally.{Tally}
use Rattle.bounds.specs.Climbs.{Tallied, ZeroPast}
use Rattle.bounds.proofs.Summing.{sum_none, sum_more, sum_le, sum_same, sum_past}

pub tallied_none : (loads : List ℕ) (y : ℕ) → Tallied loads 0 y (record { sum = 0; over = 0; least = 2000000; rest = 0 })
tallied_none loads y = record { sum = sym (sum_none _); over = sym (sum_none _); least = λ k low high. absurd (omega arith); rest = sym (sum_none _) }

module _ (loads : List ℕ) (p y : ℕ) (t : Tally) (tallied : Tallied loads p y t) where
  pub tallied_big : (least : ℕ) → least ≡ min t.least (get_or loads p 0) → y < get_or loads p 0 → Tallied loads (p + 1) y (record { sum = t.sum + y; over = t.over + 1; least = least; rest = t.rest })
  tallied_big least is h =
      let x = nth_next loads p 0 in
      let big = lt-ltb y (nth loads (p + 1) 0) (omega arith) in
      record {
        sum = omega (arith, tallied.sum, sum_more (λ k. min (nth loads k 0) y) p);
        over = omega (arith, tallied.over, sum_more (λ k. cond (ltb y (nth loads k 0)) 1 0) p, cond-true {A = ℕ} _ 1 0 big);
        least = λ k low high b. elim (cases_eq k (p + 1)) [ inl e ↦ omega (arith, ap (λ j. nth loads j 0) e) | inr d ↦ omega (arith, tallied.least k low (omega arith) b) ];
        rest = omega (arith, tallied.rest, sum_more (λ k. cond (ltb y (nth loads k 0)) 0 (nth loads k 0)) p, cond-true _ 0 (nth loads (p + 1) 0) big);
      }

  pub tallied_small : get_or loads p 0 ≤ y → Tallied loads (p + 1) y (record { sum = t.sum + get_or loads p 0; over = t.over; least = t.least; rest = t.rest + get_or loads p 0 })
  tallied_small h =
      let x = nth_next loads p 0 in
      let small = le-ltb y (nth loads (p + 1) 0) (omega arith) in
      record {
        sum = omega (arith, tallied.sum, sum_more (λ k. min (nth loads k 0) y) p);
        over = omega (arith, tallied.over, sum_more (λ k. cond (ltb y (nth loads k 0)) 1 0) p, cond-false {A = ℕ} _ 1 0 small);
        least = λ k low high b. elim (cases_eq k (p + 1)) [ inl e ↦ absurd (omega (arith, ap (λ j. nth loads j 0) e)) | inr d ↦ tallied.least k low (omega arith) b ];
        rest = omega (arith, tallied.rest, sum_more (λ k. cond (ltb y (nth loads k 0)) 0 (nth loads k 0)) p, cond-false _ 0 (nth loads (p + 1) 0) small);
      }

  pub tally_limits : y ≤ 1000000 → (t.sum ≤ p * 1000000) × (t.over ≤ p) × (t.rest ≤ p * 1000000)
  tally_limits short = (
    omega (arith, tallied.sum, sum_le (λ k. min (nth loads k 0) y) 1000000 p (λ k low high. omega arith)),
    omega (arith, tallied.over, mul-one p, sum_le (λ k. cond (ltb y (nth loads k 0)) 1 0) 1 p (λ k low high. elim (cases_Bool (ltb y (nth loads k 0))) [ inl b ↦ omega (arith, cond-true {A = ℕ} _ 1 0 b) | inr s ↦ omega (arith, cond-false {A = ℕ} _ 1 0 s) ])),
    omega (arith, tallied.rest, sum_le (λ k. cond (ltb y (nth loads k 0)) 0 (nth loads k 0)) 1000000 p (λ k low high. elim (cases_Bool (ltb y (nth loads k 0))) [ inl b ↦ omega (arith, cond-true _ 0 (nth loads k 0) b) | inr s ↦ omega (arith, cond-false _ 0 (nth loads k 0) s, ltb-false y (nth loads k 0) s) ])),
  )

-- loads that are 0 past the first n add nothing
pub tallied_past : (loads : List ℕ) (n y : ℕ) (t : Tally) → n ≤ 32 → ZeroPast n loads → Tallied (take n loads) n y t → Tallied loads 32 y t
tallied_past loads n y t few past tallied =
    let same : (k : ℕ) → 1 ≤ k → k ≤ n → nth (take n loads) k 0 ≡ nth loads k 0 = λ k low high. nth_at (take n loads) k 0 low ∙ get_or-take n loads (k - 1) 0 (omega arith) ∙ sym (nth_at loads k 0 low) in
    let small : (k : ℕ) → n < k → k ≤ 32 → ltb y (nth loads k 0) ≡ false = λ k low high. le-ltb y (nth loads k 0) (omega (arith, past k low high)) in
    record {
      sum = tallied.sum ∙ sum_same _ _ n (λ k low high. ap (λ x. min x y) (same k low high)) ∙ sym (sum_past (λ k. min (nth loads k 0) y) n 32 few (λ k low high. omega (arith, past k low high)));
      over = tallied.over ∙ sum_same _ _ n (λ k low high. ap (λ x. cond {A = ℕ} (ltb y x) 1 0) (same k low high)) ∙ sym (sum_past (λ k. cond (ltb y (nth loads k 0)) 1 0) n 32 few (λ k low high. cond-false {A = ℕ} _ 1 0 (small k low high)));
      least = λ k low high b. elim (cases_lt n k) [
        | inl l ↦ absurd (omega (arith, past k l high))
        | inr m ↦ omega (arith, tallied.least k low (omega arith) (omega (arith, same k low (omega arith))), same k low (omega arith))
      ];
      rest = tallied.rest ∙ sum_same _ _ n (λ k low high. ap (λ x. cond (ltb y x) 0 x) (same k low high)) ∙ sym (sum_past (λ k. cond (ltb y (nth loads k 0)) 0 (nth loads k 0)) n 32 few (λ k low high. cond-false _ 0 (nth loads k 0) (small k low high) ∙ past k low high));
    }
