-- Choosing the greatest number left, again and again, gives the greatest total.
use Rattle.std.proofs.Common.{◌≡◌, ℕ, zero, suc, ◌+◌, ◌-◌, ◌*◌, ◌<◌, ◌≤◌, Bool, true, false, cond, List, Some, None, length, get_or, set, replicate, sym, refl, ap, ◌∙◌, inl, inr, mul-zero, arith}
use Rattle.std.proofs.lemmas.List.{get_or-set_same, get_or-set_other, length-set, length-replicate}
use Rattle.std.proofs.lemmas.Bool.{cases_eq, cond-true, cond-false, both_ways}
use Rattle.table.specs.Places.{nth}
use Rattle.table.proofs.Placed.{nth_at, nth_next, nth_replicate}
use Rattle.bounds.specs.Loads.{sum_to, sum_over}
use Rattle.bounds.specs.Climbs.{Picked, GreatestLeft}
use Rattle.bounds.specs.Sounds.{in_low}
use Rattle.bounds.proofs.Summing.{sum_same, sum_part}
use Rattle.bounds.proofs.Greatests.{edge_best}
use Rattle.bounds.proofs.Listed.{none_seen}

pub count_none : (n : ℕ) → sum_over (replicate 32 false) (λ _. 1) n ≡ 0
unfolding sum_to
count_none zero = refl
count_none (suc n) = omega (arith, count_none n, cond-false {A = ℕ} (nth (replicate 32 false) (suc n) false) 1 0 (nth_replicate 32 false (suc n)))

-- one more is chosen
pub count_set : (s : List Bool) (p n : ℕ) → p < n → p < length s → get_or s p false ≡ false → sum_over (set s p true) (λ _. 1) n ≡ sum_over s (λ _. 1) n + 1
unfolding sum_to
count_set s p zero l long z = absurd (omega arith)
count_set s p (suc n) l long z =
    let u = set s p true in
    let at : (k : ℕ) → nth u (k + 1) false ≡ get_or u k false = λ k. nth_next u k false in
    elim (cases_eq p n) [
      | inl e ↦
          let front = sum_same (λ k. cond (nth u k false) 1 0) (λ k. cond (nth s k false) 1 0) n (λ k low high. ap (λ b. cond b 1 0) (nth_at u k false low ∙ get_or-set_other s p (k - 1) true false (λ q. omega arith) ∙ sym (nth_at s k false low))) in
          let new = cond-true {A = ℕ} (nth u (suc n) false) 1 0 (ap (λ k. nth u k false) (ap suc (sym e)) ∙ nth_at u (suc p) false (omega arith) ∙ ap (λ j. get_or u j false) (omega arith) ∙ get_or-set_same s p true false long) in
          let old = cond-false {A = ℕ} (nth s (suc n) false) 1 0 (ap (λ k. nth s k false) (ap suc (sym e)) ∙ nth_at s (suc p) false (omega arith) ∙ ap (λ j. get_or s j false) (omega arith) ∙ z) in
          omega (arith, front, new, old)
      | inr d ↦
          let same = ap (λ b. cond {A = ℕ} b 1 0) (nth_at u (suc n) false (omega arith) ∙ get_or-set_other s p (suc n - 1) true false (λ q. omega arith) ∙ sym (nth_at s (suc n) false (omega arith))) in
          omega (arith, count_set s p n (omega arith) long z, same)
    ]

-- r of the numbers are chosen, none of them 0, and no other is greater than one of them
pub record Picking (numbers : List ℕ) (chosen : List Bool) (r : ℕ) : Type 0 where
  pub long : length chosen ≡ 32
  pub positive : (j : ℕ) → get_or chosen j false ≡ true → (j < 32) × (0 < get_or numbers j 0)
  pub count : sum_over chosen (λ _. 1) 32 ≡ r
  pub edge : (x : ℕ) × ((j : ℕ) → get_or chosen j false ≡ true → x ≤ get_or numbers j 0) × ((j : ℕ) → j < 32 → get_or chosen j false ≡ false → get_or numbers j 0 ≤ x)

pub picking_none : (numbers : List ℕ) → Picking numbers (replicate 32 false) 0
picking_none numbers = record {
  long = length-replicate {A = Bool} 32 false;
  positive = λ j y. absurd (both_ways _ (none_seen j) y);
  count = count_none 32;
  edge = (sum_to (λ k. nth numbers k 0) 32, (λ j y. absurd (both_ways _ (none_seen j) y)), (λ j l z. omega (arith, sum_part (λ k. nth numbers k 0) 32 (j + 1) (omega arith) (omega arith), nth_next numbers j 0)));
}

module _ (numbers : List ℕ) (chosen : List Bool) (r : ℕ) (picking : Picking numbers chosen r) where
  pub picking_more : (p : ℕ) → GreatestLeft numbers chosen (Some p) → Picking numbers (set chosen p true) (r + 1)
  picking_more p (l, out, pos, best) =
      let here = get_or-set_same chosen p true false (omega (arith, picking.long)) in
      let other : (j : ℕ) → (j ≡ p → ⊥) → get_or (set chosen p true) j false ≡ get_or chosen j false = λ j d. get_or-set_other chosen p j true false d in
      record {
        long = length-set chosen p true ∙ picking.long;
        positive = λ j y. elim (cases_eq j p) [
          | inl e ↦ (omega arith, omega (arith, ap (λ k. get_or numbers k 0) e))
          | inr d ↦ picking.positive j (sym (other j d) ∙ y)
        ];
        count = count_set chosen p 32 l (omega (arith, picking.long)) out ∙ ap (λ x. x + 1) picking.count;
        edge = (
          get_or numbers p 0,
          (λ j y. elim (cases_eq j p) [
            | inl e ↦ omega (arith, ap (λ k. get_or numbers k 0) e)
            | inr d ↦ omega (arith, picking.edge.1 j (sym (other j d) ∙ y), picking.edge.2 p l out)
          ]),
          (λ j m z. elim (cases_eq j p) [
            | inl e ↦ omega (arith, ap (λ k. get_or numbers k 0) e)
            | inr d ↦ best j m (sym (other j d) ∙ z)
          ]),
        );
      }

  -- as many as may be are chosen, or nothing is left to gain
  picked : (c edge : ℕ) → r ≤ c → ((j : ℕ) → get_or chosen j false ≡ true → edge ≤ get_or numbers j 0) → ((j : ℕ) → j < 32 → get_or chosen j false ≡ false → get_or numbers j 0 ≤ edge) → c * edge ≤ r * edge → Picked numbers c chosen
  picked c edge le inner outer full = record {
    positive = λ k y.
        let low = in_low chosen k y in
        let is = picking.positive (k - 1) (sym (nth_at chosen k false low) ∙ y) in
        (low, omega (arith, is.0), omega (arith, is.1, nth_at numbers k 0 low));
    few = omega (arith, picking.count);
    best = edge_best (λ k. nth numbers k 0) c 32 edge (λ k. nth chosen k false)
        (λ k low high y. omega (arith, inner (k - 1) (sym (nth_at chosen k false low) ∙ y), nth_at numbers k 0 low))
        (λ k low high z. omega (arith, outer (k - 1) (omega arith) (sym (nth_at chosen k false low) ∙ z), nth_at numbers k 0 low))
        (omega (arith, full, ap (λ x. x * edge) picking.count));
  }

  pub picked_full : Picked numbers r chosen
  picked_full = picked r picking.edge.0 (omega arith) picking.edge.1 picking.edge.2 (omega arith)

  pub picked_early : (c : ℕ) → r ≤ c → GreatestLeft numbers chosen None → Picked numbers c chosen
  picked_early c le nothing = picked c 0 le (λ j y. omega arith) (λ j l z. omega (arith, nothing j l z)) (omega (arith, mul-zero c))
