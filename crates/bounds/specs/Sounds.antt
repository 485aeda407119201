-- The computed test of soundness says what Sound says.
use Rattle.std.specs.Prelude.{◌≡◌, ℕ, zero, suc, ◌≤◌, Bool, true, false, not, List, length, nat_le, refl}
use Rattle.std.proofs.Common.{sym, ap, ◌∙◌, inl, inr, arith}
use Rattle.std.proofs.lemmas.Bool.{cases_eq, cases_lt, cond-true, cond-false, and_parts, and_from, leb-true, le-leb, lt-leb, not-true, not_from_false, and_left, and_right, both_ways, cases_Bool, false≢true}
use Rattle.table.specs.Places.{nth}
use Rattle.table.specs.Rows.{row}
use Rattle.table.proofs.Placed.{nth_none}
use Rattle.bounds.specs.Questions.{Asked, Sound, In, all_to, liesb, sound_atb, soundb}

pub all_to_fails : (p : ℕ → Bool) (n k : ℕ) → 1 ≤ k → k ≤ n → p k ≡ false → all_to p n ≡ false
unfolding all_to
all_to_fails p zero k low high h = absurd (omega arith)
all_to_fails p (suc n) k low high h =
    elim (cases_eq k (suc n)) [
      | inl e ↦ and_left (p (suc n)) (all_to p n) (ap p (sym e) ∙ h)
      | inr d ↦ and_right (p (suc n)) (all_to p n) (all_to_fails p n k low (omega arith) h)
    ]

pub all_to_at : (p : ℕ → Bool) (n k : ℕ) → all_to p n ≡ true → 1 ≤ k → k ≤ n → p k ≡ true
all_to_at p n k h low high = elim (cases_Bool (p k)) [ inl y ↦ y | inr z ↦ absurd (both_ways (all_to p n) (all_to_fails p n k low high z) h) ]

pub all_to_from : (p : ℕ → Bool) (n : ℕ) → ((k : ℕ) → 1 ≤ k → k ≤ n → p k ≡ true) → all_to p n ≡ true
unfolding all_to
all_to_from p zero h = refl
all_to_from p (suc n) h = and_from (p (suc n)) (all_to p n) (h (suc n) (omega arith) (omega arith)) (all_to_from p n (λ k low high. h k low (omega arith)))

-- 0 is in no set
pub in_low : (s : List Bool) (k : ℕ) → In s k → 1 ≤ k
in_low s k h = elim (cases_eq k 0) [ inl z ↦ absurd (false≢true (sym (nth_none s false) ∙ ap (λ j. nth s j false) (sym z) ∙ h)) | inr d ↦ omega arith ]

module _ (q : Asked) where
  pub sound_from : soundb q ≡ true → Sound q
  sound_from h =
      let a = and_parts (nat_le (length q.rows) 32) _ h in
      let b = and_parts (nat_le 1 q.task) _ a.1 in
      let d = and_parts (nat_le q.task (length q.rows)) _ b.1 in
      let f = and_parts (not (nth q.above q.task false)) _ d.1 in
      let few = leb-true _ _ a.0 in
      let each = all_to_at (sound_atb q) 32 in
      record {
        few = few;
        names = (leb-true _ _ b.0, leb-true _ _ d.0);
        inside = λ k high m. let low = in_low q.above k m in elim (cases_lt (length q.rows) k) [
          | inl past ↦ absurd (both_ways (nth q.above k false) (not-true (nth q.above k false) (sym (cond-false (nat_le k (length q.rows)) (liesb (row q.rows k) (nth q.estimates k 0)) _ (lt-leb k (length q.rows) past)) ∙ each k f.1 low high)) m)
          | inr y ↦ (low, y)
        ];
        apart = both_ways (nth q.above q.task false) (not-true (nth q.above q.task false) f.0);
        lies = λ k m.
            let two = and_parts (nat_le (row q.rows k).wcet (nth q.estimates k 0)) _ (sym (cond-true (nat_le k (length q.rows)) _ (not (nth q.above k false)) (le-leb k (length q.rows) m.1)) ∙ each k f.1 m.0 (omega arith)) in
            (leb-true _ _ two.0, leb-true _ _ two.1);
      }

  pub sound_test : Sound q → soundb q ≡ true
  sound_test h =
      and_from _ _ (le-leb _ _ h.few) (and_from _ _ (le-leb _ _ h.names.0) (and_from _ _ (le-leb _ _ h.names.1)
      (and_from _ _ (not_from_false (nth q.above q.task false) (elim (cases_Bool (nth q.above q.task false)) [ inl y ↦ absurd (h.apart y) | inr n ↦ n ]))
      (all_to_from (sound_atb q) 32 (λ k low high. elim (cases_lt (length q.rows) k) [
        | inl past ↦ cond-false _ _ _ (lt-leb k (length q.rows) past) ∙ not_from_false (nth q.above k false) (elim (cases_Bool (nth q.above k false)) [ inl y ↦ absurd (omega (arith, h.inside k high y)) | inr n ↦ n ])
        | inr y ↦ cond-true _ _ _ (le-leb k (length q.rows) y) ∙ (let lies = h.lies k (low, y) in and_from _ _ (le-leb _ _ lies.0) (le-leb _ _ lies.1))
      ])))))
