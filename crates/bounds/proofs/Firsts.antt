-- What is found of least_from is the first number of which the test holds, and the least window that fits is the least.
use Rattle.std.proofs.Common.{◌≡◌, ℕ, zero, suc, ◌+◌, ◌-◌, ◌<◌, ◌≤◌, Bool, true, false, Some, None, Option, MatchOption, ◌≢◌, refl, sym, ap, ◌∙◌, subst, inl, inr, arith}
use Rattle.std.proofs.lemmas.Bool.{cases_Bool, cases_eq, cond-true, cond-false, leb-true, le-leb, both_ways}
use Rattle.std.proofs.lemmas.Option.{none-some}
use Rattle.table.specs.declared.row.Row.{Row}
use Rattle.bounds.specs.Responses.{least_from, least_fit, Least}
use Rattle.bounds.specs.Leasts.{least_is}

pub least_found : (p : ℕ → Bool) (k n b : ℕ) → k ≤ b → b < k + n → p b ≡ true → ((l : ℕ) → k ≤ l → l < b → p l ≡ false) → least_from p k n ≡ Some b
unfolding least_from
least_found p k zero b low high yes' no' = absurd (omega arith)
least_found p k (suc n) b low high yes' no' =
    elim (cases_eq k b) [
      | inl e ↦ cond-true (p k) (Some k) (least_from p (k + 1) n) (ap p e ∙ yes') ∙ ap Some e
      | inr d ↦ cond-false (p k) (Some k) (least_from p (k + 1) n) (no' k (omega arith) (omega arith)) ∙ least_found p (k + 1) n b (omega arith) (omega arith) yes' (λ l m h. no' l (omega arith) h)
    ]

pub least_missing : (p : ℕ → Bool) (k n : ℕ) → ((l : ℕ) → k ≤ l → l < k + n → p l ≡ false) → least_from p k n ≡ None
unfolding least_from
least_missing p k zero no' = refl
least_missing p k (suc n) no' = cond-false (p k) (Some k) (least_from p (k + 1) n) (no' k (omega arith) (omega arith)) ∙ least_missing p (k + 1) n (λ l m h. no' l (omega arith) (omega arith))

first_step : (p : ℕ → Bool) (k n : ℕ) (r : Option ℕ) → p k ≡ false → MatchOption r ((l : ℕ) → k + 1 ≤ l → l < k + 1 + n → p l ≢ true) (λ b. (l : ℕ) → k + 1 ≤ l → l < b → p l ≢ true) → MatchOption r ((l : ℕ) → k ≤ l → l < k + suc n → p l ≢ true) (λ b. (l : ℕ) → k ≤ l → l < b → p l ≢ true)
first_step p k n None z h = λ l low high y. elim (cases_eq l k) [ inl e ↦ both_ways (p k) z (ap p (sym e) ∙ y) | inr d ↦ h l (omega arith) (omega arith) y ]
first_step p k n (Some b) z h = λ l low high y. elim (cases_eq l k) [ inl e ↦ both_ways (p k) z (ap p (sym e) ∙ y) | inr d ↦ h l (omega arith) high y ]

-- before what was found the test does not hold, and where nothing was found it holds nowhere
first_is : (p : ℕ → Bool) (k n : ℕ) (r : Option ℕ) → least_from p k n ≡ r → MatchOption r ((l : ℕ) → k ≤ l → l < k + n → p l ≢ true) (λ b. (l : ℕ) → k ≤ l → l < b → p l ≢ true)
unfolding least_from
first_is p k zero None is = λ l low high y. omega arith
first_is p k zero (Some b) is = absurd (none-some b is)
first_is p k (suc n) r is =
    elim (cases_Bool (p k)) [
      | inl y ↦ subst (λ x. MatchOption x ((l : ℕ) → k ≤ l → l < k + suc n → p l ≢ true) (λ b. (l : ℕ) → k ≤ l → l < b → p l ≢ true)) (sym (cond-true (p k) (Some k) (least_from p (k + 1) n) y) ∙ is) (λ l low high _. omega arith)
      | inr z ↦ first_step p k n r z (first_is p (k + 1) n r (sym (cond-false (p k) (Some k) (least_from p (k + 1) n) z) ∙ is))
    ]

pub least_none : (p : ℕ → Bool) (k n : ℕ) → least_from p k n ≡ None → (l : ℕ) → k ≤ l → l < k + n → p l ≢ true
least_none p k n is = first_is p k n None is

pub least_before : (p : ℕ → Bool) (k n b : ℕ) → least_from p k n ≡ Some b → (l : ℕ) → k ≤ l → l < b → p l ≢ true
least_before p k n b is = first_is p k n (Some b) is

module _ (m : ℕ) (i : Row) (load : ℕ → ℕ) where
  least_of : (r : Option ℕ) → least_fit m i load ≡ r → Least m i load r
  least_of None is =
      let none = first_is _ i.wcet (i.deadline - i.wcet + 1) None is in
      λ l low high fits. none l low (omega (arith, i.ok)) (le-leb _ _ fits)
  least_of (Some b) is =
      let found = least_is _ i.wcet (i.deadline - i.wcet + 1) b is in
      let before = first_is _ i.wcet (i.deadline - i.wcet + 1) (Some b) is in
      (found.0, omega (arith, found.1, i.ok), leb-true _ _ found.2, λ l low high fits. before l low high (le-leb _ _ fits))

  pub fit_least : Least m i load (least_fit m i load)
  fit_least = least_of (least_fit m i load) refl
