-- An order's bounds are settled by the order, so no late task is found exactly when it holds.
use Rattle.std.proofs.Common.{◌≡◌, ℕ, zero, suc, ◌<◌, ◌≤◌, List, length, Some, None, Option, sym, refl, ap, ◌∙◌, subst, inl, inr, arith}
use Rattle.std.proofs.lemmas.Bool.{cases_eq}
use Rattle.std.proofs.lemmas.Option.{none-some, same_Some}
use Rattle.table.specs.declared.row.Row.{Row}
use Rattle.table.specs.Places.{nth}
use Rattle.bounds.specs.declared.miss.Miss.{Miss}
use Rattle.bounds.specs.Questions.{Meaning, question, NoMore}
use Rattle.bounds.specs.Orders.{task_at, Order, first, padded, answer_at, answer_with, Bounded, LateAt, Found, Holds, NoneWhen, MeetsAt, FirstMiss, PassesBy}
use Rattle.bounds.proofs.Descents.{estimated_same}
use Rattle.bounds.proofs.Padded.{padded_at}

module _ (meaning : Meaning) (rows : List Row) (order : List ℕ) where
  -- the answer below p tasks is settled by their bounds
  same_answer : (a b : List ℕ) (p : ℕ) → ((q : ℕ) → q < p → nth a (task_at order q) 0 ≡ nth b (task_at order q) 0) → answer_at meaning rows order a p ≡ answer_at meaning rows order b p
  same_answer a b p same = ap (λ e. meaning (question rows (task_at order p) (first order p) e)) (estimated_same rows order a b p same)

  pub same_bounds : (a b : List ℕ) (p : ℕ) → Bounded meaning rows order a p → Bounded meaning rows order b p → (q : ℕ) → q < p → nth a (task_at order q) 0 ≡ nth b (task_at order q) 0
  same_bounds a b zero ha hb q l = absurd (omega arith)
  same_bounds a b (suc p) ha hb q l =
      let before = same_bounds a b p (λ i m. ha i (omega arith)) (λ i m. hb i (omega arith)) in
      elim (cases_eq q p) [
        | inl e ↦ (let same = same_Some _ _ (sym (ha p (omega arith)) ∙ same_answer a b p before ∙ hb p (omega arith)) in ap (λ i. nth a (task_at order i) 0) e ∙ same ∙ ap (λ i. nth b (task_at order i) 0) (sym e))
        | inr d ↦ before q (omega arith)
      ]

  -- an order that holds has no late task
  pub holds_not_late : (a b : List ℕ) (p : ℕ) → Bounded meaning rows order a (length order) → LateAt meaning rows order b p → ⊥
  holds_not_late a b p ha late =
      let before : Bounded meaning rows order a p = λ q l. ha q (omega (arith, l, late.0)) in
      none-some _ (sym late.2 ∙ sym (same_answer a b p (same_bounds a b p before late.1)) ∙ ha p late.0)

  pub late_when : (late : Option ℕ) (bounds : List ℕ) → Found meaning rows order late bounds → NoneWhen late (Holds meaning rows order)
  late_when None bounds found = ((λ _. (bounds, found)), λ _. refl)
  late_when (Some k) bounds found = ((λ e. absurd (none-some k (sym e))), λ holds. absurd (holds_not_late holds.0 bounds found.0 holds.1 found.1))

  module _ (es : List ℕ) (long : length es ≡ length rows) (few : length rows ≤ 32) (o : Order rows order) where
    -- a row's estimate, filled up or not
    estimate_is : (p : ℕ) → p < length order → nth (padded es) (task_at order p) 0 ≡ nth es (task_at order p) 0
    estimate_is p l =
        let row = o.each p (omega (arith, o.size)) in
        padded_at es (task_at order p) row.0 (omega (arith, row.1))

    meets_is : (p : ℕ) → p < length order → NoMore (answer_with meaning rows order (padded es) p) (Some (nth (padded es) (task_at order p) 0)) ≡ MeetsAt meaning rows order es p
    meets_is p l = ap (λ x. NoMore (answer_with meaning rows order (padded es) p) (Some x)) (estimate_is p l)

    pub miss_when : (miss : Option Miss) → FirstMiss meaning rows order es miss → NoneWhen miss (PassesBy meaning rows (padded es) (padded es) order)
    miss_when None meets = ((λ _ p l. subst (λ X. X) (sym (meets_is p l)) (meets p l)), λ _. refl)
    miss_when (Some x) found = ((λ e. absurd (none-some x (sym e))), λ passes. absurd (found.4 (subst (λ X. X) (meets_is found.0 found.1) (passes found.0 found.1))))
