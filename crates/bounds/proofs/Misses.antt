-- Going down an order to the first task that misses its estimate.
use Rattle.std.proofs.Common.{◌≡◌, ℕ, ◌+◌, ◌-◌, ◌<◌, Bool, true, false, List, length, get_or, set, replicate, Some, Option, sym, refl, ap, ◌∙◌, subst, inl, inr, arith}
use Rattle.std.proofs.lemmas.Bool.{cases_eq}
use Rattle.table.specs.declared.row.Row.{Row}
use Rattle.table.proofs.Placed.{put_at, nth_at}
use Rattle.bounds.specs.Questions.{Meaning, question, NoMore}
use Rattle.bounds.specs.Orders.{task_at, Order, first, padded, answer_with, MeetsAt, FirstMiss}
use Rattle.bounds.proofs.Descents.{first_none, first_more}

module _ (meaning : Meaning) (rows : List Row) (order es : List ℕ) where
  -- the first p tasks are above, and meet their estimates
  pub record Met (above : List Bool) (p : ℕ) : Type 0 where
    pub above_is : above ≡ first order p
    pub meet : (q : ℕ) → q < p → MeetsAt meaning rows order es q

  pub met_none : Met (replicate 32 false) 0
  met_none = record { above_is = sym (first_none order); meet = λ q l. absurd (omega arith) }

  module _ (above : List Bool) (p : ℕ) (met : Met above p) (o : Order rows order) (l : p < length rows) (bound : Option ℕ) (asked : bound ≡ meaning (question rows (task_at order p) above (padded es))) where
    abbrev task : ℕ
    task = task_at order p

    answered : bound ≡ answer_with meaning rows order (padded es) p
    answered = asked ∙ ap (λ s. meaning (question rows task s (padded es))) met.above_is

    -- the task's answer against its own estimate
    meets_at : NoMore bound (Some (get_or es (task - 1) 0)) ≡ MeetsAt meaning rows order es p
    meets_at = ap (λ b. NoMore b (Some (get_or es (task - 1) 0))) answered ∙ ap (λ x. NoMore (answer_with meaning rows order (padded es) p) (Some x)) (sym (nth_at es task 0 (o.each p l).0))

    pub met_more : NoMore bound (Some (get_or es (task - 1) 0)) → Met (set above (task - 1) true) (p + 1)
    met_more h = record {
      above_is = ap (λ s. set s (task - 1) true) met.above_is ∙ sym (put_at (first order p) task true (o.each p l).0) ∙ sym (first_more order p);
      meet = λ q m. elim (cases_eq q p) [
        | inl e ↦ subst (MeetsAt meaning rows order es) (sym e) (subst (λ X. X) meets_at h)
        | inr d ↦ met.meet q (omega arith)
      ];
    }

    pub miss_found : (NoMore bound (Some (get_or es (task - 1) 0)) → ⊥) → FirstMiss meaning rows order es (Some (record { task = task; bound = bound }))
    miss_found h = (p, omega (arith, o.size), refl, sym answered, (λ m. h (subst (λ X. X) (sym meets_at) m)), met.meet)
