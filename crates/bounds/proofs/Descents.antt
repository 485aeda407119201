-- Going down an order: what the bounds found so far are.
use Rattle.std.proofs.Common.{◌≡◌, ℕ, zero, suc, ◌+◌, ◌-◌, ◌<◌, ◌≤◌, Bool, true, false, List, length, set, replicate, Some, None, sym, refl, ap, ◌∙◌, subst, inl, inr, add-one, arith}
use Rattle.std.proofs.lemmas.List.{length-set}
use Rattle.std.proofs.lemmas.Bool.{cases_eq}
use Rattle.table.specs.declared.row.Row.{Row}
use Rattle.table.specs.Places.{nth, put}
use Rattle.table.proofs.Placed.{put_at, nth_put_same, nth_put_other}
use Rattle.bounds.specs.Orders.{task_at, Order, first, wcets, estimated, answer_at, Bounded, Found}
use Rattle.bounds.specs.Questions.{Meaning, question}

pub first_none : (order : List ℕ) → first order 0 ≡ replicate 32 false
unfolding first
first_none order = refl

pub first_more : (order : List ℕ) (p : ℕ) → first order (p + 1) ≡ put (first order p) (task_at order p) true
unfolding first
first_more order p = rw (add-one p) refl

pub estimated_none : (rows : List Row) (order bounds : List ℕ) → estimated rows order bounds 0 ≡ wcets rows
unfolding estimated
estimated_none rows order bounds = refl

pub estimated_more : (rows : List Row) (order bounds : List ℕ) (p : ℕ) → estimated rows order bounds (p + 1) ≡ put (estimated rows order bounds p) (task_at order p) (nth bounds (task_at order p) 0)
unfolding estimated
estimated_more rows order bounds p = rw (add-one p) refl

-- the estimates below p tasks are settled by the bounds of these
pub estimated_same : (rows : List Row) (order a b : List ℕ) (p : ℕ) → ((q : ℕ) → q < p → nth a (task_at order q) 0 ≡ nth b (task_at order q) 0) → estimated rows order a p ≡ estimated rows order b p
unfolding estimated
estimated_same rows order a b zero same = refl
estimated_same rows order a b (suc p) same =
    ap (λ e. put e (task_at order p) (nth a (task_at order p) 0)) (estimated_same rows order a b p (λ q l. same q (omega arith)))
    ∙ ap (put (estimated rows order b p) (task_at order p)) (same p (omega arith))

module _ (meaning : Meaning) (rows : List Row) (order : List ℕ) where
  -- the first p tasks have their bounds, and the others have none
  pub record Reached (above : List Bool) (estimates bounds : List ℕ) (p : ℕ) : Type 0 where
    pub long : length bounds ≡ length rows
    pub above_is : above ≡ first order p
    pub estimates_are : estimates ≡ estimated rows order bounds p
    pub bounded : Bounded meaning rows order bounds p
    pub rest : (q : ℕ) → p ≤ q → q < length order → nth bounds (task_at order q) 0 ≡ 0

  pub reached_none : (above : List Bool) (estimates bounds : List ℕ) → length bounds ≡ length rows → above ≡ replicate 32 false → estimates ≡ wcets rows → ((k : ℕ) → nth bounds k 0 ≡ 0) → Reached above estimates bounds 0
  reached_none above estimates bounds long a e zeros = record {
    long = long;
    above_is = a ∙ sym (first_none order);
    estimates_are = e ∙ sym (estimated_none rows order bounds);
    bounded = λ q l. absurd (omega arith);
    rest = λ q _ _. zeros (task_at order q);
  }

  module _ (above : List Bool) (estimates bounds : List ℕ) (p : ℕ) (o : Order rows order) (r : Reached above estimates bounds p) where
    abbrev task : ℕ
    task = task_at order p

    -- the answer that the test gave
    pub answered : meaning (question rows task above estimates) ≡ answer_at meaning rows order bounds p
    answered = ap (λ s. meaning (question rows task s estimates)) r.above_is ∙ ap (λ e. meaning (question rows task (first order p) e)) r.estimates_are

    pub reached_late : p < length rows → meaning (question rows task above estimates) ≡ None → Found meaning rows order (Some task) bounds
    reached_late l late = (p, (omega (arith, o.size), r.bounded, sym answered ∙ late), refl, r.rest)

    pub reached_more : (b : ℕ) → p < length rows → meaning (question rows task above estimates) ≡ Some b → Reached (set above (task - 1) true) (set estimates (task - 1) b) (set bounds (task - 1) b) (p + 1)
    reached_more b l is =
        let row = o.each p l in
        let after = set bounds (task - 1) b in
        let written : put bounds task b ≡ after = put_at bounds task b row.0 in
        let here : nth after task 0 ≡ b = ap (λ xs. nth xs task 0) (sym written) ∙ nth_put_same bounds task b 0 row.0 (omega (arith, r.long)) in
        let other : (q : ℕ) → q < length rows → (q ≡ p → ⊥) → nth after (task_at order q) 0 ≡ nth bounds (task_at order q) 0 =
        λ q m d. ap (λ xs. nth xs (task_at order q) 0) (sym written) ∙ nth_put_other bounds task (task_at order q) b 0 (λ e. d (o.apart q p m l e)) in
        let kept : (n : ℕ) → n ≤ p → estimated rows order bounds n ≡ estimated rows order after n =
        λ n m. estimated_same rows order bounds after n (λ q k. sym (other q (omega arith) (λ e. omega arith))) in
        let same : (q : ℕ) → q ≤ p → answer_at meaning rows order after q ≡ answer_at meaning rows order bounds q =
        λ q m. ap (λ e. meaning (question rows (task_at order q) (first order q) e)) (sym (kept q m)) in
        record {
          long = length-set bounds (task - 1) b ∙ r.long;
          above_is = ap (λ s. set s (task - 1) true) r.above_is ∙ sym (put_at (first order p) task true row.0) ∙ sym (first_more order p);
          estimates_are =
              ap (λ e. set e (task - 1) b) (r.estimates_are ∙ kept p (omega arith))
              ∙ sym (put_at (estimated rows order after p) task b row.0)
              ∙ ap (put (estimated rows order after p) task) (sym here)
              ∙ sym (estimated_more rows order after p);
          bounded = λ q m. elim (cases_eq q p) [
            | inl e ↦ subst (λ i. answer_at meaning rows order after i ≡ Some (nth after (task_at order i) 0)) (sym e) (same p (omega arith) ∙ sym answered ∙ is ∙ ap Some (sym here))
            | inr d ↦ same q (omega arith) ∙ r.bounded q (omega arith) ∙ ap Some (sym (other q (omega arith) d))
          ];
          rest = λ q m n. other q (omega (arith, o.size)) (λ e. omega arith) ∙ r.rest q (omega arith) n;
        }
