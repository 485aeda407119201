-- An order holds or has a late task; one that holds passes its own bounds, and one that passes estimates holds below them.
use Rattle.std.proofs.Common.{◌≡◌, ℕ, zero, suc, ◌<◌, ◌≤◌, Bool, false, ◌⊎◌, List, length, replicate, Some, None, Option, sym, refl, ap, ◌∙◌, subst, inl, inr, arith}
use Rattle.std.proofs.lemmas.List.{length-replicate}
use Rattle.std.proofs.lemmas.Bool.{cases_eq}
use Rattle.table.specs.declared.row.Row.{Row}
use Rattle.table.specs.Places.{nth, put}
use Rattle.table.specs.Rows.{row, Names}
use Rattle.table.proofs.Placed.{nth_replicate, nth_put_same, nth_put_other, length_put}
use Rattle.bounds.specs.Questions.{Meaning, question, In, NoMore, Laws, Lies}
use Rattle.bounds.specs.Orders.{task_at, Order, first, padded, wcets, estimated, answer_at, Bounded, LateAt, Estimates, Holds, HasLate, PassesBy}
use Rattle.bounds.proofs.Comparing.{no_more_join}
use Rattle.bounds.proofs.Descents.{Reached, reached_none, reached_more, reached_late}
use Rattle.bounds.proofs.Holding.{holds_not_late}
use Rattle.bounds.proofs.Padded.{padded_at, padded_length}
use Rattle.bounds.proofs.Wcets.{wcets_at}
use Rattle.orders.specs.Ranges.{as_range, Passes}
use Rattle.orders.specs.Relations.{OneOrOther, PassesOwn, HoldsBelow, Relations}
use Rattle.orders.proofs.Narrows.{sound_down}
use Rattle.orders.proofs.Sets.{first_in, every}

module _ (meaning : Meaning) (rows : List Row) where
  -- the first p tasks of an order have their bounds
  abbrev Down : List ℕ → ℕ → Type 0
  Down order p = (above : List Bool) × (estimates : List ℕ) × (bounds : List ℕ) × Reached meaning rows order above estimates bounds p

  step : (order : List ℕ) → Order rows order → (p : ℕ) → p < length rows → (d : Down order p) → (a : Option ℕ) → meaning (question rows (task_at order p) d.0 d.1) ≡ a → Down order (suc p) ⊎ HasLate meaning rows order
  step order o p l d (Some b) is = inl (subst (Down order) (omega arith) (_, _, _, reached_more meaning rows order d.0 d.1 d.2 p o d.3 b l is))
  step order o p l d None is = let found = reached_late meaning rows order d.0 d.1 d.2 p o d.3 l is in inr (d.2, found.0, found.1)

  descend : (order : List ℕ) → Order rows order → (p : ℕ) → p ≤ length rows → Down order p ⊎ HasLate meaning rows order
  descend order o zero le = inl (replicate 32 false, wcets rows, replicate (length rows) 0, reached_none meaning rows order _ _ _ (length-replicate {A = ℕ} (length rows) 0) refl refl (λ k. nth_replicate (length rows) 0 k))
  descend order o (suc p) le =
      elim (descend order o p (omega arith)) [
        | inl d ↦ step order o p (omega arith) d _ refl
        | inr late ↦ inr late
      ]

  one_or_other : OneOrOther meaning rows
  one_or_other order o = (
    elim (descend order o (length rows) (omega arith)) [
      | inl d ↦ inl (d.2, subst (Bounded meaning rows order d.2) (sym o.size) d.3.bounded)
      | inr late ↦ inr late
    ],
    λ holds late. holds_not_late meaning rows order holds.0 late.0 late.1 holds.1 late.2,
  )

-- the estimates down an order: the bounds of the tasks above, and C for every other row
module _ (rows : List Row) (few : length rows ≤ 32) (order : List ℕ) (o : Order rows order) (bounds : List ℕ) where
  estimated_length : (p : ℕ) → length (estimated rows order bounds p) ≡ 32
  unfolding estimated
  estimated_length zero = padded_length _
  estimated_length (suc p) = length_put (estimated rows order bounds p) (task_at order p) (nth bounds (task_at order p) 0) ∙ estimated_length p

  -- what holds of each C and of each bound holds of each estimate
  estimated_each : (P : ℕ → ℕ → Type 0) → ((k : ℕ) → Names rows k → P k (row rows k).wcet) → (p : ℕ) → p ≤ length rows → ((q : ℕ) → q < p → P (task_at order q) (nth bounds (task_at order q) 0)) → (k : ℕ) → Names rows k → P k (nth (estimated rows order bounds p) k 0)
  unfolding estimated
  estimated_each P costs zero le found k names = subst (P k) (sym (wcets_at rows k few names)) (costs k names)
  estimated_each P costs (suc p) le found k names =
      let task = task_at order p in
      let before = estimated rows order bounds p in
      let v = nth bounds task 0 in
      elim (cases_eq k task) [
        | inl e ↦ subst (P k) (sym (ap (λ j. nth (put before task v) j 0) e ∙ nth_put_same before task v 0 (o.each p (omega arith)).0 (omega (arith, (o.each p (omega arith)).1, estimated_length p)))) (subst (λ j. P j v) (sym e) (found p (omega arith)))
        | inr d ↦ subst (P k) (sym (nth_put_other before task k v 0 d)) (estimated_each P costs p (omega arith) (λ q l. found q (omega arith)) k names)
      ]

  estimated_above : (p : ℕ) → p ≤ length rows → (q : ℕ) → q < p → nth (estimated rows order bounds p) (task_at order q) 0 ≡ nth bounds (task_at order q) 0
  unfolding estimated
  estimated_above zero le q l = absurd (omega arith)
  estimated_above (suc p) le q l =
      let task = task_at order p in
      let before = estimated rows order bounds p in
      let v = nth bounds task 0 in
      elim (cases_eq (task_at order q) task) [
        | inl e ↦ ap (λ j. nth (put before task v) j 0) e ∙ nth_put_same before task v 0 (o.each p (omega arith)).0 (omega (arith, (o.each p (omega arith)).1, estimated_length p)) ∙ ap (λ j. nth bounds j 0) (sym e)
        | inr d ↦ nth_put_other before task (task_at order q) v 0 d ∙ estimated_above p (omega arith) q (elim (cases_eq q p) [ inl e ↦ absurd (d (ap (task_at order) e)) | inr f ↦ omega arith ])
      ]

  -- every row has its place in the order
  placed : (k : ℕ) → Names rows k → (q : ℕ) × (q < length rows) × (task_at order q ≡ k)
  placed k names = first_in order (length rows) k (every rows few order o k names)

  module _ {meaning : Meaning} (laws : Laws meaning) where
    -- each bound lies from its row's C to its D
    bound_within : (p : ℕ) → Bounded meaning rows order bounds p → (q : ℕ) → q < p → Lies (row rows (task_at order q)) (nth bounds (task_at order q) 0)
    bound_within p bounded q l = let b = laws.bound (question rows (task_at order q) (first order q) (estimated rows order bounds q)) _ (bounded q l) in b.1

    -- the same by row number
    bounds_within : Bounded meaning rows order bounds (length order) → (k : ℕ) → Names rows k → Lies (row rows k) (nth bounds k 0)
    bounds_within bounded k names =
        let at = placed k names in
        let b = bound_within (length order) bounded at.0 (omega (arith, at.1, o.size)) in
        subst (λ j. Lies (row rows j) (nth bounds j 0)) at.2 b

    passes_own : length bounds ≡ length rows → Bounded meaning rows order bounds (length order) → PassesBy meaning rows (padded bounds) (padded bounds) order
    passes_own long bounded p l =
        let task = task_at order p in
        let inside : p < length rows = omega (arith, o.size) in
        let same : (k : ℕ) → Names rows k → nth (padded bounds) k 0 ≡ nth bounds k 0 = λ k names. padded_at bounds k names.0 (omega (arith, names.1)) in
        let within : (k : ℕ) → Names rows k → Lies (row rows k) (nth (padded bounds) k 0) =
        λ k names. subst (λ x. Lies (row rows k) x) (sym (same k names)) (bounds_within bounded k names) in
        let sound = (laws.bound (question rows task (first order p) (estimated rows order bounds p)) _ (bounded p l)).0 in
        let agree : (k : ℕ) → In (first order p) k → nth (estimated rows order bounds p) k 0 ≡ nth (padded bounds) k 0 =
        λ k y. let was = first_in order p k y in
        subst (λ j. nth (estimated rows order bounds p) j 0 ≡ nth (padded bounds) j 0) was.2 (estimated_above p (omega arith) was.0 was.1 ∙ sym (same (task_at order was.0) (o.each was.0 (omega (arith, was.1))))) in
        let is = laws.reads (question rows task (first order p) (estimated rows order bounds p)) (padded bounds) sound (sound_down rows few order o (padded bounds) within p inside) agree in
        subst (λ x. NoMore x (Some (nth (padded bounds) task 0))) (sym (bounded p l) ∙ is) (omega (arith, same task (o.each p inside)))

    module _ (e : List ℕ) (within : (k : ℕ) → Names rows k → Lies (row rows k) (nth e k 0)) (passes : PassesBy meaning rows e e order) where
      -- the next answer is at most its estimate, if the bounds so far are
      at_most : (p : ℕ) → p < length rows → Bounded meaning rows order bounds p → ((q : ℕ) → q < p → nth bounds (task_at order q) 0 ≤ nth e (task_at order q) 0) → NoMore (answer_at meaning rows order bounds p) (Some (nth e (task_at order p) 0))
      at_most p l bounded below =
          let est = estimated rows order bounds p in
          let inside = estimated_each (λ k v. Lies (row rows k) v) (λ k names. (omega arith, omega (arith, (row rows k).ok))) p (omega arith) (bound_within p bounded) in
          let less = estimated_each (λ k v. v ≤ nth e k 0) (λ k names. (within k names).0) p (omega arith) below in
          no_more_join (answer_at meaning rows order bounds p) (meaning (question rows (task_at order p) (first order p) e)) (Some (nth e (task_at order p) 0)) (laws.greater (question rows (task_at order p) (first order p) est) e (sound_down rows few order o est inside p l) (sound_down rows few order o e within p l) less) (passes p (omega (arith, o.size)))

      below_all : (p : ℕ) → p ≤ length rows → Bounded meaning rows order bounds p → (q : ℕ) → q < p → nth bounds (task_at order q) 0 ≤ nth e (task_at order q) 0
      below_all zero le bounded q l = absurd (omega arith)
      below_all (suc p) le bounded q l =
          let before = below_all p (omega arith) (λ i m. bounded i (omega arith)) in
          elim (cases_eq q p) [
            | inl same ↦ subst (λ i. nth bounds (task_at order i) 0 ≤ nth e (task_at order i) 0) (sym same) (subst (λ x. NoMore x (Some (nth e (task_at order p) 0))) (bounded p (omega arith)) (at_most p (omega arith) (λ i m. bounded i (omega arith)) before))
            | inr d ↦ before q (omega arith)
          ]

      never_late : (p : ℕ) → LateAt meaning rows order bounds p → ⊥
      never_late p late =
          let inside : p < length rows = omega (arith, late.0, o.size) in
          subst (λ x. NoMore x (Some (nth e (task_at order p) 0))) late.2 (at_most p inside late.1 (below_all p (omega arith) late.1))

      each_below : Bounded meaning rows order bounds (length order) → (k : ℕ) → Names rows k → nth bounds k 0 ≤ nth e k 0
      each_below bounded k names =
          let at = placed k names in
          subst (λ j. nth bounds j 0 ≤ nth e j 0) at.2 (below_all (length rows) (omega arith) (λ q l. bounded q (omega (arith, l, o.size))) at.0 at.1)

module _ {meaning : Meaning} (laws : Laws meaning) (rows : List Row) (few : length rows ≤ 32) where
  own_bounds : PassesOwn meaning rows
  own_bounds order bounds o long bounded = passes_own rows few order o bounds laws long bounded

  -- the bounds of an order that holds are a list of estimates that it passes
  pub own_estimates : (order : List ℕ) → Order rows order → Holds meaning rows order → (es : List ℕ) × Estimates rows es × Passes meaning rows (as_range es) order
  own_estimates order o holds =
      elim (descend meaning rows order o (length rows) (omega arith)) [
        | inl d ↦
            let bounds = d.2 in
            let bounded = subst (Bounded meaning rows order bounds) (sym o.size) d.3.bounded in
            (bounds, record { size = d.3.long; within = bounds_within rows few order o bounds laws bounded }, own_bounds order bounds o d.3.long bounded)
        | inr late ↦ absurd (holds_not_late meaning rows order holds.0 late.0 late.1 holds.1 late.2)
      ]

  holds_below : HoldsBelow meaning rows
  holds_below order es o est passes =
      let same : (k : ℕ) → Names rows k → nth (padded es) k 0 ≡ nth es k 0 = λ k names. padded_at es k names.0 (omega (arith, names.1, est.size)) in
      let within : (k : ℕ) → Names rows k → Lies (row rows k) (nth (padded es) k 0) =
      λ k names. subst (λ x. Lies (row rows k) x) (sym (same k names)) (est.within k names) in
      elim (one_or_other meaning rows order o).0 [
        | inl holds ↦ (holds.0, holds.1, λ k names. subst (λ x. nth holds.0 k 0 ≤ x) (same k names) (each_below rows few order o holds.0 laws (padded es) within passes holds.1 k names))
        | inr late ↦ absurd (never_late rows few order o late.0 laws (padded es) within passes late.1 late.2)
      ]

  pub related : Relations meaning rows
  related = record { either = one_or_other meaning rows; own = own_bounds; below = holds_below }
