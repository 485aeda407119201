-- The greatest number left: a run over the places that are not chosen and have a number above 0, for the one with the greatest.
use Rattle.std.proofs.Common.{◌≡◌, ℕ, zero, suc, ◌+◌, ◌<◌, ◌≤◌, Bool, true, false, not, ◌&&◌, ltb, List, ◌∷◌, get_or, Some, None, Option, MatchOption, IfSome, IsSomeAnd, [], sym, refl, ap, ◌∙◌, subst, inl, inr, arith}
use Rattle.std.proofs.lemmas.Bool.{cases_Bool, cases_eq, cases_lt, cond-true, cond-false, and_from, and_parts, both_ways, lt-ltb, ltb-true, not-true, not_from_false}
use Rattle.std.proofs.lemmas.Bool.Decides.{nat_tests}
use Rattle.std.proofs.lemmas.Iterator.{YieldsList, items_from_drains}
use Rattle.std.proofs.lemmas.List.{nil_from_length}
use Rattle.std.proofs.lemmas.List.Elements.{All-nil, All-contains, All-head, All-tail, All-same, filter_passes, All-filter, All-weaker}
use Rattle.std.proofs.lemmas.List.FromFn.{length-range_with_len, get_or-range_with_len}
use Rattle.std.proofs.iter.runs.Made.{took}
use Rattle.std.specs.List.{filter, range_with_len, All, Contains}
use Rattle.std.specs.Option.{option_map}
use Rattle.std.specs.Fn.{CalledAt}
use Rattle.std.specs.Ordering.{nat_cmp, is_gt}
use Rattle.std.specs.Iterator.{DrainsIf}
use Rattle.std.specs.Iterator.Runs.{Run, WholeRun, AnyItem, AllItems, NoKeyBeyond}
use mathlib.Core.List.{map-id}
use denote.Param.Members.{Mut}
use denote.Ref.{Bor}
use Rattle.table.specs.Places.{nth}
use Rattle.table.proofs.Placed.{nth_next}
use Rattle.bounds.specs.Climbs.{GreatestLeft, ZeroPast}

-- what holds of each place that passes a test holds at a place that does
each_left : (P : ℕ → Type 0) (t : ℕ → Bool) (a n j : ℕ) → All P (filter t (range_with_len a n)) → a ≤ j → j < a + n → t j ≡ true → P j
each_left P t a zero j all low high y = absurd (omega arith)
each_left P t a (suc n) j all low high y =
    let rest = filter t (range_with_len (a + 1) n) in
    elim (cases_Bool (t a)) [
      | inl h ↦
          let these = All-same P (a ∷ rest) _ (sym (cond-true (t a) (a ∷ rest) rest h)) all in
          elim (cases_eq j a) [ inl e ↦ subst P (sym e) (All-head P a rest these) | inr d ↦ each_left P t (a + 1) n j (All-tail P a rest these) (omega arith) (omega arith) y ]
      | inr h ↦
          let these = All-same P rest _ (sym (cond-false (t a) (a ∷ rest) rest h)) all in
          elim (cases_eq j a) [ inl e ↦ absurd (both_ways (t a) h (ap t (sym e) ∙ y)) | inr d ↦ each_left P t (a + 1) n j these (omega arith) (omega arith) y ]
    ]

-- a place is not chosen, and its number is above 0
abbrev pub is_left : List ℕ → List Bool → ℕ → Bool
is_left numbers chosen j = not (get_or chosen j false) && ltb 0 (get_or numbers j 0)

module _ (numbers : List ℕ) (chosen : List Bool) (n : ℕ) (few : n ≤ 32) (past : ZeroPast n numbers) where
  abbrev left : ℕ → Bool
  left = is_left numbers chosen

  passes : (j : ℕ) → get_or chosen j false ≡ false → 0 < get_or numbers j 0 → left j ≡ true
  passes j z h = and_from (not (get_or chosen j false)) _ (not_from_false (get_or chosen j false) z) (lt-ltb 0 (get_or numbers j 0) h)

  -- a number above 0 stands among the first n
  within : (j : ℕ) → j < 32 → 0 < get_or numbers j 0 → j < n
  within j l h = elim (cases_lt j n) [ inl m ↦ m | inr m ↦ absurd (omega (arith, past (j + 1) (omega arith) (omega arith), nth_next numbers j 0)) ]

  none_left : filter left (range_with_len 0 n) ≡ [] → GreatestLeft numbers chosen None
  none_left none = λ j l z. elim (cases_lt 0 (get_or numbers j 0)) [
    | inl h ↦ absurd (each_left (λ _. ⊥) left 0 n j (All-same (λ _. ⊥) _ [] none (All-nil (λ _. ⊥))) (omega arith) (omega (arith, within j l h)) (passes j z h))
    | inr h ↦ omega arith
  ]

  greatest_left : (m : ℕ) → Contains (filter left (range_with_len 0 n)) m → All (λ x. get_or numbers x 0 ≤ get_or numbers m 0) (filter left (range_with_len 0 n)) → GreatestLeft numbers chosen (Some m)
  greatest_left m has most =
      let places = range_with_len 0 n in
      let below : All (λ x. x < 32) places = λ k d l. let at = get_or-range_with_len 0 n k d (omega (arith, length-range_with_len 0 n)) in omega (arith, length-range_with_len 0 n) in
      let parts = and_parts (not (get_or chosen m false)) _ (All-contains (λ x. left x ≡ true) (filter left places) m (filter_passes left places) has) in (
        All-contains (λ x. x < 32) (filter left places) m (All-filter left (λ x. x < 32) places below) has,
        not-true (get_or chosen m false) parts.0,
        ltb-true 0 (get_or numbers m 0) parts.1,
        (λ j l z. elim (cases_lt 0 (get_or numbers j 0)) [
          | inl h ↦ each_left (λ x. get_or numbers x 0 ≤ get_or numbers m 0) left 0 n j most (omega arith) (omega (arith, within j l h)) (passes j z h)
          | inr h ↦ omega arith
        ]),
      )

-- what a run says of its items
module _ {S : Type 0} {steps : S → Option ℕ → S → Type 0} (p : Run steps) where
  item : (o : Option ℕ) (y : ℕ) (P : ℕ → Type 0) → option_map (λ z. z) o ≡ Some y → IfSome o P → P y
  item None y P no' h = absurd (let o : ◌≡◌ {A = ℕ} 0 1 = cc in omega arith)
  item (Some x) y P is h = let e : x ≡ y = cc in subst P e h

  all_items : (P : ℕ → Type 0) → AllItems p P → All P p.items
  all_items P h k d l = item (p.at k) (get_or p.items k d) P (p.reads k d (omega (arith, p.long))) (h k)

  some_item : (o : Option ℕ) (y m : ℕ) → option_map (λ z. z) o ≡ Some y → IsSomeAnd o (λ x. x ≡ m) → y ≡ m
  some_item None y m is h = absurd h
  some_item (Some x) y m is h = let e : x ≡ y = cc in sym e ∙ h

  any_item : (m : ℕ) → AnyItem p (λ x. x ≡ m) → Contains p.items m
  any_item m (k, l, h) = (k, omega (arith, p.long), some_item (p.at k) (get_or p.items k m) m (p.reads k m l) h)

not_above : (j k : ℕ) → is_gt (nat_cmp j k) ≡ false → j ≤ k
not_above j k h = grind (arith, nat_tests)

-- a whole run that is keyed by the numbers
module _ {S F : Type 0} {steps : S → Option ℕ → S → Type 0} {s : S} {g : Mut F (Bor ℕ × Unit {0}) ℕ} (f : F) (numbers : List ℕ) (chosen : List Bool) (n : ℕ) (few : n ≤ 32) (past : ZeroPast n numbers)
    (gives : YieldsList steps (λ x. x) s (filter (is_left numbers chosen) (range_with_len 0 n)))
    (keys : (x k : ℕ) (e : F) → CalledAt g f x k e → (e ≡ f) × (k ≡ get_or numbers x 0)) where
  items : (p : Run steps) → p.from ≡ s → p.whole ≡ true → p.items ≡ filter (is_left numbers chosen) (range_with_len 0 n)
  items p from whole =
      let ran = took p in
      sym (map-id p.items) ∙ items_from_drains p.items (subst (λ z. DrainsIf steps (Unit {0}) z p.items) from (ran.0, ran.1, λ _. ran.2 whole)) gives

  pub greatest_by_key : (r : Option ℕ) → WholeRun steps s (λ p. MatchOption r (p.len ≡ 0) (λ m. AnyItem p (λ x. x ≡ m) × NoKeyBeyond p g f is_gt nat_cmp m)) → GreatestLeft numbers chosen r
  greatest_by_key None (p, from, whole, none) = none_left numbers chosen n few past (sym (items p from whole) ∙ nil_from_length p.items (omega (arith, p.long)))
  greatest_by_key (Some m) (p, from, whole, found) =
      let is = items p from whole in
      let keyed = found.1 (λ (x, _) k e called. (keys x.now k e (record { shown = x; shows = refl; called = called })).0) in
      let key : ℕ → Type 0 = λ x. (j : ℕ) × CalledAt g f x j f × (is_gt (nat_cmp j keyed.0) ≡ false) in
      let less : (x : ℕ) → key x → get_or numbers x 0 ≤ get_or numbers m 0 = λ x (j, called, below). omega (arith, (keys x j f called).1, (keys m keyed.0 f keyed.1).1, not_above j keyed.0 below) in
      greatest_left numbers chosen n few past m
      (subst (λ xs. Contains xs m) is (any_item p m found.0))
      (subst (All (λ x. get_or numbers x 0 ≤ get_or numbers m 0)) is (All-weaker key _ less p.items (all_items p key keyed.2)))
