-- The assigner finds an order exactly when the range is open, from the laws alone.
use Rattle.std.proofs.Common.{◌≡◌, ℕ, zero, suc, ◌+◌, ◌<◌, ◌≤◌, Bool, true, false, List, [], ◌∷◌, ◌++◌, length, take, Some, None, Option, option_and_then, sym, refl, ap, ◌∙◌, subst, inl, inr, add-one, arith, MatchOption}
use Rattle.std.proofs.lemmas.List.{append-nil, length-append, get_or_append_left, get_or_at, append_assoc}
use Rattle.std.proofs.lemmas.Option.{none-some, same_Some}
use Rattle.std.proofs.lemmas.Bool.{cases_eq, cases_lt, and_parts, and_from, both_ways, leb-true, le-leb, false≢true}
use Rattle.table.specs.declared.row.Row.{Row}
use Rattle.table.specs.Places.{nth, put}
use Rattle.table.proofs.Placed.{nth_put_same, nth_put_other, nth_replicate, length_put}
use Rattle.bounds.specs.Questions.{Meaning, question, Sound, In, NoMore, Laws}
use Rattle.bounds.specs.Loads.{sum_over}
use Rattle.bounds.specs.Orders.{task_at, Order, first}
use Rattle.bounds.specs.Responses.{least_from}
use Rattle.bounds.specs.Leasts.{least_is}
use Rattle.bounds.proofs.Firsts.{least_none, least_before}
use Rattle.bounds.proofs.Descents.{first_none, first_more}
use Rattle.bounds.specs.Sounds.{in_low}
use Rattle.orders.specs.declared.range.Range.{Range}
use Rattle.orders.specs.Ranges.{high, Within, Passes, Admits, Closed}
use Rattle.orders.specs.Assigner.{at_most, full, candidate, fill, assigned, Assigns, FindsIfOpen, LowestNumbered, FillsLowest}
use Rattle.orders.proofs.Sets.{out, was_in, still_in, put_back, first_length, member_first, not_first, every, same_set, first_same, count_all, count_out, none_in, full_length, full_in, full_out, first_out}
use Rattle.orders.proofs.Puts.{put_apart}

-- an answer is at most a number, computed and as a fact
pub at_most_from : (a : Option ℕ) (x : ℕ) → at_most a x ≡ true → NoMore a (Some x)
at_most_from None x h = absurd (false≢true h)
at_most_from (Some b) x h = leb-true b x h

pub at_most_test : (a : Option ℕ) (x : ℕ) → NoMore a (Some x) → at_most a x ≡ true
at_most_test None x h = absurd h
at_most_test (Some b) x h = le-leb b x h

at_most_some : (a : Option ℕ) (x : ℕ) → at_most a x ≡ true → (b : ℕ) × (a ≡ Some b)
at_most_some None x h = absurd (false≢true h)
at_most_some (Some b) x h = (b, refl)

at_most_less : (a b : Option ℕ) (x : ℕ) → NoMore a b → at_most b x ≡ true → at_most a x ≡ true
at_most_less None None x h y = y
at_most_less None (Some b) x h y = absurd h
at_most_less (Some a) None x h y = absurd (false≢true y)
at_most_less (Some a) (Some b) x h y = le-leb a x (omega (arith, h, leb-true b x y))

module _ {meaning : Meaning} (laws : Laws meaning) (rows : List Row) (r : Range) where
  abbrev ok : List Bool → ℕ → Bool
  ok = candidate meaning rows r

  ok_low : (left : List Bool) (k : ℕ) → ok left k ≡ true → 1 ≤ k
  ok_low left k h = in_low left k (and_parts (nth left k false) _ h).0

  -- fewer tasks are left: a task that passes still does
  fewer : (left : List Bool) (k p : ℕ) → (p ≡ k → ⊥) → ok left p ≡ true → ok (put left k false) p ≡ true
  fewer left k p d h =
      let parts = and_parts (nth left p false) _ h in
      let few = put (put left k false) p false in
      let got = at_most_some (meaning (question rows p (put left p false) r.lows)) (high r p) parts.1 in
      let sound = (laws.bound (question rows p (put left p false) r.lows) got.0 got.1).0 in
      let sub : (j : ℕ) → In few j → In (put left p false) j =
      λ j m. let a = was_in (put left k false) p j m in still_in left p j a.0 (was_in left k j a.1).1 in
      let small : Sound (question rows p few r.lows) = record {
        few = sound.few;
        names = sound.names;
        inside = λ j l m. sound.inside j l (sub j m);
        apart = both_ways _ (out (put left k false) p);
        lies = sound.lies;
      } in
      and_from (nth (put left k false) p false) _ (still_in left k p d parts.0)
      (at_most_less (meaning (question rows p few r.lows)) (meaning (question rows p (put left p false) r.lows)) (high r p) (laws.more (question rows p few r.lows) (put left p false) small sound sub) parts.1)

  -- l tasks of a set in an order from the lowest level up, each of which passes below those that are left
  data Fillable : ℕ → List Bool → Type 0 where
    none : {left : List Bool} → Fillable 0 left
    lowest : {l : ℕ} {left : List Bool} (k : ℕ) → k ≤ length rows → ok left k ≡ true → Fillable l (put left k false) → Fillable (suc l) left

  -- a task that passes may as well be the lowest
  exchange : (l : ℕ) (left : List Bool) (p : ℕ) → ok left p ≡ true → Fillable (suc l) left → Fillable l (put left p false)
  exchange zero left p h o = none
  exchange (suc l) left p h (lowest k inside passed rest) = elim (cases_eq k p) [
    | inl q ↦ subst (λ n. Fillable (suc l) (put left n false)) q rest
    | inr d ↦
        let later = exchange l (put left k false) p (fewer left k p (λ q. d (sym q)) h) rest in
        lowest k inside (fewer left p k d passed) (subst (Fillable l) (put_apart left k p false false (ok_low left k passed) (ok_low left p h) d) later)
  ]

  abbrev Nothing : ℕ → Type 0
  Nothing l = (left : List Bool) (placed : List ℕ) → fill meaning rows r l left placed ≡ None → Fillable l left → ⊥

  after : (l : ℕ) → Nothing l → (left : List Bool) (placed : List ℕ) (f : Option ℕ) → least_from (ok left) 1 (length rows) ≡ f → option_and_then (λ k. fill meaning rows r l (put left k false) (k ∷ placed)) f ≡ None → Fillable (suc l) left → ⊥
  after l below left placed None was is (lowest k inside passed rest) = least_none (ok left) 1 (length rows) was k (ok_low left k passed) (omega arith) passed
  after l below left placed (Some p) was is o = below (put left p false) (p ∷ placed) is (exchange l left p (least_is (ok left) 1 (length rows) p was).2 o)

  no_order : (l : ℕ) → Nothing l
  unfolding fill
  no_order zero left placed is o = none-some placed (sym is)
  no_order (suc l) left placed is o = after l (no_order l) left placed (least_from (ok left) 1 (length rows)) refl is o

  -- an order that passes fills the levels
  module _ (few : length rows ≤ 32) (order : List ℕ) (o : Order rows order) (passes : Passes meaning rows r order) where
    restored : (p : ℕ) → p < length rows → put (first order (p + 1)) (task_at order p) false ≡ first order p
    restored p l = ap (λ s. put s (task_at order p) false) (first_more order p) ∙ put_back (first order p) (task_at order p) false (not_first rows few order o p p (omega arith) l) (o.each p l).0

    fillable : (p : ℕ) → p ≤ length rows → Fillable p (first order p)
    fillable zero le = none
    fillable (suc p) le =
        let l : p < length rows = omega arith in
        let k = task_at order p in
        let same : first order (suc p) ≡ first order (p + 1) = ap (first order) (sym (add-one p)) in
        let passed : ok (first order (p + 1)) k ≡ true =
        and_from _ _ (ap (λ s. nth s k false) (first_more order p) ∙ nth_put_same (first order p) k true false (o.each p l).0 (omega (arith, (o.each p l).1, first_length order p)))
        (ap (λ s. at_most (meaning (question rows k s r.lows)) (high r k)) (restored p l) ∙ at_most_test _ _ (passes p (omega (arith, o.size)))) in
        subst (Fillable (suc p)) (sym same) (lowest k (o.each p l).1 passed (subst (Fillable p) (sym (restored p l)) (fillable p (omega arith))))

    first_full : first order (length rows) ≡ full (length rows)
    first_full = same_set _ _ (first_length order (length rows)) (full_length (length rows)) (λ k a b. elim (cases_lt (length rows) k) [
      | inl past ↦ first_out rows order o (length rows) k (omega arith) past ∙ sym (full_out (length rows) k past)
      | inr in' ↦ every rows few order o k (a, in') ∙ sym (full_in (length rows) k a in' b)
    ])

    pub not_none : fill meaning rows r (length rows) (full (length rows)) [] ≡ None → ⊥
    not_none is = no_order (length rows) (full (length rows)) [] is (subst (Fillable (length rows)) first_full (fillable (length rows) (omega arith)))

  -- an order of just the tasks of a set, each of which passes
  record Ordered (left : List Bool) (front : List ℕ) (l : ℕ) : Type 0 where
    size : length front ≡ l
    is : first front l ≡ left
    inside : (p : ℕ) → p < l → (1 ≤ task_at front p) × (task_at front p ≤ length rows)
    apart : (p q : ℕ) → p < l → q < l → task_at front p ≡ task_at front q → p ≡ q
    pass : (p : ℕ) → p < l → ok (first front (p + 1)) (task_at front p) ≡ true
    lowest : (p : ℕ) → p < l → (k : ℕ) → 1 ≤ k → k < task_at front p → ok (first front (p + 1)) k ≡ true → ⊥

  -- a set of l tasks of the table
  record Tasks (left : List Bool) (l : ℕ) : Type 0 where
    long : length left ≡ 32
    count : sum_over left (λ _. 1) (length rows) ≡ l
    named : (k : ℕ) → length rows < k → nth left k false ≡ false

  module _ (few : length rows ≤ 32) where
    ordered_none : (left : List Bool) → Tasks left 0 → Ordered left [] 0
    ordered_none left h = record {
      size = refl;
      is = same_set _ _ (first_length [] 0) h.long (λ k a b.
          ap (λ s. nth s k false) (first_none []) ∙ nth_replicate 32 false k
          ∙ sym (elim (cases_lt (length rows) k) [ inl past ↦ h.named k past | inr in' ↦ none_in left (length rows) h.count k a in' ]));
      inside = λ p l. absurd (omega arith);
      apart = λ p q l m e. absurd (omega arith);
      pass = λ p l. absurd (omega arith);
      lowest = λ p l. absurd (omega arith);
    }

    -- a task of the order is among its first ones
    in_front : (front : List ℕ) (l : ℕ) {left : List Bool} → Ordered left front l → (p : ℕ) → p < l → (k : ℕ) → task_at front p ≡ k → In (first front l) k
    in_front front l o p m k e = ap (λ j. nth (first front l) j false) (sym e) ∙ member_first front (length rows) few o.inside l p m (omega arith)

    ordered_more : (left : List Bool) (front : List ℕ) (l k : ℕ) → 1 ≤ k → k ≤ length rows → ok left k ≡ true → ((j : ℕ) → 1 ≤ j → j < k → ok left j ≡ true → ⊥) → Ordered (put left k false) front l → Ordered left (front ++ k ∷ []) (suc l)
    ordered_more left front l k low' high' passed least o =
        let all = front ++ k ∷ [] in
        let member = (and_parts (nth left k false) _ passed).0 in
        let before : (p : ℕ) → p < l → task_at all p ≡ task_at front p = λ p m. get_or_append_left front (k ∷ []) 0 p (omega (arith, o.size)) in
        let last : task_at all l ≡ k = get_or_at front k [] 0 l o.size in
        let firsts : (p : ℕ) → p ≤ l → first all p ≡ first front p = λ p m. first_same all front p (λ q n. before q (omega arith)) in
        let whole : first all (l + 1) ≡ left =
        first_more all l ∙ ap (λ s. put s (task_at all l) true) (firsts l (omega arith) ∙ o.is) ∙ ap (λ j. put (put left k false) j true) last ∙ put_back left k true member low' in
        let new : (p : ℕ) → p < l → task_at front p ≡ k → ⊥ =
        λ p m e. both_ways _ (out left k) (ap (λ s. nth s k false) (sym o.is) ∙ in_front front l o p m k e) in
        record {
          size = length-append front (k ∷ []) ∙ omega (arith, o.size);
          is = ap (first all) (sym (add-one l)) ∙ whole;
          inside = λ p m. elim (cases_eq p l) [
            | inl e ↦ let is = ap (task_at all) e ∙ last in (omega arith, omega arith)
            | inr d ↦ let is = before p (omega arith) in let in' = o.inside p (omega arith) in (omega (arith, in'.0), omega (arith, in'.1))
          ];
          apart = λ p q m n e. elim (cases_eq p l) [
            | inl x ↦ elim (cases_eq q l) [ inl y ↦ omega arith | inr d ↦ absurd (new q (omega arith) (sym (before q (omega arith)) ∙ sym e ∙ ap (task_at all) x ∙ last)) ]
            | inr d ↦ elim (cases_eq q l) [ inl y ↦ absurd (new p (omega arith) (sym (before p (omega arith)) ∙ e ∙ ap (task_at all) y ∙ last)) | inr f ↦ o.apart p q (omega arith) (omega arith) (sym (before p (omega arith)) ∙ e ∙ before q (omega arith)) ]
          ];
          pass = λ p m. elim (cases_eq p l) [
            | inl e ↦ ap (λ i. ok (first all (i + 1)) (task_at all i)) e ∙ ap (λ s. ok s (task_at all l)) whole ∙ ap (ok left) last ∙ passed
            | inr d ↦ ap (λ s. ok s (task_at all p)) (firsts (p + 1) (omega arith)) ∙ ap (ok (first front (p + 1))) (before p (omega arith)) ∙ o.pass p (omega arith)
          ];
          lowest = λ p m j from below y. elim (cases_eq p l) [
            | inl e ↦ least j from (omega (arith, below, ap (task_at all) e ∙ last)) (sym (ap (λ i. ok (first all (i + 1)) j) e ∙ ap (λ s. ok s j) whole) ∙ y)
            | inr d ↦ o.lowest p (omega arith) j from (omega (arith, below, before p (omega arith))) (sym (ap (λ s. ok s j) (firsts (p + 1) (omega arith))) ∙ y)
          ];
        }

    abbrev Found' : ℕ → Type 0
    Found' l = (left : List Bool) (placed order : List ℕ) → Tasks left l → fill meaning rows r l left placed ≡ Some order → (front : List ℕ) × (order ≡ front ++ placed) × Ordered left front l

    found_after : (l : ℕ) → Found' l → (left : List Bool) (placed order : List ℕ) (f : Option ℕ) → Tasks left (suc l) → least_from (ok left) 1 (length rows) ≡ f → option_and_then (λ k. fill meaning rows r l (put left k false) (k ∷ placed)) f ≡ Some order → (front : List ℕ) × (order ≡ front ++ placed) × Ordered left front (suc l)
    found_after l below left placed order None h was is = absurd (none-some order is)
    found_after l below left placed order (Some k) h was is =
        let found = least_is (ok left) 1 (length rows) k was in
        let member = (and_parts (nth left k false) _ found.2).0 in
        let fewer' : Tasks (put left k false) l = record {
          long = length_put left k false ∙ h.long;
          count = omega (arith, h.count, count_out left k (length rows) h.long (omega (arith, found.1)) few member);
          named = λ j past. nth_put_other left k j false false (λ e. omega (arith, found.1)) ∙ h.named j past;
        } in
        let rest = below (put left k false) (k ∷ placed) order fewer' is in
        (rest.0 ++ k ∷ [], rest.1 ∙ sym (append_assoc rest.0 (k ∷ []) placed), ordered_more left rest.0 l k found.0 (omega (arith, found.1)) found.2 (least_before (ok left) 1 (length rows) k was) rest.2)

    found_all : (l : ℕ) → Found' l
    unfolding fill
    found_all zero left placed order h is = ([], sym (same_Some placed order is), ordered_none left h)
    found_all (suc l) left placed order h is = found_after l (found_all l) left placed order (least_from (ok left) 1 (length rows)) h refl is

    all_tasks : Tasks (full (length rows)) (length rows)
    all_tasks = record { long = full_length (length rows); count = count_all (full (length rows)) (length rows) (λ k a b. full_in (length rows) k a b (omega arith)); named = full_out (length rows) }

    -- what is found lists every row once and passes
    pub found_admits : (order : List ℕ) → fill meaning rows r (length rows) (full (length rows)) [] ≡ Some order → Admits meaning rows r order
    found_admits order is =
        let found = found_all (length rows) (full (length rows)) [] order all_tasks is in
        let o = found.2 in
        let same : order ≡ found.0 = found.1 ∙ append-nil found.0 in
        let lists : Order rows found.0 = record { size = o.size; each = o.inside; apart = o.apart } in
        let passes : Passes meaning rows r found.0 =
        λ p l. let m : p < length rows = omega (arith, o.size) in
        let back = ap (λ s. put s (task_at found.0 p) false) (first_more found.0 p) ∙ put_back (first found.0 p) (task_at found.0 p) false (not_first rows few found.0 lists p p (omega arith) m) (o.inside p m).0 in
        at_most_from _ _ (ap (λ s. at_most (meaning (question rows (task_at found.0 p) s r.lows)) (high r (task_at found.0 p))) (sym back) ∙ (and_parts (nth (first found.0 (p + 1)) (task_at found.0 p) false) _ (o.pass p m)).1) in
        subst (Admits meaning rows r) (sym same) (lists, passes)

    -- and on each level no lower-numbered task would pass
    found_lowest : (order : List ℕ) → fill meaning rows r (length rows) (full (length rows)) [] ≡ Some order → LowestNumbered meaning rows r order
    found_lowest order is =
        let found = found_all (length rows) (full (length rows)) [] order all_tasks is in
        subst (LowestNumbered meaning rows r) (sym (found.1 ∙ append-nil found.0))
        (λ p l k below member passes. found.2.lowest p l k (in_low _ k member) below (and_from (nth (first found.0 (p + 1)) k false) _ member (at_most_test _ _ passes)))

    -- the range is decided
    pub decided : (found : Option (List ℕ)) → assigned meaning rows r ≡ found → MatchOption found (Closed meaning rows r) (λ order. Admits meaning rows r order)
    decided None is = λ order admits. not_none few order admits.0 admits.1 is
    decided (Some order) is = found_admits order is

    -- what follows from the assigner's rule
    pub finds_if_open : (found : Option (List ℕ)) → Assigns meaning rows r found → FindsIfOpen meaning rows r found
    finds_if_open None is within = decided None (is.1 within)
    finds_if_open (Some tasks) is within = decided (Some (take (length rows) tasks)) (is.1 within).0

    pub fills_lowest : Within rows r → (found : Option (List ℕ)) → Assigns meaning rows r found → FillsLowest meaning rows r found
    fills_lowest within None is = tt
    fills_lowest within (Some tasks) is = found_lowest (take (length rows) tasks) (is.1 within).0
