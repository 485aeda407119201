-- Soundness, asked place by place: a test of every element of a list, or of every place below n, is the test of every number from 1 to n.
use Rattle.std.proofs.Common.{◌≡◌, ℕ, zero, suc, ◌+◌, ◌-◌, ◌<◌, ◌≤◌, Bool, true, false, not, ◌&&◌, List, length, take, get_or, leb, sym, refl, ap, ◌∙◌, subst, inl, inr, add-one, arith}
use Rattle.std.proofs.Math.Bool.{and_comm}
use Rattle.std.proofs.lemmas.List.{take_all}
use Rattle.std.proofs.lemmas.List.Folds.{list_all_more}
use Rattle.std.proofs.lemmas.List.FromFn.{length-range_with_len, get_or-range_with_len}
use Rattle.std.proofs.lemmas.Bool.{cases_Bool, cond-true, cond-false, and_from, and_left, and_right, le-leb, lt-leb, not_from_false, not_from_true}
use Rattle.std.specs.List.{list_all, range_with_len}
use Rattle.table.specs.declared.row.Row.{Row}
use Rattle.table.specs.Places.{nth}
use Rattle.table.specs.Rows.{row, Names}
use Rattle.table.proofs.Placed.{nth_next, nth_at}
use Rattle.bounds.specs.Questions.{Asked, SoundComputed, all_to, liesb, sound_atb, soundb}
use Rattle.bounds.specs.Sounds.{all_to_fails, sound_from, sound_test}
use Rattle.bounds.proofs.ReadRows.{row_read}

-- any test holds of every number from 1 to 0, since there is none
pub all_to_none : (p : ℕ → Bool) → all_to p 0 ≡ true
unfolding all_to
all_to_none p = refl

-- what holds of every number from 1 to k and of the one after k holds of every number to the one after k
pub all_to_more : (p : ℕ → Bool) (k : ℕ) → p (k + 1) ≡ true → all_to p k ≡ true → all_to p (k + 1) ≡ true
unfolding all_to
all_to_more p k h r = rw (add-one k) (and_from (p (suc k)) (all_to p k) (subst (λ n. p n ≡ true) (add-one k) h) r)

-- what holds of each of the first n elements of a list, by number
pub all_to_list : {A : Type 0} (q : A → Bool) (p : ℕ → Bool) (xs : List A) (d : A) (n : ℕ) → n ≤ length xs → ((i : ℕ) → i < n → q (get_or xs i d) ≡ p (i + 1)) → list_all q (take n xs) ≡ all_to p n
unfolding all_to
all_to_list q p xs d zero le same = refl
all_to_list q p xs d (suc n) le same =
    ap (λ i. list_all q (take i xs)) (sym (add-one n))
    ∙ list_all_more q xs n d (omega arith)
    ∙ and_comm (list_all q (take n xs)) (q (get_or xs n d))
    ∙ ap (λ b. b && list_all q (take n xs)) (same n (omega arith) ∙ ap p (add-one n))
    ∙ ap (λ b. p (suc n) && b) (all_to_list q p xs d n (omega arith) (λ i l. same i (omega arith)))

pub all_places : (p : ℕ → Bool) (n : ℕ) → list_all (λ j. p (j + 1)) (range_with_len 0 n) ≡ all_to p n
all_places p n =
    let places = range_with_len 0 n in
    let long = length-range_with_len 0 n in
    sym (ap (list_all (λ j. p (j + 1))) (take_all n places (omega arith)))
    ∙ all_to_list (λ j. p (j + 1)) p places 0 n (omega arith) (λ i l. ap p (omega (arith, get_or-range_with_len 0 n i 0 l)))

module _ (q : Asked) where
  pub sound_row : (place : ℕ) (r : Row) → place < length q.rows → r ≡ get_or q.rows place r → sound_atb q (place + 1) ≡ liesb r (get_or q.estimates place 0)
  sound_row place r h is =
      cond-true _ _ (not (nth q.above (place + 1) false)) (le-leb (place + 1) (length q.rows) (omega arith))
      ∙ ap (liesb (row q.rows (place + 1))) (nth_next q.estimates place 0)
      ∙ ap (λ (x : Row). liesb x (get_or q.estimates place 0)) (row_read q.rows place r h is)

  pub sound_past : (place : ℕ) → length q.rows ≤ place → sound_atb q (place + 1) ≡ not (get_or q.above place false)
  sound_past place h =
      cond-false _ (liesb (row q.rows (place + 1)) (nth q.estimates (place + 1) 0)) _ (lt-leb (place + 1) (length q.rows) (omega arith))
      ∙ ap not (nth_next q.above place false)

  -- a place at which the question is unsound makes it unsound
  pub unsound_at : (k : ℕ) → 1 ≤ k → k ≤ 32 → sound_atb q k ≡ false → soundb q ≡ false
  unsound_at k low high h =
      and_right (leb (length q.rows) 32) _ (and_right (leb 1 q.task) _ (and_right (leb q.task (length q.rows)) _ (and_right (not (nth q.above q.task false)) _ (all_to_fails (sound_atb q) 32 k low high h))))

  -- and so does a task that is above itself
  pub unsound_own : 1 ≤ q.task → get_or q.above (q.task - 1) false ≡ true → soundb q ≡ false
  unsound_own low h =
      and_right (leb (length q.rows) 32) _ (and_right (leb 1 q.task) _ (and_right (leb q.task (length q.rows)) _ (and_left (not (nth q.above q.task false)) _ (not_from_true (nth q.above q.task false) (nth_at q.above q.task false low ∙ h)))))

-- what is computed is what the facts say
pub sound_decides : SoundComputed
sound_decides q = (sound_from q, sound_test q)

pub sound_computed : (q : Asked) → length q.rows ≤ 32 → Names q.rows q.task → get_or q.above (q.task - 1) false ≡ false → all_to (sound_atb q) 32 ≡ true → soundb q ≡ true
sound_computed q few named own all =
    and_from _ _ (le-leb _ _ few) (and_from _ _ (le-leb _ _ named.0) (and_from _ _ (le-leb _ _ named.1) (and_from _ _ (not_from_false (nth q.above q.task false) (nth_at q.above q.task false named.0 ∙ own)) all)))

-- a question of a task that is in the table and not above itself is as sound as its places
pub sound_by_places : (q : Asked) → length q.rows ≤ 32 → Names q.rows q.task → get_or q.above (q.task - 1) false ≡ false → all_to (sound_atb q) 32 ≡ soundb q
sound_by_places q few named own =
    let all = all_to (sound_atb q) 32 in
    elim (cases_Bool all) [
      | inl y ↦ y ∙ sym (sound_computed q few named own y)
      | inr z ↦ z ∙ sym (and_right (leb (length q.rows) 32) _ (and_right (leb 1 q.task) _ (and_right (leb q.task (length q.rows)) _ (and_right (not (nth q.above q.task false)) all z))))
    ]
