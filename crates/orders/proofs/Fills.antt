-- Steps of the assigner's loop.
use Rattle.std.proofs.Common.{◌≡◌, ℕ, zero, suc, ◌+◌, ◌-◌, ◌<◌, ◌≤◌, Bool, true, false, List, [], ◌∷◌, length, get_or, take, drop, set, replicate, Some, None, Option, option_and_then, sym, refl, ap, ◌∙◌, arith}
use lib.Seq.{take-set-lt}
use Rattle.std.proofs.lemmas.List.{drop-set, length-take-le, drop_all, length-set, length-replicate, get_or-set_other}
use Rattle.table.specs.declared.row.Row.{Row}
use Rattle.table.specs.Places.{put}
use Rattle.table.proofs.Placed.{nth_at, nth_next, put_at, nth_replicate}
use Rattle.bounds.specs.Orders.{task_at}
use Rattle.bounds.specs.Responses.{least_from}
use Rattle.orders.specs.declared.range.Range.{Range}
use Rattle.orders.specs.Assigner.{at_most, full, candidate, fill, assigned}
use Rattle.bounds.specs.Questions.{Meaning, question}

-- the tasks placed so far, once one more is placed above them
placed_more : (tasks : List ℕ) (n level k : ℕ) → 0 < level → level ≤ n → n ≤ length tasks → k ∷ drop level (take n tasks) ≡ drop (level - 1) (take n (set tasks (level - 1) k))
placed_more tasks n level k pos le long =
    sym (
    ap (drop (level - 1)) (take-set-lt n tasks (level - 1) k (omega arith))
    ∙ drop-set (take n tasks) (level - 1) k (omega (arith, length-take-le n tasks long))
    ∙ ap (λ i. k ∷ drop i (take n tasks)) (let e : level - 1 + 1 ≡ level = omega arith in e)
    )

placed_none : (tasks : List ℕ) (n : ℕ) → n ≤ length tasks → drop n (take n tasks) ≡ []
placed_none tasks n long = drop_all n (take n tasks) (omega (arith, length-take-le n tasks long))

module _ (meaning : Meaning) (rows : List Row) (r : Range) where
  -- a candidate by what was read
  pub candidate_read : (left : List Bool) (k : ℕ) (a : Option ℕ) → 1 ≤ k → get_or left (k - 1) false ≡ true → a ≡ meaning (question rows k (put left k false) r.lows) → candidate meaning rows r left k ≡ at_most a (get_or r.highs (k - 1) 0)
  candidate_read left k a low y is = rw (nth_at left k false low, y, nth_at r.highs k 0 low, ← is) refl

  pub candidate_placed : (left : List Bool) (k : ℕ) → 1 ≤ k → get_or left (k - 1) false ≡ false → candidate meaning rows r left k ≡ false
  candidate_placed left k low z = rw (nth_at left k false low, z) refl

  fill_none : (l : ℕ) (left : List Bool) (placed : List ℕ) → l ≡ 0 → fill meaning rows r l left placed ≡ Some placed
  unfolding fill
  fill_none l left placed z = rw z refl

  -- the lowest level left is filled by the least candidate, if there is one
  fill_level : (l : ℕ) (left : List Bool) (placed : List ℕ) (found : Option ℕ) → 0 < l → found ≡ least_from (candidate meaning rows r left) 1 (length rows) → fill meaning rows r l left placed ≡ option_and_then (λ k. fill meaning rows r (l - 1) (put left k false) (k ∷ placed)) found
  unfolding fill
  fill_level zero left placed found h is = absurd (omega arith)
  fill_level (suc l) left placed found h is = let z : suc l - 1 ≡ l = omega arith in rw (is, z) refl

  -- The levels from this one up are filled: with what is left below, they give the assigner's order.
  pub record Filling (level : ℕ) (left : List Bool) (order : List ℕ) : Type 0 where
    long : length order ≡ 32
    rest : fill meaning rows r level left (drop level (take (length rows) order)) ≡ fill meaning rows r (length rows) (full (length rows)) []
    past : (p : ℕ) → length rows ≤ p → task_at order p ≡ 0

  module _ (few : length rows ≤ 32) where
    pub filling_none : (level : ℕ) (left : List Bool) → level ≡ length rows → left ≡ full level → Filling level left (replicate 32 0)
    filling_none level left e is = record {
      long = length-replicate {A = ℕ} 32 0;
      rest = rw (is, e) (ap (fill meaning rows r (length rows) (full (length rows))) (placed_none (replicate 32 0) (length rows) (omega (arith, length-replicate {A = ℕ} 32 0))));
      past = λ p _. sym (nth_next (replicate 32 0) p 0) ∙ nth_replicate 32 0 (p + 1);
    }

    module _ (level : ℕ) (left : List Bool) (order : List ℕ) (filling : Filling level left order) (pos : 0 < level) (le : level ≤ length rows) where
      abbrev placed : List ℕ
      placed = drop level (take (length rows) order)

      pub filling_more : (k : ℕ) → 1 ≤ k → Some k ≡ least_from (candidate meaning rows r left) 1 (length rows) → Filling (level - 1) (set left (k - 1) false) (set order (level - 1) k)
      filling_more k low is = record {
        long = length-set order (level - 1) k ∙ filling.long;
        rest = rw (← placed_more order (length rows) level k pos le (omega (arith, filling.long)), ← put_at left k false low) (sym (fill_level level left placed (Some k) pos is) ∙ filling.rest);
        past = λ p out. get_or-set_other order (level - 1) p k 0 (λ e. omega arith) ∙ filling.past p out;
      }

      pub filling_fails : None ≡ least_from (candidate meaning rows r left) 1 (length rows) → assigned meaning rows r ≡ None
      filling_fails is = sym filling.rest ∙ fill_level level left placed None pos is

  pub filling_all : (level : ℕ) (left : List Bool) (order : List ℕ) → Filling level left order → level ≡ 0 → (assigned meaning rows r ≡ Some (take (length rows) order)) × ((p : ℕ) → length rows ≤ p → task_at order p ≡ 0)
  filling_all level left order filling e =
      (sym filling.rest ∙ fill_none level left (drop level (take (length rows) order)) e ∙ ap (λ l. Some (drop l (take (length rows) order))) e, filling.past)
