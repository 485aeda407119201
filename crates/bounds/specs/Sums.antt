-- Sums over the rows 1 to n grow with their parts and with the set.
use Rattle.std.specs.Prelude.{ℕ, zero, suc, ◌≤◌, Bool, false, cond, List, if◌then◌else◌}
use Rattle.std.proofs.Common.{inl, inr, arith}
use Rattle.std.proofs.lemmas.Bool.{cases_Bool, cond-true, cond-false}
use Rattle.table.specs.Places.{nth}
use Rattle.bounds.specs.Questions.{In}
use Rattle.bounds.specs.Loads.{sum_to, sum_over}

pub sum_mono : (f g : ℕ → ℕ) (n : ℕ) → ((k : ℕ) → 1 ≤ k → k ≤ n → f k ≤ g k) → sum_to f n ≤ sum_to g n
unfolding sum_to
sum_mono f g zero h = omega arith
sum_mono f g (suc n) h = omega (arith, sum_mono f g n (λ k low high. h k low (omega arith)), h (suc n) (omega arith) (omega arith))

-- what one task adds to the total over a set grows with the set and with f
pub part_mono : (s u : List Bool) (f g : ℕ → ℕ) (k : ℕ) → (In s k → In u k) → (In s k → f k ≤ g k)
    → (if nth s k false then f k else 0) ≤ (if nth u k false then g k else 0)
part_mono s u f g k sub le =
    elim (cases_Bool (nth s k false)) [
      | inl y ↦ omega (arith, cond-true _ (f k) 0 y, cond-true _ (g k) 0 (sub y), le y)
      | inr z ↦ omega (arith, cond-false _ (f k) 0 z)
    ]

pub over_mono : (s u : List Bool) (f g : ℕ → ℕ) (n : ℕ) → ((k : ℕ) → In s k → In u k) → ((k : ℕ) → 1 ≤ k → k ≤ n → In s k → f k ≤ g k) → sum_over s f n ≤ sum_over u g n
over_mono s u f g n sub le = sum_mono _ _ n (λ k low high. part_mono s u f g k (sub k) (le k low high))
