-- Sums over the rows 1 to n: their turns, their parts, and what they come to at most.
use Rattle.std.proofs.Common.{◌≡◌, ℕ, zero, suc, ◌+◌, ◌*◌, ◌<◌, ◌≤◌, Bool, false, cond, List, get_or, refl, sym, ap, ◌∙◌, inl, inr, suc-mul, add-mul, zero-mul, one-mul, arith, add-one}
use Rattle.std.proofs.lemmas.Bool.{cases_Bool, cases_eq, cond-true, cond-false}
use Rattle.table.specs.Places.{nth}
use Rattle.table.proofs.Placed.{nth_next}
use Rattle.bounds.specs.Loads.{sum_to, total_of, sum_over}
use Rattle.bounds.specs.Sums.{sum_mono}

pub sum_none : (f : ℕ → ℕ) → sum_to f 0 ≡ 0
unfolding sum_to
sum_none f = refl

pub sum_more : (f : ℕ → ℕ) (n : ℕ) → sum_to f (n + 1) ≡ sum_to f n + f (n + 1)
unfolding sum_to
sum_more f n = rw (add-one n) refl

pub sum_same : (f g : ℕ → ℕ) (n : ℕ) → ((k : ℕ) → 1 ≤ k → k ≤ n → f k ≡ g k) → sum_to f n ≡ sum_to g n
sum_same f g n h = omega (arith, sum_mono f g n (λ k low high. omega (arith, h k low high)), sum_mono g f n (λ k low high. omega (arith, h k low high)))

pub sum_le : (f : ℕ → ℕ) (c n : ℕ) → ((k : ℕ) → 1 ≤ k → k ≤ n → f k ≤ c) → sum_to f n ≤ n * c
unfolding sum_to
sum_le f c zero h = omega arith
sum_le f c (suc n) h = omega (arith, sum_le f c n (λ k low high. h k low (omega arith)), h (suc n) (omega arith) (omega arith), suc-mul n c)

-- each part is at most the sum
pub sum_part : (f : ℕ → ℕ) (n k : ℕ) → 1 ≤ k → k ≤ n → f k ≤ sum_to f n
unfolding sum_to
sum_part f zero k low high = absurd (omega arith)
sum_part f (suc n) k low high = elim (cases_eq k (suc n)) [ inl e ↦ omega (arith, ap f e) | inr d ↦ omega (arith, sum_part f n k low (omega arith)) ]

pub sum_add : (f g : ℕ → ℕ) (n : ℕ) → sum_to (λ k. f k + g k) n ≡ sum_to f n + sum_to g n
unfolding sum_to
sum_add f g zero = refl
sum_add f g (suc n) = omega (arith, sum_add f g n)

-- as often c as tasks are chosen
pub total_constant : (p : ℕ → Bool) (c n : ℕ) → total_of p (λ _. c) n ≡ total_of p (λ _. 1) n * c
unfolding sum_to
total_constant p c zero = sym (zero-mul c)
total_constant p c (suc n) =
    let rest = total_constant p c n in
    elim (cases_Bool (p (suc n))) [
      | inl y ↦ omega (arith, rest, cond-true (p (suc n)) c 0 y, cond-true {A = ℕ} (p (suc n)) 1 0 y, add-mul (total_of p (λ _. 1) n) (cond (p (suc n)) 1 0) c, ap (λ b. b * c) (cond-true {A = ℕ} (p (suc n)) 1 0 y), one-mul c)
      | inr z ↦ omega (arith, rest, cond-false (p (suc n)) c 0 z, cond-false {A = ℕ} (p (suc n)) 1 0 z, add-mul (total_of p (λ _. 1) n) (cond (p (suc n)) 1 0) c, ap (λ b. b * c) (cond-false {A = ℕ} (p (suc n)) 1 0 z), zero-mul c)
    ]

pub over_le : (s : List Bool) (f : ℕ → ℕ) (c n : ℕ) → ((k : ℕ) → f k ≤ c) → sum_over s f n ≤ n * c
over_le s f c n h = sum_le _ c n (λ k low high. elim (cases_Bool (nth s k false)) [ inl y ↦ omega (arith, cond-true _ (f k) 0 y, h k) | inr z ↦ omega (arith, cond-false _ (f k) 0 z) ])

-- a turn of a loop over the tasks of a set
pub over_more : (s : List Bool) (f : ℕ → ℕ) (place : ℕ) → sum_over s f (place + 1) ≡ sum_over s f place + cond (get_or s place false) (f (place + 1)) 0
over_more s f place = sum_more _ place ∙ ap (λ b. sum_over s f place + cond b (f (place + 1)) 0) (nth_next s place false)

-- a sum over more places, all 0, is the sum before
pub sum_past : (f : ℕ → ℕ) (n m : ℕ) → n ≤ m → ((k : ℕ) → n < k → k ≤ m → f k ≡ 0) → sum_to f m ≡ sum_to f n
unfolding sum_to
sum_past f n zero le none = let e : 0 ≡ n = omega arith in ap (sum_to f) e
sum_past f n (suc m) le none = elim (cases_eq n (suc m)) [ inl e ↦ ap (sum_to f) (sym e) | inr d ↦ omega (arith, sum_past f n m (omega arith) (λ k low high. none k low (omega arith)), none (suc m) (omega arith) (omega arith)) ]
