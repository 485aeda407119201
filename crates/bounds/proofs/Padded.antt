-- A list by row, filled up with 0.
use Rattle.std.proofs.Common.{◌≡◌, ℕ, ◌-◌, ◌<◌, ◌≤◌, List, ◌++◌, length, get_or, replicate, sym, refl, ◌∙◌, inl, inr, arith}
use Rattle.std.proofs.lemmas.List.{ext_get_or, get_or-take, get_or_append_left, get_or-append_right, get_or-replicate, get_or_past, length-append, length-replicate, length-take-le}
use Rattle.std.proofs.lemmas.Bool.{cases_lt}
use Rattle.table.proofs.Placed.{nth_at}
use Rattle.table.specs.Places.{nth}
use Rattle.std.specs.Fn.{Mut, Called}
use Rattle.std.specs.Array.{IsFromFnResult}
use Rattle.bounds.specs.Orders.{padded}
use Rattle.table.proofs.FromFn.{made_by}

pub padded_length : (xs : List ℕ) → length (padded xs) ≡ 32
padded_length xs = length-take-le 32 _ (omega (arith, length-append xs (replicate 32 0), length-replicate {A = ℕ} 32 0))

-- every place reads as the list's own, and as 0 past its end
pub padded_read : (xs : List ℕ) (j : ℕ) → j < 32 → get_or (padded xs) j 0 ≡ get_or xs j 0
padded_read xs j h = get_or-take 32 (xs ++ replicate 32 0) j 0 h ∙ elim (cases_lt j (length xs)) [
  | inl y ↦ get_or_append_left xs (replicate 32 0) 0 j y
  | inr n ↦ get_or-append_right xs (replicate 32 0) (length xs) j 0 refl n ∙ get_or-replicate 32 (j - length xs) 0 0 (omega arith) ∙ sym (get_or_past xs j 0 n)
]

-- the same by row number
pub padded_at : (xs : List ℕ) (k : ℕ) → 1 ≤ k → k ≤ 32 → nth (padded xs) k 0 ≡ nth xs k 0
padded_at xs k low high = nth_at (padded xs) k 0 low ∙ padded_read xs (k - 1) (omega arith) ∙ sym (nth_at xs k 0 low)

-- 32 places made by calls, each of which reads the list at its place
pub padded_made : {F : Type 0} {g : Mut F (ℕ × Unit {0}) ℕ} (f : F) (xs ys : List ℕ) → IsFromFnResult g f ys 32 → ((j y : ℕ) (e : F) → Called g f (j, tt) y e → (e ≡ f) × (y ≡ get_or xs j 0)) → ys ≡ padded xs
padded_made f xs ys made reads =
    ext_get_or 0 ys (padded xs) (made.long ∙ sym (padded_length xs)) (λ j l. made_by f ys (λ i. get_or xs i 0) 0 reads made j (omega (arith, made.long)) ∙ sym (padded_read xs j (omega (arith, made.long))))
