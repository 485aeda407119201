-- A list of one.
use Rattle.std.proofs.Common.{◌≡◌, ◌<◌, ◌≤◌, List, [], ◌∷◌, length, get_or, sym, ap, arith}

pub sole : {A : Type 0} (xs : List A) (only : A) → 1 ≤ length xs → length xs < 2 → only ≡ get_or xs 0 only → xs ≡ only ∷ []
sole [] only some few is = absurd (omega (arith, some))
sole (x ∷ []) only some few is = ap (λ y. y ∷ []) (sym is)
sole (x ∷ y ∷ rest) only some few is = absurd (omega (arith, few))
