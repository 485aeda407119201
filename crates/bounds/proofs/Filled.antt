-- A list by row, filled place by place by calls that leave the function as it was.
use Rattle.std.proofs.Common.{◌≡◌, ℕ, ◌+◌, ◌-◌, List, ap, ◌∙◌, arith}
use Rattle.std.specs.Array.{IsFromFnResult}
use Rattle.std.specs.Fn.{Mut, Called}
use Rattle.table.proofs.FromFn.{made_by}
use Rattle.table.proofs.Placed.{nth_at}
use Rattle.bounds.specs.Climbs.{Lists}

-- h says by place, from 0, what k says by number, from 1
pub filled : {F : Type 0} {g : Mut F (ℕ × Unit {0}) ℕ} (h : ℕ → ℕ) (f : F) (ys : List ℕ) → ((j y : ℕ) (e : F) → Called g f (j, tt) y e → (e ≡ f) × (y ≡ h j)) → (k : ℕ → ℕ) → ((j : ℕ) → h j ≡ k (j + 1)) → IsFromFnResult g f ys 32 → Lists k ys
filled h f ys calls k same run i low high = nth_at ys i 0 low ∙ made_by f ys h 0 calls run (i - 1) (omega arith) ∙ same (i - 1) ∙ ap k (omega arith)
