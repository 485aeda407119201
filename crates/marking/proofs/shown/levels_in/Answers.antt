use Rattle.std.proofs.Common.{ℕ, List, [], refl, sym}
use Rattle.table.proofs.Placed.{nth_replicate}
use Rattle.marking.proofs.shown.levels_in.Goals as goal

pub returns-in-None : goal.returns-in-None
returns-in-None c = (rw (sym c.in-None.ensures) refl, λ k past. (nth_replicate {A = List ℕ} 32 [] k, nth_replicate {A = ℕ} 32 0 k))
