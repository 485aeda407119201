-- What is said of the table and the order inside is said of those that were handed in.
use Rattle.std.proofs.Common.{◌≡◌, ℕ, List, subst}
use Rattle.table.specs.Rows.{Table}

pub as_handed : (P : Table → List ℕ → Type 0) {t u : Table} {o q : List ℕ} → (t ≡ u) × (o ≡ q) → P t o → P u q
as_handed P {t} {u} {o} {q} same p = subst (λ x. P x q) same.0 (subst (P t) same.1 p)
