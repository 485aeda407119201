-- From a low to a high lies between a row's C and its D, computed and as facts.
use Rattle.std.proofs.Common.{◌≡◌, ℕ, ◌≤◌, true, ◌&&◌, leb}
use Rattle.std.proofs.lemmas.Bool.{and_parts, and_from, leb-true, le-leb}
use Rattle.table.specs.declared.row.Row.{Row}
use Rattle.table.specs.Rows.{spans}

module _ (r : Row) (low high : ℕ) where
  pub spans_from : spans r low high ≡ true → (r.wcet ≤ low) × (low ≤ high) × (high ≤ r.deadline)
  spans_from h =
      let a = and_parts (leb r.wcet low) (leb low high && leb high r.deadline) h in
      let b = and_parts (leb low high) (leb high r.deadline) a.1 in
      (leb-true _ _ a.0, leb-true _ _ b.0, leb-true _ _ b.1)

  pub spans_test : (r.wcet ≤ low) × (low ≤ high) × (high ≤ r.deadline) → spans r low high ≡ true
  spans_test h = and_from _ _ (le-leb _ _ h.0) (and_from _ _ (le-leb _ _ h.1) (le-leb _ _ h.2))
