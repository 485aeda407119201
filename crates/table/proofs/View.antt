-- What is so of the rows of every table.
use Rattle.std.proofs.Common.{◌≤◌, length, arith}
use Rattle.std.proofs.lemmas.List.{length-take}
use Rattle.table.specs.declared.rows.Rows.{Rows}
use Rattle.table.specs.Rows.{view}

pub few_rows : {X : Type 0} (t : Rows X) → length (view t) ≤ 32
few_rows t = omega (arith, length-take t.len t.rows, t.ok)
