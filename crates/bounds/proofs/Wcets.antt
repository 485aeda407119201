-- A number of each row, by row number and filled up with 0; the wcets are one such list.
use Rattle.std.proofs.Common.{◌≡◌, ℕ, ◌-◌, ◌≤◌, List, map, length, sym, ap, ◌∙◌, arith}
use Rattle.std.proofs.lemmas.List.{get_or-map}
use Rattle.table.specs.declared.row.Row.{Row}
use Rattle.table.specs.Places.{nth}
use Rattle.table.specs.Rows.{row, filler, Names}
use Rattle.table.proofs.Placed.{nth_at}
use Rattle.bounds.specs.Orders.{padded, wcets}
use Rattle.bounds.proofs.Padded.{padded_read}

pub column_at : (f : Row → ℕ) (rows : List Row) (k : ℕ) → length rows ≤ 32 → Names rows k → nth (padded (map f rows)) k 0 ≡ f (row rows k)
column_at f rows k few h = nth_at (padded (map f rows)) k 0 h.0 ∙ padded_read (map f rows) (k - 1) (omega arith) ∙ get_or-map f rows (k - 1) filler 0 (omega arith) ∙ ap f (sym (nth_at rows k filler h.0))

pub wcets_at : (rows : List Row) (k : ℕ) → length rows ≤ 32 → Names rows k → nth (wcets rows) k 0 ≡ (row rows k).wcet
wcets_at = column_at (λ r. r.wcet)
