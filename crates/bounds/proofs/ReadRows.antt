-- What is read at a row's place is that row.
use Rattle.std.proofs.Common.{◌≡◌, ℕ, ◌+◌, ◌-◌, ◌<◌, List, length, get_or, sym, ◌∙◌, arith}
use Rattle.std.proofs.lemmas.List.{get_or_default}
use Rattle.table.specs.declared.row.Row.{Row}
use Rattle.table.specs.Rows.{row, filler, Names}
use Rattle.table.proofs.Placed.{nth_next, nth_at}

-- the row that is read at a place
pub row_read : (rows : List Row) (place : ℕ) (r : Row) → place < length rows → r ≡ get_or rows place r → row rows (place + 1) ≡ r
row_read rows place r h is = nth_next rows place filler ∙ get_or_default rows place filler r h ∙ sym is

pub row_named : (rows : List Row) (k : ℕ) (r : Row) → Names rows k → r ≡ get_or rows (k - 1) r → row rows k ≡ r
row_named rows k r h is = nth_at rows k filler h.0 ∙ get_or_default rows (k - 1) filler r (omega arith) ∙ sym is
