-- A row that was made is of the numbers that were asked for.
use Rattle.std.proofs.Common.{Ok}
use Rattle.table.specs.declared.numbers.Numbers.{Numbers}
use Rattle.table.specs.declared.row.Row.{Row}
use Rattle.table.specs.declared.fault.Fault.{Fault}
use Rattle.table.specs.Rows.{MadeRow, MakesRow}

-- a call goes on with the row that was made
pub makes_row : {refused : Fault → Type 0} {on : Row → Type 0} (n : Numbers) (row : Row) → MadeRow n (Ok row) → on row → MakesRow n refused on
makes_row n row made goes = (Ok row, made, goes)
