-- The list of a range's lows.
use Rattle.std.proofs.Common.{List, arith}
use Rattle.table.specs.declared.row.Row.{Row}
use Rattle.orders.specs.declared.range.Range.{Range}
use Rattle.orders.specs.Ranges.{Within}
use Rattle.study.specs.Deeds.{lows_of}

pub lows_within : (rows : List Row) (r : Range) → Within rows r → Within rows (lows_of r)
lows_within rows r within k names =
    let here = within k names in
    (here.0, omega arith, omega (arith, here.1, here.2))
