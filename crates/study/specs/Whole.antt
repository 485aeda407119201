-- The range that a search begins with.
use Rattle.std.specs.Prelude.{ℕ, List, map}
use Rattle.table.specs.declared.row.Row.{Row}
use Rattle.bounds.specs.Orders.{padded, wcets}
use Rattle.orders.specs.declared.range.Range.{Range}

-- the D of each row
abbrev pub deadlines : List Row → List ℕ
deadlines rows = map (λ (r : Row). r.deadline) rows

-- the range of all C to D, with 0 past the last row
abbrev pub whole : List Row → Range
whole rows = record { lows = wcets rows; highs = padded (deadlines rows) }
