-- What settling a range gives.
use Rattle.std.specs.Prelude.{ℕ, List, Option, Some, None}
use Rattle.orders.specs.declared.range.Range.{Range}
use Rattle.orders.specs.declared.settled.Settled.{Settled}
use Rattle.orders.specs.declared.settled.Settled.TheVariants.{Order, Grown}

-- the order that is given, if one is
abbrev pub order_of : Settled → Option (List ℕ)
order_of (Order order) = Some order
order_of (Grown grown) = None

-- the range that is given; with an order, the range is as it was
abbrev pub grown_of : Range → Settled → Range
grown_of r (Order order) = r
grown_of r (Grown grown) = grown
