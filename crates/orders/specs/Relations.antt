-- Orders that hold, and orders that pass a list of estimates.
use Rattle.std.specs.Prelude.{◌≡◌, ℕ, ◌≤◌, ◌⊎◌, List, length}
use Rattle.table.specs.declared.row.Row.{Row}
use Rattle.table.specs.Places.{nth}
use Rattle.table.specs.Rows.{Names}
use Rattle.bounds.specs.Orders.{Order, Estimates, Bounded, Holds, HasLate}
use Rattle.orders.specs.Ranges.{as_range, Passes}
use Rattle.bounds.specs.Questions.{Meaning}

module _ (meaning : Meaning) (rows : List Row) where
  -- each order of the rows holds or has a late task, and never both
  abbrev pub OneOrOther : Type 0
  OneOrOther =
      (order : List ℕ) → Order rows order
      → (Holds meaning rows order ⊎ HasLate meaning rows order)
      × (Holds meaning rows order → ¬ HasLate meaning rows order)

  -- an order that holds passes the list of its own bounds
  abbrev pub PassesOwn : Type 0
  PassesOwn =
      (order bounds : List ℕ) → Order rows order → length bounds ≡ length rows
      → Bounded meaning rows order bounds (length order)
      → Passes meaning rows (as_range bounds) order

  -- an order that passes a list of estimates holds, each bound at most its estimate
  abbrev pub HoldsBelow : Type 0
  HoldsBelow =
      (order estimates : List ℕ) → Order rows order → Estimates rows estimates
      → Passes meaning rows (as_range estimates) order
      → (bounds : List ℕ) × Bounded meaning rows order bounds (length order)
      × ((k : ℕ) → Names rows k → nth bounds k 0 ≤ nth estimates k 0)

  -- how the orders that hold and the orders that pass are related
  pub record Relations : Type 0 where
    pub either : OneOrOther
    pub own : PassesOwn
    pub below : HoldsBelow
