-- What is due of the last pending range.
use Rattle.std.specs.Prelude.{◌≡◌, List, length, Some}
use Rattle.table.specs.declared.row.Row.{Row}
use Rattle.bounds.specs.Questions.{Meaning}
use Rattle.orders.specs.declared.range.Range.{Range}
use Rattle.orders.specs.Ranges.{Open, Closed}
use Rattle.orders.specs.Assigner.{Assigns}
use Rattle.orders.specs.Growth.{GrownTo}
use Rattle.study.specs.declared.finding.Finding.{Finding}
use Rattle.study.specs.declared.state.State.TheVariants as state
use Rattle.study.specs.declared.deed.Deed.{Deed}
use Rattle.study.specs.declared.deed.Deed.TheVariants.{End, Keep, Split}

-- the list of a range's lows, as a range
abbrev pub lows_of : Range → Range
lows_of r = record { lows = r.lows; highs = r.lows }

module _ (meaning : Meaning) (rows : List Row) where
  -- a range grows to another: row by row, each low and then each high
  abbrev pub GrowsTo : Range → Range → Type 0
  GrowsTo r q = GrownTo meaning rows r (length rows) q

  -- the assigner's order for the list of a range's lows, and these lows
  abbrev pub Finds : Range → Finding → Type 0
  Finds taken finding =
      Assigns meaning rows (lows_of taken) (Some finding.order) × (finding.estimates ≡ taken.lows)

  -- What is due of a range, the first of these that applies: it is closed, and its grown form is
  -- kept; the list of its lows is open, and the search ends with that list's order; or that list is
  -- grown, and the range split by it.
  abbrev pub Due : Range → Deed → Type 0
  Due taken (Keep grown) = Closed meaning rows taken × GrowsTo taken grown
  Due taken (End verdict) =
      Open meaning rows taken × Open meaning rows (lows_of taken)
      × ((finding : Finding) × (verdict ≡ state.Found finding) × Finds taken finding)
  Due taken (Split grown) =
      Open meaning rows taken × Closed meaning rows (lows_of taken) × GrowsTo (lows_of taken) grown
