-- How far an end that is moved out leaves a range closed is known by the next value.
use Rattle.std.proofs.Common.{ℕ, ◌+◌, ◌<◌, ◌≤◌, List, length, refl, arith}
use Rattle.table.specs.declared.row.Row.{Row}
use Rattle.table.specs.Rows.{Names}
use Rattle.bounds.specs.Questions.{Meaning, Laws}
use Rattle.orders.specs.declared.range.Range.{Range}
use Rattle.orders.specs.declared.end.End.{End}
use Rattle.orders.specs.declared.end.End.TheVariants.{Low, High}
use Rattle.orders.specs.Ranges.{Within, Open, Closed}
use Rattle.orders.specs.Growth.{moved, reach, EndGrown}
use Rattle.orders.proofs.Narrows.{widening}
use Rattle.orders.proofs.Moves.{moved_within, moved_contains}

module _ (meaning : Meaning) (rows : List Row) where
  -- an end grows all the way, if the range is closed there
  all_the_way : (end : End) (r : Range) (k : ℕ) → Closed meaning rows (moved end r k (reach end rows r k)) → EndGrown meaning rows end r k (moved end r k (reach end rows r k))
  all_the_way end r k shut = record { by = reach end rows r k; is = refl; inside = omega arith; closed = shut; farther = λ more from to. absurd (omega arith) }

  -- a low to its row's C
  pub low_to_cost : (r : Range) (k : ℕ) → Closed meaning rows (moved Low r k (reach Low rows r k)) → EndGrown meaning rows Low r k (moved Low r k (reach Low rows r k))
  low_to_cost = all_the_way Low

  -- and a high to its row's D
  pub high_to_deadline : (r : Range) (k : ℕ) → Closed meaning rows (moved High r k (reach High rows r k)) → EndGrown meaning rows High r k (moved High r k (reach High rows r k))
  high_to_deadline = all_the_way High

  -- a high grows to where the range is closed, if it is open one farther out
  pub high_to : Laws meaning → length rows ≤ 32 → (r : Range) → Within rows r → (k : ℕ) → Names rows k → (by : ℕ) → by < reach High rows r k
      → Closed meaning rows (moved High r k by) → Open meaning rows (moved High r k (by + 1)) → EndGrown meaning rows High r k (moved High r k by)
  high_to laws few r within k names by short shut open' = record {
    by = by;
    is = refl;
    inside = omega arith;
    closed = shut;
    farther = λ more from to closed.
        let at = moved_within rows r within k names High in
        let wide = moved_contains rows r within k names High (by + 1) more (omega arith) to in
        closed open'.0 (widening laws rows few (moved High r k more) (moved High r k (by + 1)) (at more to) (at (by + 1) (omega arith)) wide open'.0 open'.1);
  }
