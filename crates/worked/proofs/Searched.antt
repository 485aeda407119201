-- The worked searches.
use Rattle.std.proofs.Common.{◌≡◌, zero, suc, List, [], ◌∷◌, refl, arith, lit≤}
use Rattle.table.specs.Places.{nth, put}
use Rattle.bounds.specs.Questions.{all_to}
use Rattle.bounds.specs.ResponseLoads.{rta_laws}
use Rattle.bounds.specs.Responses.{rta}
use Rattle.orders.specs.declared.range.Range.{Range}
use Rattle.orders.specs.Growth.{GrownTo, start, next}
use Rattle.orders.proofs.Growths.{low_to_cost, high_to_deadline, high_to}
use Rattle.orders.proofs.Withins.{within_from}
use Rattle.study.specs.Whole.{whole}
use Rattle.study.specs.Pieces.{cut, pieces}
use Rattle.study.specs.Deeds.{lows_of}
use Rattle.study.proofs.Runs.{EachFull}
use Rattle.worked.specs.Examples.{tasks, pair, lone, both, ranged, FoundAfterSplit, NoneAfterKept, FoundAtOnce}
use Rattle.worked.proofs.Searching.{begun_on, stepped_on, does_keep, does_split, does_find, ends_none}
use Rattle.worked.proofs.Decisions.{two, one, of_three, all_open, lows_closed, a_closed, a_open, b_closed, b_open, c_closed, c_open, last_open, last_lows_open, last_order, last_inside, both_closed, five, lone_open, lone_order, lone_inside}

-- the list of the tasks' lows grows to the closed range: a's high, b's and c's
grown_lows : GrownTo (rta 2) tasks (lows_of (whole tasks)) 3 (ranged 4)
unfolding nth put all_to
grown_lows =
    let low = low_to_cost (rta 2) tasks in
    let high = high_to (rta 2) tasks (rta_laws two) (lit≤ tt) in
    let lows = of_three 2 2 3 2 2 3 in
    let with_a = of_three 2 2 3 3 2 3 in
    let with_b = of_three 2 2 3 3 3 3 in
    let grown_a = next start (low lows 1 lows_closed) (high lows (within_from tasks lows refl) 1 (lit≤ tt, lit≤ tt) 1 (lit≤ tt) a_closed a_open) in
    let grown_b = next grown_a (low with_a 2 a_closed) (high with_a (within_from tasks with_a refl) 2 (lit≤ tt, lit≤ tt) 1 (lit≤ tt) b_closed b_open) in
    next grown_b (low with_b 3 b_closed) (high with_b (within_from tasks with_b refl) 3 (lit≤ tt, lit≤ tt) 1 (lit≤ tt) c_closed c_open)

-- the pieces of all that begin writes
abbrev three_pieces : List Range
three_pieces = of_three 4 2 3 5 5 6 ∷ (of_three 2 4 3 3 5 6 ∷ (of_three 2 2 5 3 3 6 ∷ []))

pieces_are : pieces (whole tasks) (ranged 4) 3 ≡ three_pieces
unfolding pieces cut nth put
pieces_are = refl

each_full : EachFull three_pieces
each_full zero d inside = record { lows = refl; highs = refl }
each_full (suc zero) d inside = record { lows = refl; highs = refl }
each_full (suc (suc zero)) d inside = record { lows = refl; highs = refl }
each_full (suc (suc (suc i))) d inside = absurd (omega arith)

pub found_after_split : FoundAfterSplit
found_after_split before begun room r is has first three begins =
    let did = begun_on (rta 2) tasks before begun room r (lit≤ tt) is has begins in
    let own = did.1.0 in
    let on = did.1.3 in (
      did.0,
      λ r split steps.
          let stepped = stepped_on (rta 2) own begun split r on.runs on.kept steps in
          let divided = does_split (rta 2) tasks own 0 1 (whole tasks) begun split on stepped.1 (rta_laws two) (lit≤ tt) (omega (arith, first, did.1.1)) (ranged 4) three_pieces
          (record { lows = refl; highs = refl }) each_full (lit≤ tt) all_open lows_closed grown_lows pieces_are (omega (arith, three, did.1.2)) in
          let on = divided.2 in (
            stepped.0,
            (
              (divided.0, divided.1),
              on.pending_count,
              λ r found steps.
                  let stepped = stepped_on (rta 2) own split found r on.runs on.kept steps in
                  let finds = does_find (rta 2) tasks own 1 3 (of_three 2 2 5 3 3 6) split found on stepped.1 last_open last_lows_open (lit≤ tt) (within_from tasks (of_three 2 2 5 2 2 5) last_inside) _ last_order in
                  (stepped.0, (finds.0, finds.1, finds.2, finds.3)),
            ),
          ),
    )

-- the range of the two rows grows to itself
both_grown : GrownTo (rta 1) pair both 2 both
unfolding nth put
both_grown =
    let low = low_to_cost (rta 1) pair in
    let high = high_to_deadline (rta 1) pair in
    next (next start (low both 1 both_closed) (high both 1 both_closed)) (low both 2 both_closed) (high both 2 both_closed)

pub none_after_kept : NoneAfterKept
none_after_kept before begun room r is has first other begins =
    let did = begun_on (rta 1) pair before begun room r (lit≤ tt) is has begins in
    let own = did.1.0 in
    let on = did.1.3 in (
      did.0,
      λ r kept steps.
          let stepped = stepped_on (rta 1) own begun kept r on.runs on.kept steps in
          let keeps = does_keep (rta 1) pair own 0 1 both begun kept on stepped.1 (rta_laws one) (lit≤ tt) (omega (arith, first, did.1.1)) both
          (record { lows = refl; highs = refl }) both_closed both_grown in
          let on = keeps.2 in (
            stepped.0,
            (
              (keeps.0, keeps.1),
              λ r ended steps.
                  let stepped = stepped_on (rta 1) own kept ended r on.runs on.kept steps in
                  (stepped.0, ends_none (rta 1) pair own 1 0 _ kept ended on stepped.1 refl),
            ),
          ),
    )

pub found_at_once : FoundAtOnce
found_at_once p before begun room r is has one other begins =
    let did = begun_on (rta p.count) lone before begun room r (lit≤ tt) is has begins in
    let own = did.1.0 in
    let on = did.1.3 in (
      did.0,
      λ r found steps.
          let stepped = stepped_on (rta p.count) own begun found r on.runs on.kept steps in
          let finds = does_find (rta p.count) lone own 0 1 five begun found on stepped.1 (lone_open p) (lone_open p) (lit≤ tt) (within_from lone five lone_inside) _ (lone_order p) in
          (stepped.0, (finds.0, finds.1, finds.2, finds.4)),
    )
