-- Which ranges of the worked searches are open and which closed, computed by the assigner.
use Rattle.std.proofs.Common.{◌≡◌, ℕ, ◌≤◌, true, List, [], ◌∷◌, length, Some, None, refl, lit≤}
use Rattle.std.proofs.Math.Nat.{zero-div}
use Rattle.table.specs.declared.row.Row.{Row}
use Rattle.table.specs.Places.{nth, put}
use Rattle.bounds.specs.declared.processors.Processors.{Processors}
use Rattle.bounds.specs.Questions.{all_to}
use Rattle.bounds.specs.Loads.{sum_to}
use Rattle.bounds.specs.Orders.{padded}
use Rattle.bounds.specs.Responses.{least_from, rta}
use Rattle.bounds.specs.ResponseLoads.{rta_laws}
use Rattle.orders.specs.declared.range.Range.{Range}
use Rattle.orders.specs.Assigner.{fill, full, assigned}
use Rattle.orders.specs.Ranges.{Open, Closed}
use Rattle.orders.proofs.Audsley.{decided}
use Rattle.orders.proofs.Withins.{withinb}
use Rattle.worked.specs.Examples.{tasks, pair, lone, both, ranged}

-- 2 processors, and 1
abbrev pub two : Processors
two = record { count = 2; ok = (lit≤ tt, lit≤ tt) }

abbrev pub one : Processors
one = record { count = 1; ok = (lit≤ tt, lit≤ tt) }

-- what the assigner gives decides a range
shut : (p : Processors) (rows : List Row) (r : Range) → length rows ≤ 32 → assigned (rta p.count) rows r ≡ None → Closed (rta p.count) rows r
shut p rows r few is = decided (rta_laws p) rows r few None is

opens : (p : Processors) (rows : List Row) (r : Range) (order : List ℕ) → length rows ≤ 32 → assigned (rta p.count) rows r ≡ Some order → Open (rta p.count) rows r
opens p rows r order few is = (order, decided (rta_laws p) rows r few (Some order) is)

-- a range of three rows: the lows, then the highs
abbrev pub of_three : ℕ → ℕ → ℕ → ℕ → ℕ → ℕ → Range
of_three a b c x y z = record { lows = padded (a ∷ (b ∷ (c ∷ []))); highs = padded (x ∷ (y ∷ (z ∷ []))) }

-- the tasks: all that begin writes, and the list of its lows
pub all_open : Open (rta 2) tasks (of_three 2 2 3 5 5 6)
unfolding nth put all_to sum_to least_from fill full
all_open = opens two tasks (of_three 2 2 3 5 5 6) (3 ∷ (2 ∷ (1 ∷ []))) (lit≤ tt) refl

pub lows_closed : Closed (rta 2) tasks (of_three 2 2 3 2 2 3)
unfolding nth put all_to sum_to least_from fill full
lows_closed = shut two tasks (of_three 2 2 3 2 2 3) (lit≤ tt) refl

-- each high at which the list that grows is closed, and the next one, at which it is open
pub a_closed : Closed (rta 2) tasks (of_three 2 2 3 3 2 3)
unfolding nth put all_to sum_to least_from fill full
a_closed = shut two tasks (of_three 2 2 3 3 2 3) (lit≤ tt) refl

pub a_open : Open (rta 2) tasks (of_three 2 2 3 4 2 3)
unfolding nth put all_to sum_to least_from fill full
a_open = opens two tasks (of_three 2 2 3 4 2 3) (3 ∷ (2 ∷ (1 ∷ []))) (lit≤ tt) refl

pub b_closed : Closed (rta 2) tasks (of_three 2 2 3 3 3 3)
unfolding nth put all_to sum_to least_from fill full
b_closed = shut two tasks (of_three 2 2 3 3 3 3) (lit≤ tt) refl

pub b_open : Open (rta 2) tasks (of_three 2 2 3 3 4 3)
unfolding nth put all_to sum_to least_from fill full
b_open = opens two tasks (of_three 2 2 3 3 4 3) (3 ∷ (1 ∷ (2 ∷ []))) (lit≤ tt) refl

pub c_closed : Closed (rta 2) tasks (ranged 4)
unfolding nth put all_to sum_to least_from fill full
c_closed = shut two tasks (ranged 4) (lit≤ tt) refl

pub c_open : Open (rta 2) tasks (ranged 5)
unfolding nth put all_to sum_to least_from fill full
c_open = opens two tasks (ranged 5) (2 ∷ (1 ∷ (3 ∷ []))) (lit≤ tt) refl

-- the last piece, and the list of its lows
pub last_open : Open (rta 2) tasks (of_three 2 2 5 3 3 6)
unfolding nth put all_to sum_to least_from fill full
last_open = opens two tasks (of_three 2 2 5 3 3 6) (2 ∷ (1 ∷ (3 ∷ []))) (lit≤ tt) refl

pub last_order : assigned (rta 2) tasks (of_three 2 2 5 2 2 5) ≡ Some (2 ∷ (1 ∷ (3 ∷ [])))
unfolding nth put all_to sum_to least_from fill full
last_order = refl

pub last_inside : withinb tasks (of_three 2 2 5 2 2 5) ≡ true
unfolding nth all_to
last_inside = refl

pub last_lows_open : Open (rta 2) tasks (of_three 2 2 5 2 2 5)
unfolding nth all_to
last_lows_open = opens two tasks (of_three 2 2 5 2 2 5) _ (lit≤ tt) last_order

-- the two rows
pub both_closed : Closed (rta 1) pair both
unfolding nth put all_to sum_to least_from fill full
both_closed = shut one pair both (lit≤ tt) refl

-- the one row
abbrev pub five : Range
five = record { lows = padded (5 ∷ []); highs = padded (5 ∷ []) }

pub lone_order : (p : Processors) → assigned (rta p.count) lone five ≡ Some (1 ∷ [])
unfolding nth put all_to sum_to least_from fill full
lone_order p = rw (zero-div p.count) refl

pub lone_inside : withinb lone five ≡ true
unfolding nth all_to
lone_inside = refl

pub lone_open : (p : Processors) → Open (rta p.count) lone five
unfolding nth all_to
lone_open p = opens p lone five _ (lit≤ tt) (lone_order p)
