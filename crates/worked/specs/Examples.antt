-- The worked examples: what the definitions give on small tables, on 2 processors if none are named.
use Rattle.std.specs.Prelude.{◌≡◌, ℕ, Bool, true, false, List, [], ◌∷◌, take, replicate, Some, None, Option}
use Rattle.std.proofs.Common.{lit≤}
use Rattle.table.specs.declared.row.Row.{Row}
use Rattle.table.specs.Places.{put}
use Rattle.bounds.specs.declared.processors.Processors.{Processors}
use Rattle.bounds.specs.Questions.{Asked}
use Rattle.bounds.specs.Loads.{work, da}
use Rattle.bounds.specs.Orders.{wcets, padded}
use Rattle.bounds.specs.Overheads.{over}
use Rattle.bounds.specs.Responses.{rta, lc}
use Rattle.orders.specs.declared.range.Range.{Range}
use Rattle.orders.specs.Ranges.{Open, Closed}
use Rattle.study.specs.declared.finding.Finding.{Finding}
use Rattle.study.specs.declared.state.State.TheVariants as state
use Rattle.study.specs.Slots.{slot}
use Rattle.study.specs.Moments.{Moment}
use Rattle.worked.specs.Searches.{BeginsTo, StepsTo}

-- the tasks a and b are 2/5/5 (wcet, period, deadline)
abbrev pub a : Row
a = record { wcet = 2; period = 5; deadline = 5; ok = (lit≤ tt, lit≤ tt, lit≤ tt, lit≤ tt) }

-- the task c is 3/6/6
abbrev pub c : Row
c = record { wcet = 3; period = 6; deadline = 6; ok = (lit≤ tt, lit≤ tt, lit≤ tt, lit≤ tt) }

-- the worked table: a, b and c
abbrev pub tasks : List Row
tasks = a ∷ (a ∷ (c ∷ []))

-- only a is above
abbrev pub only_a : List Bool
only_a = put (replicate 32 false) 1 true

-- a and b are above
abbrev pub a_and_b : List Bool
a_and_b = put only_a 2 true

-- w of a in 4, 5, 6 and 7
abbrev pub Work : Type 0
Work = (work a 4 ≡ 2) × (work a 5 ≡ 2) × (work a 6 ≡ 3) × (work a 7 ≡ 4)

-- a question about c: the tasks above, and the estimates
abbrev pub of_c : List Bool → List ℕ → Asked
of_c above estimates = record { rows = tasks; task = 3; above = above; estimates = estimates }

-- da of c: late with a and b above, 5 with only a
abbrev pub DeadlineAnalysis : Type 0
DeadlineAnalysis =
    (da 2 (of_c a_and_b (wcets tasks)) ≡ None) × (da 2 (of_c only_a (wcets tasks)) ≡ Some 5)

-- estimates of a and b, with c's own C
abbrev pub estimates : ℕ → ℕ → List ℕ
estimates x y = padded (x ∷ (y ∷ (3 ∷ [])))

-- rta of c with a and b above: 5 with the estimates 2 and 2, and with 2 and 3; late with 3 and 3
abbrev pub ResponseAnalysis : Type 0
ResponseAnalysis =
    (rta 2 (of_c a_and_b (estimates 2 2)) ≡ Some 5)
    × (rta 2 (of_c a_and_b (estimates 2 3)) ≡ Some 5)
    × (rta 2 (of_c a_and_b (estimates 3 3)) ≡ None)

-- lc of c with a and b above: 5 with the estimates 5 and 5
abbrev pub LimitedAnalysis : Type 0
LimitedAnalysis = lc 2 (of_c a_and_b (estimates 5 5)) ≡ Some 5

-- the answer for c under an overhead, from the answer below it
abbrev pub under : ℕ → Option ℕ → Option ℕ
under v below = over v c below

-- rta of c with a and b above and the estimates 2 and 2: an overhead of 1 gives 6, of 2 late, of 1
-- over 1 late, of 1 over 0 gives 6
abbrev pub Overheads : Type 0
Overheads =
    (under 1 (rta 2 (of_c a_and_b (estimates 2 2))) ≡ Some 6)
    × (under 2 (rta 2 (of_c a_and_b (estimates 2 2))) ≡ None)
    × (under 1 (under 1 (rta 2 (of_c a_and_b (estimates 2 2)))) ≡ None)
    × (under 1 (under 0 (rta 2 (of_c a_and_b (estimates 2 2)))) ≡ Some 6)

-- the range of a from 2 to 3, b from 2 to 3, and c from 3 to a high
abbrev pub ranged : ℕ → Range
ranged high = record { lows = estimates 2 2; highs = padded (3 ∷ (3 ∷ (high ∷ []))) }

-- under rta it is closed with c from 3 to 4, and open with c from 3 to 5
abbrev pub Ranged : Type 0
Ranged = Closed (rta 2) tasks (ranged 4) × Open (rta 2) tasks (ranged 5)

-- the ledger has one range, this one
abbrev pub LedgerIs : Range → Moment → Type 0
LedgerIs r m = (m.study.ledger_count ≡ 1) × (slot m.ledger 1 ≡ r)

-- a search of the tasks under rta: the first step writes the closed range to the ledger and leaves
-- three pending, and the second finds the order b, a, c for the estimates a 2, b 2, c 5
abbrev pub FoundAfterSplit : Type 0
FoundAfterSplit =
    BeginsTo tasks 1 3 (λ begun. StepsTo (rta 2) begun
    (λ split. LedgerIs (ranged 4) split × (split.study.pending_count ≡ 3) × StepsTo (rta 2) split
    (λ found. (f : Finding) × (found.study.state ≡ state.Found f)
    × (take 3 f.order ≡ 2 ∷ (1 ∷ (3 ∷ []))) × (f.estimates ≡ padded (2 ∷ (2 ∷ (5 ∷ [])))))))

-- a row 2/3/3
abbrev pub tight : Row
tight = record { wcet = 2; period = 3; deadline = 3; ok = (lit≤ tt, lit≤ tt, lit≤ tt, lit≤ tt) }

-- two such rows
abbrev pub pair : List Row
pair = tight ∷ (tight ∷ [])

-- the range with both from 2 to 3
abbrev pub both : Range
both = record { lows = padded (2 ∷ (2 ∷ [])); highs = padded (3 ∷ (3 ∷ [])) }

-- a search of the two rows under rta on 1 processor: the first step keeps the range with both from 2
-- to 3, and the second says none
abbrev pub NoneAfterKept : Type 0
NoneAfterKept =
    BeginsTo pair 1 1 (λ begun. StepsTo (rta 1) begun
    (λ kept. LedgerIs both kept × StepsTo (rta 1) kept (λ ended. ended.study.state ≡ state.None)))

-- one row 5/5/5
abbrev pub lone : List Row
lone = record { wcet = 5; period = 5; deadline = 5; ok = (lit≤ tt, lit≤ tt, lit≤ tt, lit≤ tt) } ∷ []

-- a search of the one row under rta, on however many processors: the first step finds its order, and
-- no range is in the ledger
abbrev pub FoundAtOnce : Type 0
FoundAtOnce = (p : Processors) →
    BeginsTo lone 1 1 (λ begun. StepsTo (rta p.count) begun
    (λ found. (f : Finding) × (found.study.state ≡ state.Found f)
    × (take 1 f.order ≡ 1 ∷ []) × (found.study.ledger_count ≡ 0)))

-- all worked examples
abbrev pub WorkedExamples : Type 0
WorkedExamples =
    Work × DeadlineAnalysis × ResponseAnalysis × LimitedAnalysis × Overheads × Ranged
    × FoundAfterSplit × NoneAfterKept × FoundAtOnce
