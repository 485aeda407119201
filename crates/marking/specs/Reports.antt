-- What a report says.
use Rattle.std.specs.Prelude.{◌≡◌, ℕ, ◌+◌, ◌<◌, ◌≤◌, List, [], map, length, Some, None, Ok, ◌⊎◌, Option, Result, MatchOption, MatchResult}
use Rattle.table.specs.declared.row.Row.{Row}
use Rattle.table.specs.declared.fault.Fault.{Fault}
use Rattle.table.specs.Places.{nth}
use Rattle.table.specs.Rows.{row, view, Of}
use Rattle.bounds.specs.declared.overhead.Overhead.{Overhead}
use Rattle.bounds.specs.declared.named.NamedTest.{NamedTest}
use Rattle.bounds.specs.declared.miss.Miss.{Miss}
use Rattle.bounds.specs.Questions.{Meaning}
use Rattle.bounds.specs.Named.{named_answer}
use Rattle.bounds.specs.Orders.{Order, Estimates, Holds, HasLate, FirstMiss}
use Rattle.bounds.specs.Overheads.{over_answer}
use Rattle.orders.specs.Ranges.{as_range, Passes}
use Rattle.study.specs.declared.study.Study.{Study}
use Rattle.study.specs.declared.finding.Finding.{Finding}
use Rattle.study.specs.declared.state.State.{State}
use Rattle.study.specs.declared.state.State.TheVariants as state
use Rattle.study.specs.declared.room.Room.{Room}
use Rattle.study.specs.Counts.{finding_in}
use Rattle.study.specs.Moments.{Moment, moment}
use Rattle.study.specs.Begins.{HasRoom}
use Rattle.study.specs.Histories.{Tally, History, Means}
use Rattle.study.specs.Searches.{ToVerdict}
use Rattle.sheets.specs.declared.form.Column.TheVariants.{Estimate}
use Rattle.sheets.specs.declared.sheet.Sheet.{Sheet}
use Rattle.sheets.specs.declared.form.Form.TheVariants.{Board, Tasks, Answer}
use Rattle.sheets.specs.Sheets.{ReadsText}
use Rattle.sheets.specs.Pairs.{count_of, task_of, HasTaskAt, EachLine, EachRowOnce, Pairs}
use Rattle.marking.specs.declared.report.Level.{Level}
use Rattle.marking.specs.declared.report.Report.{Report}
use Rattle.marking.specs.declared.report.Verdict.{Verdict}
use Rattle.marking.specs.declared.report.Verdict.TheVariants as verdict
use Rattle.marking.specs.declared.report.Outcome.{Outcome}
use Rattle.marking.specs.declared.report.Outcome.TheVariants as outcome
use Rattle.marking.specs.declared.case.Case.{Case}
use Rattle.marking.specs.Questions.{number_under, numbers_at, HasTest, IsTest, IsPaired, HasRow, HasEstimate, sheet_of, TextsFail, SheetsFail}

-- what a board's test answers: what the test of its name answers, and V added
abbrev pub board_answer : Overhead NamedTest → Meaning
board_answer = over_answer named_answer

-- the rows are those of the first n value lines of the tasks sheet: row k is of the numbers in the
-- k-th one
pub record RowsOf (tasks : Sheet) (n : ℕ) (rows : List Row) : Type 0 where
  pub size : length rows ≡ n
  pub each : EachLine (λ k. Of (row rows k) (numbers_at tasks k)) n

-- a study that calls have led to, under any test and with any lists
abbrev pub HasHistory : Study → Type 0
HasHistory s =
    (t : Overhead NamedTest) (ledger pending : List ℕ)
    → (c : Tally) × History (board_answer t) (moment s ledger pending) c

-- the estimate in the k-th value line of the answer is that of the row in the order's k-th place
abbrev pub EstimatesOf : Sheet → List ℕ → List ℕ → ℕ → Type 0
EstimatesOf answer order estimates n =
    EachLine (λ k. nth estimates (nth order k 0) 0 ≡ number_under answer k Estimate) n

-- both lists have 96 slots
abbrev pub slots : Room
slots = record { ledger = 96; pending = 96 }

-- A search under a test led from one study to another: with 96 slots in each list, to the first
-- verdict.
pub record SearchedTo (t : Overhead NamedTest) (before after : Study) : Type 0 where
  pub first : Moment
  pub last : Moment
  pub begins : first.study ≡ before
  pub ends : last.study ≡ after
  pub room : HasRoom slots first
  pub searched : ToVerdict (board_answer t) slots first last
  pub means : Means (board_answer t) last
  pub few : after.steps ≤ 97

-- the names on levels, as bytes
abbrev pub names_of : List Level → List (List ℕ)
names_of levels = map (λ level. level.task.now) levels

-- the estimates on levels
abbrev pub estimates_of : List Level → List ℕ
estimates_of levels = map (λ level. level.estimate) levels

-- Level by level, the first n, these are the names of a found order's tasks and their estimates.
pub record LevelsOf (tasks : Sheet) (f : Finding) (n : ℕ)
    (names : List (List ℕ)) (estimates : List ℕ) : Type 0 where
  pub named : EachLine (λ k. nth names k [] ≡ task_of tasks (nth f.order k 0)) n
  pub estimated : EachLine (λ k. nth estimates k 0 ≡ nth f.estimates (nth f.order k 0) 0) n

-- the first places of an order, as many as the tasks sheet has value lines, name value lines of it
abbrev pub IsOfLines : Sheet → List ℕ → Type 0
IsOfLines tasks order =
    EachLine (λ k. (1 ≤ nth order k 0) × (nth order k 0 ≤ count_of tasks)) (count_of tasks)

-- past the last level stand no byte and 0
abbrev pub BlankPast : ℕ → List (List ℕ) → List ℕ → Type 0
BlankPast n names estimates =
    (k : ℕ) → n < k → (nth names k [] ≡ []) × (nth estimates k 0 ≡ 0)

-- how a state is said: found, none, or stopped; a search leaves no other
abbrev pub verdict_of : State → Verdict
verdict_of (state.Found f) = verdict.Found
verdict_of state.None = verdict.None
verdict_of state.Stopped = verdict.Stopped
verdict_of state.Draft = verdict.Stopped
verdict_of (state.Running room) = verdict.Stopped

-- the levels of a state: those of the order that is found, one for each row, and otherwise none
abbrev pub LevelsIn : Sheet → State → ℕ → List (List ℕ) → List ℕ → Type 0
LevelsIn tasks s n names estimates =
    MatchOption (finding_in s)
    (n ≡ 0)
    (λ f. (n ≡ count_of tasks) × LevelsOf tasks f n names estimates)
    × BlankPast n names estimates

-- the report shows a study once it is searched: its verdict, its counts and its levels
pub record ShowsStudy (tasks : Sheet) (s : Study) (r : Report) : Type 0 where
  pub verdict : r.verdict ≡ verdict_of s.state
  pub ranges : r.ranges ≡ s.ledger_count
  pub steps : r.steps ≡ s.steps
  pub levels : LevelsIn tasks s.state r.level_count (names_of r.levels) (estimates_of r.levels)

-- what came of the answer: it passes where no task misses its estimate, or the first one that does
-- is named, with its own answer
abbrev pub OutcomeOf : Sheet → Option Miss → Outcome → Type 0
OutcomeOf tasks None outcome.Passes = Unit {0}
OutcomeOf tasks (Some miss) (outcome.Fails task bound) =
    (task.now ≡ task_of tasks miss.task) × (bound ≡ miss.bound)
OutcomeOf tasks miss outcome = ⊥

-- The order and the estimates of an answer: the order has in its k-th place the row of the task that
-- the k-th value line names, and that row's estimate is the line's.
pub record AnswerOf (tasks answer : Sheet) (order estimates : List ℕ) : Type 0 where
  pub size : length order ≡ count_of tasks
  pub named : EachLine (λ k. HasTaskAt tasks (task_of answer k) (nth order k 0)) (count_of answer)
  pub many : length estimates ≡ count_of tasks
  pub estimated : EstimatesOf answer order estimates (count_of answer)

-- the outcome is that of the answer, checked under a test
pub record ChecksAnswer (t : Overhead NamedTest) (rows : List Row)
    (tasks answer : Sheet) (o : Outcome) : Type 0 where
  pub order : List ℕ
  pub estimates : List ℕ
  pub is : AnswerOf tasks answer order estimates
  pub miss : Option Miss
  pub first : FirstMiss (board_answer t) rows order estimates miss
  pub outcome : OutcomeOf tasks miss o

-- the values of three sheets: the board's test, a study of the rows, the answer's order, and its
-- estimates by row, each in 32 places
pub record CaseOf (board tasks answer : Sheet) (case : Case) : Type 0 where
  pub has_test : HasTest board
  pub test : IsTest board case.test
  pub pairs : Pairs tasks answer (Ok case.order)
  pub once : EachRowOnce tasks answer case.order
  pub lines : EachLine (HasRow tasks) (count_of tasks)
  pub rows : RowsOf tasks (count_of tasks) (view case.study.table)
  pub history : HasHistory case.study
  pub lie : EachLine (HasEstimate tasks answer) (count_of answer)
  pub estimated : EstimatesOf answer case.order case.estimates (count_of answer)
  pub size : length case.estimates ≡ 32

-- The levels show an order of the rows, and an estimate for each, from its C to its D: no task of
-- the order is late, and it passes the estimates.
pub record ShowsOrder (t : Overhead NamedTest) (tasks : Sheet)
    (rows : List Row) (r : Report) : Type 0 where
  pub order : List ℕ
  pub estimates : List ℕ
  pub each : Order rows order
  pub holds : Holds (board_answer t) rows order
  pub lie : Estimates rows estimates
  pub passes : Passes (board_answer t) rows (as_range estimates) order
  pub many : r.level_count ≡ length rows
  pub named : EachLine
      (λ k. nth (names_of r.levels) k [] ≡ task_of tasks (nth order k 0)) r.level_count
  pub estimated : EachLine
      (λ k. nth (estimates_of r.levels) k 0 ≡ nth estimates (nth order k 0) 0) r.level_count

-- What a verdict, its counts and its levels promise of these rows under a test.
pub record Promises (t : Overhead NamedTest) (tasks : Sheet)
    (rows : List Row) (r : Report) : Type 0 where
  -- found: the levels show an order that holds, and estimates that it passes
  pub found : r.verdict ≡ verdict.Found → ShowsOrder t tasks rows r
  -- none: every order of the rows has a late task
  pub none : r.verdict ≡ verdict.None → (order : List ℕ) → Order rows order
      → HasLate (board_answer t) rows order
  -- the steps are as many as the ledger ranges and one more, and the most that 96 slots allow
  pub counted : r.steps ≡ r.ranges + 1
  pub few : r.steps ≤ 97

-- The report on two sheets under a test: what a search of the sheet's rows shows, and what came of
-- the answer.
pub record Reports (t : Overhead NamedTest) (tasks answer : Sheet) (r : Report) : Type 0 where
  pub before : Study
  pub after : Study
  pub rows : RowsOf tasks (count_of tasks) (view before.table)
  pub history : HasHistory before
  pub searched : SearchedTo t before after
  pub shows : ShowsStudy tasks after r
  pub promises : Promises t tasks (view before.table) r
  pub checks : ChecksAnswer t (view before.table) tasks answer r.outcome

-- three texts are sheets, and these are what was read
abbrev pub Read : List ℕ → List ℕ → List ℕ → Sheet → Sheet → Sheet → Type 0
Read x y z board tasks answer =
    ReadsText Board (sheet_of Board) x (Ok board)
    × ReadsText Tasks (sheet_of Tasks) y (Ok tasks)
    × ReadsText Answer (sheet_of Answer) z (Ok answer)

-- Three texts have a report: each is a sheet, every question holds, and the report is that on the
-- sheets under the board's test.
pub record Marked (x y z : List ℕ) (r : Report) : Type 0 where
  pub board : Sheet
  pub tasks : Sheet
  pub answer : Sheet
  pub read : Read x y z board tasks answer
  pub has_test : HasTest board
  pub paired : IsPaired tasks answer
  pub lines : EachLine (HasRow tasks) (count_of tasks)
  pub lie : EachLine (HasEstimate tasks answer) (count_of answer)
  pub test : Overhead NamedTest
  pub is_test : IsTest board test
  pub reports : Reports test tasks answer r

-- three texts have a fault: the first of the texts, or the first of the sheets that they are
abbrev pub Refused : List ℕ → List ℕ → List ℕ → Fault → Type 0
Refused x y z fault =
    TextsFail x y z fault
    ⊎ ((board tasks answer : Sheet)
    × Read x y z board tasks answer
    × SheetsFail board tasks answer fault)

-- marking three texts: a report, or the first fault
abbrev pub Marks : List ℕ → List ℕ → List ℕ → Result Report Fault → Type 0
Marks x y z r = MatchResult r (Marked x y z) (Refused x y z)

-- two lists of names, and two of estimates, are the same on every level
abbrev pub SameLevels : List (List ℕ) → List (List ℕ) → List ℕ → List ℕ → Type 0
SameLevels names others estimates numbers =
    (k : ℕ) → 1 ≤ k
    → (nth names k [] ≡ nth others k []) × (nth estimates k 0 ≡ nth numbers k 0)

-- two reports show the same of a search
pub record SameShown (r q : Report) : Type 0 where
  pub verdict : r.verdict ≡ q.verdict
  pub ranges : r.ranges ≡ q.ranges
  pub steps : r.steps ≡ q.steps
  pub level_count : r.level_count ≡ q.level_count
  pub levels : SameLevels
      (names_of r.levels) (names_of q.levels) (estimates_of r.levels) (estimates_of q.levels)

-- two outcomes are the same: both pass, or both name the same task with the same bound
abbrev pub SameOutcome : Outcome → Outcome → Type 0
SameOutcome outcome.Passes outcome.Passes = Unit {0}
SameOutcome (outcome.Fails task bound) (outcome.Fails other given) =
    (task.now ≡ other.now) × (bound ≡ given)
SameOutcome o p = ⊥

-- two reports say the same
abbrev pub SameReport : Report → Report → Type 0
SameReport r q = SameShown r q × SameOutcome r.outcome q.outcome
