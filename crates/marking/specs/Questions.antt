-- What three sheets are asked, once each is read: their values.
use Rattle.std.specs.Prelude.{◌≡◌, ℕ, ◌<◌, ◌≤◌, List}
use Rattle.table.specs.declared.fault.Fault.{Fault}
use Rattle.table.specs.declared.fault.Fault.TheVariants.{BadRow, BadTest, BadOrder}
use Rattle.table.specs.declared.numbers.Numbers.{Numbers}
use Rattle.table.specs.Rows.{IsRow}
use Rattle.bounds.specs.Made.{Allowed}
use Rattle.bounds.specs.declared.overhead.Overhead.{Overhead}
use Rattle.bounds.specs.declared.named.NamedTest.{NamedTest}
use Rattle.bounds.specs.Named.{IsTestName, IsNamed}
use Rattle.sheets.specs.declared.form.Column.{Column}
use Rattle.sheets.specs.declared.form.Column.TheVariants.{Processors, Overhead as V, Test, Wcet, Period, Deadline, Estimate}
use Rattle.sheets.specs.declared.sheet.Sheet.{Sheet}
use Rattle.sheets.specs.Fields.{value, Writes}
use Rattle.sheets.specs.Sheets.{left_of, HasField, field_of, field_place, line_place}
use Rattle.sheets.specs.declared.form.Form.{Form}
use Rattle.sheets.specs.declared.form.Form.TheVariants.{Board, Tasks, Answer}
use Rattle.sheets.specs.Reading.{IsFirst, IsSheet}
use Rattle.sheets.specs.Pairs.{count_of, task_of, IsNewName, Answers, IsAnswered, HasTaskAt, EachLine, FirstLine, PairFails}

-- the number under a column in the k-th value line
abbrev pub number_under : Sheet → ℕ → Column → ℕ
number_under s k c = value (field_of s k c)

-- the k-th value line has a number under a column
abbrev pub HasNumber : Sheet → ℕ → Column → Type 0
HasNumber s k c = HasField s k c × ((n : ℕ) × Writes (field_of s k c) n)

-- question 12, of a column of the board: m is from 1 to 16, and the test is known; V is small
-- enough by its form
abbrev pub Suits : Sheet → Column → Type 0
Suits board Processors = Allowed (number_under board 1 Processors)
Suits board Test = IsTestName (field_of board 1 Test)
Suits board column = Unit {0}

-- the board has a test
abbrev pub HasTest : Sheet → Type 0
HasTest board = (c : Column) → Suits board c

-- the fault is that of the leftmost field of the board of which the question fails
abbrev pub TestFails : Sheet → Fault → Type 0
TestFails board fault =
    (c : Column)
    × (fault ≡ BadTest (field_place board 1 c))
    × (Suits board c → ⊥)
    × ((d : Column) → left_of board d < left_of board c → Suits board d)

-- the test is the board's: the one of its name, on its processors, under an overhead of its V
abbrev pub IsTest : Sheet → Overhead NamedTest → Type 0
IsTest board t =
    (t.added ≡ number_under board 1 V)
    × IsNamed (field_of board 1 Test) (number_under board 1 Processors) t.below

-- the numbers in the k-th value line of the tasks sheet
abbrev pub numbers_at : Sheet → ℕ → Numbers
numbers_at tasks k = record {
  wcet = number_under tasks k Wcet;
  period = number_under tasks k Period;
  deadline = number_under tasks k Deadline;
}

-- question 11: the numbers of the k-th value line of the tasks sheet make a row
abbrev pub HasRow : Sheet → ℕ → Type 0
HasRow tasks k = IsRow (numbers_at tasks k)

-- the fault is that of the first line that makes no row
abbrev pub RowFails : Sheet → Fault → Type 0
RowFails tasks fault =
    (k : ℕ)
    × (fault ≡ BadRow (line_place tasks k))
    × FirstLine (HasRow tasks) (count_of tasks) k

-- question 17: the estimate in the k-th value line of the answer lies from the C to the D of the
-- task that the line names
abbrev pub HasEstimate : Sheet → Sheet → ℕ → Type 0
HasEstimate tasks answer k =
    (row : ℕ) → HasTaskAt tasks (task_of answer k) row
    → (number_under tasks row Wcet ≤ number_under answer k Estimate)
    × (number_under answer k Estimate ≤ number_under tasks row Deadline)

-- the fault is that of the first line of which that question fails
abbrev pub EstimateFails : Sheet → Sheet → Fault → Type 0
EstimateFails tasks answer fault =
    (k : ℕ)
    × (fault ≡ BadOrder (field_place answer k Estimate))
    × FirstLine (HasEstimate tasks answer) (count_of answer) k

-- a text is a sheet of a form
abbrev pub IsForm : Form → List ℕ → Type 0
IsForm form text =
    (lines : List (List (List ℕ))) × (columns : List Column) × IsSheet form text lines columns

-- the number of each of the three sheets
abbrev pub sheet_of : Form → ℕ
sheet_of Board = 1
sheet_of Tasks = 2
sheet_of Answer = 3

-- The fault is the first of three texts, where one of them is no sheet: those of the board come
-- first, then those of the tasks.
pub data TextsFail (board tasks answer : List ℕ) (fault : Fault) : Type 0 where
  in_board : IsFirst Board (sheet_of Board) board fault → TextsFail board tasks answer fault
  in_tasks : IsForm Board board → IsFirst Tasks (sheet_of Tasks) tasks fault
      → TextsFail board tasks answer fault
  in_answer : IsForm Board board → IsForm Tasks tasks
      → IsFirst Answer (sheet_of Answer) answer fault → TextsFail board tasks answer fault

-- every question of a pair holds
abbrev pub IsPaired : Sheet → Sheet → Type 0
IsPaired tasks answer =
    EachLine (IsNewName tasks) (count_of tasks)
    × EachLine (Answers tasks answer) (count_of answer)
    × EachLine (IsAnswered tasks answer) (count_of tasks)

-- The fault is the first of three sheets: the board's test is asked first, then the pair, the rows
-- and the estimates.
pub data SheetsFail (board tasks answer : Sheet) (fault : Fault) : Type 0 where
  by_test : TestFails board fault → SheetsFail board tasks answer fault
  by_pair : HasTest board → PairFails tasks answer fault → SheetsFail board tasks answer fault
  by_row : HasTest board → IsPaired tasks answer → RowFails tasks fault
      → SheetsFail board tasks answer fault
  by_estimate : HasTest board → IsPaired tasks answer → EachLine (HasRow tasks) (count_of tasks)
      → EstimateFails tasks answer fault → SheetsFail board tasks answer fault
