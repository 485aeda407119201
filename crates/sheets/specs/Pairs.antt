-- Pairing an answer sheet with a tasks sheet.
use Rattle.std.specs.Prelude.{◌≡◌, ◌≢◌, ℕ, ◌<◌, ◌≤◌, List, length, Result, MatchResult}
use Rattle.table.specs.declared.fault.Fault.{Fault}
use Rattle.table.specs.declared.fault.Fault.TheVariants.{RepeatedTask, BadAnswer, NoAnswer}
use Rattle.table.specs.declared.fault.Place.{Place}
use Rattle.table.specs.Places.{nth}
use Rattle.sheets.specs.declared.form.Column.TheVariants.{Task}
use Rattle.sheets.specs.declared.sheet.Sheet.{Sheet}
use Rattle.sheets.specs.Forms.{most_lines}
use Rattle.sheets.specs.Sheets.{values_of, field_of, field_place, line_place}

-- how many value lines a sheet has
abbrev pub count_of : Sheet → ℕ
count_of sheet = length (values_of sheet)

-- the name in the k-th value line
abbrev pub task_of : Sheet → ℕ → List ℕ
task_of sheet k = field_of sheet k Task

-- the place of the name in the k-th value line
abbrev pub name_place : Sheet → ℕ → Place
name_place sheet k = field_place sheet k Task

-- question 6: the name of the k-th value line stands in no earlier one
abbrev pub IsNewName : Sheet → ℕ → Type 0
IsNewName sheet k =
    (earlier : ℕ) → 1 ≤ earlier → earlier < k → task_of sheet earlier ≢ task_of sheet k

-- the k-th value line has the name
abbrev pub HasTaskAt : Sheet → List ℕ → ℕ → Type 0
HasTaskAt sheet name k = (1 ≤ k) × (k ≤ count_of sheet) × (task_of sheet k ≡ name)

-- one of the value lines has the name
abbrev pub HasTask : Sheet → List ℕ → Type 0
HasTask sheet name = (k : ℕ) × HasTaskAt sheet name k

-- question 7: the name of the k-th value line of the answer stands on the tasks sheet, and in
-- no earlier line of the answer
abbrev pub Answers : Sheet → Sheet → ℕ → Type 0
Answers tasks answer k = HasTask tasks (task_of answer k) × IsNewName answer k

-- question 8: the task of the k-th value line stands on the answer sheet
abbrev pub IsAnswered : Sheet → Sheet → ℕ → Type 0
IsAnswered tasks answer k = HasTask answer (task_of tasks k)

-- a question holds in each of so many lines
abbrev pub EachLine : (ℕ → Type 0) → ℕ → Type 0
EachLine question count = (k : ℕ) → 1 ≤ k → k ≤ count → question k

-- of so many lines the k-th is the first in which a question fails
abbrev pub FirstLine : (ℕ → Type 0) → ℕ → ℕ → Type 0
FirstLine question count k =
    (1 ≤ k) × (k ≤ count) × ¬ question k
    × ((earlier : ℕ) → 1 ≤ earlier → earlier < k → question earlier)

-- the fault is the first: its question fails at its place, the same question in no line above,
-- and no earlier question
abbrev pub PairFails : Sheet → Sheet → Fault → Type 0
PairFails tasks answer (RepeatedTask at) =
    (k : ℕ) × (at ≡ name_place tasks k) × FirstLine (IsNewName tasks) (count_of tasks) k
PairFails tasks answer (BadAnswer at) =
    EachLine (IsNewName tasks) (count_of tasks)
    × ((k : ℕ) × (at ≡ name_place answer k) × FirstLine (Answers tasks answer) (count_of answer) k)
PairFails tasks answer (NoAnswer at) =
    EachLine (IsNewName tasks) (count_of tasks)
    × EachLine (Answers tasks answer) (count_of answer)
    × ((k : ℕ) × (at ≡ line_place tasks k) × FirstLine (IsAnswered tasks answer) (count_of tasks) k)
PairFails tasks answer fault = ⊥

-- a list has in its k-th place the row that the k-th value line of the answer names; 0 past
-- the last one
pub record RowsNamed (tasks answer : Sheet) (rows : List ℕ) : Type 0 where
  pub size : length rows ≡ most_lines
  pub named : EachLine (λ k. HasTaskAt tasks (task_of answer k) (nth rows k 0)) (count_of answer)
  pub rest : (k : ℕ) → count_of answer < k → nth rows k 0 ≡ 0

-- pairing: the rows that are named, where every question holds, or the first fault
abbrev pub Pairs : Sheet → Sheet → Result (List ℕ) Fault → Type 0
Pairs tasks answer paired =
    MatchResult paired
    (λ rows. EachLine (IsNewName tasks) (count_of tasks)
    × EachLine (Answers tasks answer) (count_of answer)
    × EachLine (IsAnswered tasks answer) (count_of tasks) × RowsNamed tasks answer rows)
    (PairFails tasks answer)

-- the rows that the answer names are all rows of the tasks sheet, each once: they are as
-- many, no two are the same, and each is a row
abbrev pub EachRowOnce : Sheet → Sheet → List ℕ → Type 0
EachRowOnce tasks answer rows =
    (count_of answer ≡ count_of tasks)
    × ((k other : ℕ) → 1 ≤ k → k ≤ count_of answer → 1 ≤ other → other ≤ count_of answer
    → nth rows k 0 ≡ nth rows other 0 → k ≡ other)
    × EachLine (λ k. (1 ≤ nth rows k 0) × (nth rows k 0 ≤ count_of tasks)) (count_of answer)
