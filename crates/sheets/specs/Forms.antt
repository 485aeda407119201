-- The forms of sheet: their columns, and how many value lines they may have.
use Rattle.std.specs.Prelude.{ℕ, List, [], ◌∷◌, length, take, codes}
use Rattle.table.specs.declared.fault.Place.{Place}
use Rattle.sheets.specs.declared.form.Column.{Column}
use Rattle.sheets.specs.declared.form.Column.TheVariants.{Processors, Overhead, Test, Task, Wcet, Period, Deadline, Estimate}
use Rattle.sheets.specs.declared.form.Kind.{Kind}
use Rattle.sheets.specs.declared.form.Kind.TheVariants.{Name, Number}
use Rattle.sheets.specs.declared.form.Form.{Form}
use Rattle.sheets.specs.declared.form.Form.TheVariants.{Board, Tasks, Answer}

-- a column's name
abbrev pub name_of : Column → List ℕ
name_of Processors = codes "processors"
name_of Overhead = codes "overhead"
name_of Test = codes "test"
name_of Task = codes "task"
name_of Wcet = codes "wcet"
name_of Period = codes "period"
name_of Deadline = codes "deadline"
name_of Estimate = codes "estimate"

-- the kind of the fields under a column: a name under task and test, a number under any other
abbrev pub kind_of : Column → Kind
kind_of Processors = Number
kind_of Overhead = Number
kind_of Test = Name
kind_of Task = Name
kind_of Wcet = Number
kind_of Period = Number
kind_of Deadline = Number
kind_of Estimate = Number

-- the columns of a form
abbrev pub columns_of : Form → List Column
columns_of Board = Processors ∷ Overhead ∷ Test ∷ []
columns_of Tasks = Task ∷ Wcet ∷ Period ∷ Deadline ∷ []
columns_of Answer = Task ∷ Estimate ∷ []

-- the most value lines that any sheet may have
abbrev pub most_lines : ℕ
most_lines = 32

-- the most value lines that a sheet of a form may have; the least is 1
abbrev pub most_of : Form → ℕ
most_of Board = 1
most_of Tasks = most_lines
most_of Answer = most_lines

-- the columns that stand first in a list, as many as the form has
abbrev pub first_columns : Form → List Column → List Column
first_columns form columns = take (length (columns_of form)) columns

-- a place on the sheet of a number
abbrev pub place : ℕ → ℕ → ℕ → Place
place number line field = record { sheet = number; line = line; field = field }
