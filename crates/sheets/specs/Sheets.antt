-- What a sheet that was read has, and what it is to read one.
use Rattle.std.specs.Prelude.{◌≡◌, ℕ, ◌+◌, ◌<◌, ◌≤◌, List, [], map, length, take, drop, Contains, Result, MatchResult}
use Rattle.std.specs.List.{position_or_len}
use Rattle.std.specs.Str.{bytes_eq}
use Rattle.table.specs.declared.fault.Fault.{Fault}
use Rattle.table.specs.declared.fault.Place.{Place}
use Rattle.table.specs.Places.{nth}
use Rattle.sheets.specs.declared.form.Column.{Column}
use Rattle.sheets.specs.declared.form.Form.{Form}
use Rattle.sheets.specs.declared.sheet.Sheet.{Sheet}
use Rattle.sheets.specs.Forms.{name_of, kind_of, columns_of, first_columns, place}
use Rattle.sheets.specs.Texts.{fields_in}
use Rattle.sheets.specs.Reading.{IsOfKind, IsSheet, IsFirst}

-- the columns of a sheet, from left to right
abbrev pub columns_in : Sheet → List Column
columns_in sheet = first_columns sheet.form sheet.columns

-- the value lines of a sheet, as parts of the text
abbrev pub lines_of : Sheet → List (List ℕ)
lines_of sheet = map (λ line. line.now) (take sheet.len sheet.lines)

-- the value lines of a sheet, as their fields
abbrev pub values_of : Sheet → List (List (List ℕ))
values_of sheet = map fields_in (lines_of sheet)

-- how many columns stand to the left of one; all of them where it is none of the sheet's
abbrev pub left_of : Sheet → Column → ℕ
left_of sheet column =
    position_or_len (λ other. bytes_eq (name_of other) (name_of column)) (columns_in sheet)

-- the k-th value line has a field under a column
abbrev pub HasField : Sheet → ℕ → Column → Type 0
HasField sheet k column =
    (1 ≤ k) × (k ≤ length (values_of sheet))
    × (left_of sheet column < length (nth (values_of sheet) k []))

-- the field under a column in the k-th value line; no byte where there is none
abbrev pub field_of : Sheet → ℕ → Column → List ℕ
field_of sheet k column = nth (nth (values_of sheet) k []) (left_of sheet column + 1) []

-- the place of the field under a column in the k-th value line
abbrev pub field_place : Sheet → ℕ → Column → Place
field_place sheet k column = place sheet.number (k + 1) (left_of sheet column + 1)

-- the place of the k-th value line
abbrev pub line_place : Sheet → ℕ → Place
line_place sheet k = place sheet.number (k + 1) 0

-- each value line has a field under each of the form's columns, and the field has the form of its
-- kind
abbrev pub IsFull : Sheet → Type 0
IsFull sheet =
    (k : ℕ) (column : Column) → 1 ≤ k → k ≤ length (values_of sheet)
    → Contains (columns_of sheet.form) column
    → HasField sheet k column × IsOfKind (kind_of column) (field_of sheet k column)

-- the sheet has this form and number, its columns in this order, and all of these lines but
-- line 1 as its value lines
abbrev pub Shows : Form → ℕ → List (List (List ℕ)) → List Column → Sheet → Type 0
Shows form number lines columns sheet =
    (sheet.form ≡ form) × (sheet.number ≡ number)
    × (columns_in sheet ≡ columns) × (values_of sheet ≡ drop 1 lines)

-- reading a text: the sheet that it is, or the first fault
abbrev pub ReadsText : Form → ℕ → List ℕ → Result Sheet Fault → Type 0
ReadsText form number text read =
    MatchResult read
    (λ sheet. (lines : List (List (List ℕ))) × (columns : List Column)
    × IsSheet form text lines columns × Shows form number lines columns sheet)
    (IsFirst form number text)
