-- What is asked of a text, which fault is the first, and what it is for a text to be a sheet.
use Rattle.std.specs.Prelude.{◌≡◌, ℕ, ◌+◌, ◌-◌, ◌<◌, ◌≤◌, ◌⊎◌, ◌==◌, if◌then◌else◌, List, [], map, length, All, Contains}
use Rattle.table.specs.declared.fault.Fault.{Fault}
use Rattle.table.specs.declared.fault.Fault.TheVariants.{BadText, BadNames, BadFieldCount, BadField, BadLineCount}
use Rattle.table.specs.Faults.{place_of}
use Rattle.table.specs.Places.{nth}
use Rattle.sheets.specs.declared.form.Column.{Column}
use Rattle.sheets.specs.declared.form.Kind.{Kind}
use Rattle.sheets.specs.declared.form.Kind.TheVariants.{Name, Number}
use Rattle.sheets.specs.declared.form.Form.{Form}
use Rattle.sheets.specs.Fields.{IsName, Writes}
use Rattle.sheets.specs.Forms.{name_of, kind_of, columns_of, most_of, place}
use Rattle.sheets.specs.Texts.{line_feed, IsText}

-- question 1: the text has 1 to 4,096 bytes, of which the last is a line feed
abbrev pub IsSized : List ℕ → Type 0
IsSized text = (1 ≤ length text) × (length text ≤ 4096) × (nth text (length text) 0 ≡ line_feed)

-- Line 1 has the names of these columns, from left to right: they are as many as the form's, and
-- each of the form's is among them, so each once.
pub record Heads (form : Form) (names : List (List ℕ)) (columns : List Column) : Type 0 where
  pub named : names ≡ map name_of columns
  pub size : length columns ≡ length (columns_of form)
  pub each : All (Contains columns) (columns_of form)

-- question 2: line 1 has the names of the form's columns, each once, in some order
abbrev pub HasNames : Form → List (List ℕ) → Type 0
HasNames form names = (columns : List Column) × Heads form names columns

-- a field has the form of its kind
abbrev pub IsOfKind : Kind → List ℕ → Type 0
IsOfKind Name field = IsName field
IsOfKind Number field = (n : ℕ) × Writes field n

-- question 5: a sheet of a form may have so many value lines
abbrev pub AllowedCount : Form → ℕ → Type 0
AllowedCount form count = (1 ≤ count) × (count ≤ most_of form)

-- line k is a value line: any but line 1 is
abbrev pub IsValueLine : List (List (List ℕ)) → ℕ → Type 0
IsValueLine lines k = (2 ≤ k) × (k ≤ length lines)

-- field j of line k; no byte where there is none
abbrev pub field : List (List (List ℕ)) → ℕ → ℕ → List ℕ
field lines k j = nth (nth lines k []) j []

-- question 3: line k has as many fields as line 1
abbrev pub SameCount : List (List (List ℕ)) → ℕ → Type 0
SameCount lines k = length (nth lines k []) ≡ length (nth lines 1 [])

-- question 4: field j of line k has the form of its kind, which is that of the column whose name
-- stands over it in line 1
abbrev pub Conforms : List (List (List ℕ)) → ℕ → ℕ → Type 0
Conforms lines k j =
    (column : Column) → field lines 1 j ≡ name_of column
    → IsOfKind (kind_of column) (field lines k j)

-- where question 5 fails: line 1 if there is no value line, otherwise the first line too many
abbrev pub line_at_fault : Form → List (List (List ℕ)) → ℕ
line_at_fault form lines = if length lines == 1 then 1 else most_of form + 2

-- in a text of these lines the fault's question, one of 2 to 5, fails at the fault's place
abbrev pub FailsIn : Form → ℕ → List (List (List ℕ)) → Fault → Type 0
FailsIn form number lines (BadNames at) = (at ≡ place number 1 0) × ¬ HasNames form (nth lines 1 [])
FailsIn form number lines (BadFieldCount at) =
    (k : ℕ) × (at ≡ place number k 0) × IsValueLine lines k × ¬ SameCount lines k
FailsIn form number lines (BadField at) =
    (k j : ℕ) × (at ≡ place number k j) × IsValueLine lines k
    × (1 ≤ j) × (j ≤ length (nth lines k [])) × ¬ Conforms lines k j
FailsIn form number lines (BadLineCount at) =
    (at ≡ place number (line_at_fault form lines) 0) × ¬ AllowedCount form (length lines - 1)
FailsIn form number lines fault = ⊥

-- the fault's question, one of 1 to 5, fails at the fault's place
abbrev pub Fails : Form → ℕ → List ℕ → Fault → Type 0
Fails form number text (BadText at) = (at ≡ place number 0 0) × ¬ IsSized text
Fails form number text fault =
    (lines : List (List (List ℕ))) × IsText text lines × FailsIn form number lines fault

-- 1 for question 5, which is asked when all lines are read; 0 for the others
abbrev pub is_last : Fault → ℕ
is_last (BadLineCount at) = 1
is_last fault = 0

-- One fault comes before another: question 5 is asked last; of the others that of the line with the
-- smaller number is asked first, and in a line that of the whole line (field 0) before those of its
-- fields, from left to right.
abbrev pub Before : Fault → Fault → Type 0
Before one other =
    (is_last one < is_last other)
    ⊎ ((is_last one ≡ is_last other)
    × (((place_of one).line < (place_of other).line)
    ⊎ (((place_of one).line ≡ (place_of other).line)
    × ((place_of one).field < (place_of other).field))))

-- the fault is the first of a text: its question fails at its place, and no
-- question of a fault that comes before does
abbrev pub IsFirst : Form → ℕ → List ℕ → Fault → Type 0
IsFirst form number text fault =
    Fails form number text fault
    × ((other : Fault) → Before other fault → ¬ Fails form number text other)

-- A text is a sheet of a form, of these lines and with its columns in this order: every
-- question holds.
pub record IsSheet (form : Form) (text : List ℕ) (lines : List (List (List ℕ)))
    (columns : List Column) : Type 0 where
  pub sized : IsSized text
  pub cut : IsText text lines
  pub heads : Heads form (nth lines 1 []) columns
  pub counts : (k : ℕ) → IsValueLine lines k → SameCount lines k
  pub kinds : (k j : ℕ) → IsValueLine lines k → 1 ≤ j → j ≤ length (nth lines k [])
      → Conforms lines k j
  pub allowed : AllowedCount form (length lines - 1)
