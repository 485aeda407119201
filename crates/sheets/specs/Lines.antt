-- What the value lines are asked. Only contracts of private functions cite these.
use Rattle.std.specs.Prelude.{◌≡◌, ℕ, ◌+◌, ◌<◌, ◌==◌, if◌then◌else◌, ◌⊎◌, List, [], length, slice_index_or, Result, MatchResult}
use Rattle.table.specs.declared.fault.Fault.{Fault}
use Rattle.table.specs.declared.fault.Fault.TheVariants.{BadFieldCount, BadField, BadLineCount}
use Rattle.sheets.specs.declared.form.Column.{Column}
use Rattle.sheets.specs.declared.form.Column.TheVariants.{Processors}
use Rattle.sheets.specs.declared.form.Form.{Form}
use Rattle.sheets.specs.declared.sheet.Sheet.{Sheet}
use Rattle.sheets.specs.Forms.{kind_of, most_of, first_columns, place}
use Rattle.sheets.specs.Reading.{IsOfKind, AllowedCount}
use Rattle.sheets.specs.Sheets.{lines_of}
use Rattle.sheets.specs.Texts.{fields_in}

-- the field at a place, counted from 0, has the form of its column's kind
abbrev pub FitsAt : List Column → List (List ℕ) → ℕ → Type 0
FitsAt columns fields at =
    IsOfKind (kind_of (slice_index_or columns at Processors)) (slice_index_or fields at [])

-- the field at a place is the first that has not
abbrev pub FirstMisfit : List Column → List (List ℕ) → ℕ → Type 0
FirstMisfit columns fields at =
    (at < length columns) × ((left : ℕ) → left < at → FitsAt columns fields left)
    × ¬ FitsAt columns fields at

-- there are as many fields as columns, and each has the form of its kind
abbrev pub Fits : List Column → List (List ℕ) → Type 0
Fits columns fields =
    (length fields ≡ length columns) × ((at : ℕ) → at < length columns → FitsAt columns fields at)

-- the fault is the first of a line with these fields
abbrev pub LineFails : ℕ → List Column → ℕ → List (List ℕ) → Fault → Type 0
LineFails number columns line fields fault =
    (¬ (length fields ≡ length columns) × (fault ≡ BadFieldCount (place number line 0)))
    ⊎ ((length fields ≡ length columns)
    × (at : ℕ) × (fault ≡ BadField (place number line (at + 1))) × FirstMisfit columns fields at)

-- the first value lines fit, so many of them
abbrev pub FirstFit : List Column → List (List ℕ) → ℕ → Type 0
FirstFit columns lines count =
    (at : ℕ) → at < count → Fits columns (fields_in (slice_index_or lines at []))

-- the fault is the first of these value lines, which begin with line 2
abbrev pub LinesFail : Form → ℕ → List Column → List (List ℕ) → Fault → Type 0
LinesFail form number columns lines fault =
    ((at : ℕ) × (at < length lines) × FirstFit columns lines at
    × LineFails number columns (at + 2) (fields_in (slice_index_or lines at [])) fault)
    ⊎ (FirstFit columns lines (length lines) × ¬ AllowedCount form (length lines)
    × (fault ≡ BadLineCount (place number (if length lines == 0 then 1 else most_of form + 2) 0)))

-- reading the value lines: the sheet of all of them, or the first fault; a list may have more
-- columns than the form
abbrev pub ReadsLines : Form → ℕ → List Column → List (List ℕ) → Result Sheet Fault → Type 0
ReadsLines form number columns lines read =
    MatchResult read
    (λ sheet. (sheet.form ≡ form) × (sheet.number ≡ number) × (sheet.columns ≡ columns)
    × (lines_of sheet ≡ lines) × FirstFit (first_columns form columns) lines (length lines)
    × AllowedCount form (length lines))
    (LinesFail form number (first_columns form columns) lines)
