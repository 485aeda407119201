-- The tables that are printed of a report and of a fault: their lines of fields, so their bytes.
use Rattle.std.specs.Prelude.{ℕ, zero, suc, Option, None, Some, List, [], ◌∷◌, ◌++◌, map, length, min, codes, decimal}
use Rattle.std.specs.Borrow.{Bor}
use Rattle.table.specs.declared.fault.Fault.{Fault}
use Rattle.table.specs.Faults.{number_of, place_of}
use Rattle.table.specs.Places.{nth}
use Rattle.sheets.specs.declared.form.Column.TheVariants.{Task, Estimate}
use Rattle.sheets.specs.Forms.{name_of}
use Rattle.marking.specs.declared.report.Verdict.{Verdict}
use Rattle.marking.specs.declared.report.Verdict.TheVariants.{Found, None as NoOrder, Stopped}
use Rattle.marking.specs.declared.report.Outcome.{Outcome}
use Rattle.marking.specs.declared.report.Outcome.TheVariants.{Passes, Fails}
use Rattle.marking.specs.declared.report.Report.{Report}
use Rattle.marking.specs.Reports.{names_of, estimates_of}

-- a verdict's word
abbrev pub word_of : Verdict → List ℕ
word_of Found = codes "found"
word_of NoOrder = codes "none"
word_of Stopped = codes "stopped"

-- a bound in decimal, or `late` where there is none
abbrev pub bound_text : Option ℕ → List ℕ
bound_text (Some bound) = decimal bound
bound_text None = codes "late"

-- the texts that a list of references lends
abbrev pub texts_of : List (Bor (List ℕ)) → List (List ℕ)
texts_of parts = map (λ part. part.now) parts

-- the name of the task on a level; no byte where there is none
abbrev pub task_on : Report → ℕ → List ℕ
task_on r level = nth (names_of r.levels) level []

-- the line of a level: the level, its task, and the task's estimate
abbrev pub level_line : Report → ℕ → List (List ℕ)
level_line r level =
    decimal level ∷ task_on r level ∷ decimal (nth (estimates_of r.levels) level 0) ∷ []

-- the lines of the first n levels, from level 1 on
unfoldable pub level_lines : Report → ℕ → List (List (List ℕ))
level_lines r zero = []
level_lines r (suc n) = level_lines r n ++ level_line r (suc n) ∷ []

-- how many levels are shown: as many as the report says, and no more than it has places for
abbrev pub levels_shown : Report → ℕ
levels_shown r = min r.level_count (length r.levels)

-- the line of the answer: that it passes, or the first task that fails, with its bound
abbrev pub outcome_line : Outcome → List (List ℕ)
outcome_line Passes = codes "passes" ∷ codes "-" ∷ codes "0" ∷ []
outcome_line (Fails task bound) = codes "fails" ∷ task.now ∷ bound_text bound ∷ []

-- the lines of a report: a line of names and one of values, then one of names and one for each
-- level, then one of names and one of the answer
abbrev pub report_lines : Report → List (List (List ℕ))
report_lines r =
    (codes "verdict" ∷ codes "ranges" ∷ codes "steps" ∷ [])
    ∷ (word_of r.verdict ∷ decimal r.ranges ∷ decimal r.steps ∷ [])
    ∷ (codes "level" ∷ name_of Task ∷ name_of Estimate ∷ [])
    ∷ (level_lines r (levels_shown r)
    ++ (codes "answer" ∷ name_of Task ∷ codes "bound" ∷ [])
    ∷ outcome_line r.outcome
    ∷ [])

-- the lines of a fault: a line of names, then its number and its place
abbrev pub fault_lines : Fault → List (List (List ℕ))
fault_lines f =
    (codes "fault" ∷ codes "sheet" ∷ codes "line" ∷ codes "field" ∷ [])
    ∷ (decimal (number_of f)
    ∷ decimal (place_of f).sheet
    ∷ decimal (place_of f).line
    ∷ decimal (place_of f).field
    ∷ [])
    ∷ []
