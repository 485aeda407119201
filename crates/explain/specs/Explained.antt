-- What is said of a report and of a fault, line by line.
use Rattle.std.specs.Prelude.{ℕ, zero, suc, Bool, List, [], ◌∷◌, ◌++◌, Option, None, Some, Result, Ok, Err, map, flat_map, ◌==◌, nat_eq, option_to_list, if◌then◌else◌, codes, decimal}
use Rattle.std.specs.List.{ends_with}
use Rattle.table.specs.declared.fault.Place.{Place}
use Rattle.table.specs.declared.fault.Fault.{Fault}
use Rattle.table.specs.Faults.{number_of, place_of, words_of}
use Rattle.table.specs.Places.{nth}
use Rattle.sheets.specs.declared.form.Form.{Form}
use Rattle.sheets.specs.declared.form.Form.TheVariants.{Board, Tasks, Answer}
use Rattle.sheets.specs.Texts.{parts}
use Rattle.marking.specs.declared.report.Report.{Report}
use Rattle.marking.specs.declared.report.Verdict.{Verdict}
use Rattle.marking.specs.declared.report.Verdict.TheVariants.{Found, None as NoOrder, Stopped}
use Rattle.marking.specs.declared.report.Outcome.{Outcome}
use Rattle.marking.specs.declared.report.Outcome.TheVariants.{Passes, Fails}
use Rattle.explain.specs.declared.cause.Given.{Given}
use Rattle.explain.specs.declared.cause.Cause.{Cause}
use Rattle.explain.specs.Causes.{cause_of, cause_words}
use Rattle.explain.specs.Files.{file_name, form_at}

-- an explanation's bytes: its lines, with a line feed at the end of each
abbrev pub lines_text : List (List ℕ) → List ℕ
lines_text lines = flat_map (λ line. line ++ 10 ∷ []) lines

-- words and a number behind them; nothing where the number is 0
abbrev pub numbered : List ℕ → ℕ → List ℕ
numbered words zero = []
numbered words (suc n) = words ++ decimal (suc n)

-- where a fault lies: its file, its line and its field, where there are such; nothing where there
-- is no sheet
abbrev pub place_words : Option Form → Place → List ℕ
place_words None p = []
place_words (Some form) p =
    file_name form
    ++ numbered (codes ", line ") p.line
    ++ numbered (codes ", field ") p.field
    ++ codes ": "

-- the line of a fault: where it lies, its words, and the number of its question
abbrev pub fault_line : Fault → List ℕ
fault_line fault =
    place_words (form_at (place_of fault).sheet) (place_of fault)
    ++ words_of fault
    ++ codes " (question "
    ++ decimal (number_of fault)
    ++ codes ")"

-- the line of a cause: the file, and what the cause says of it
abbrev pub cause_line : Form → Cause → List ℕ
cause_line form cause = file_name form ++ codes " " ++ cause_words cause

-- of a fault by question 1, the line of its cause
abbrev pub cause_lines : Fault → Form → Given → List (List ℕ)
cause_lines fault form given =
    if number_of fault == 1
    then map (cause_line form) (option_to_list (cause_of given.source given.text.now))
    else []

-- whether line k of a text, as line feeds part it, ends in a carriage return
abbrev pub ends_in_return : List ℕ → ℕ → Bool
ends_in_return text k = ends_with nat_eq (nth (parts 10 text) k []) (codes "\r")

-- the hint on line k
abbrev pub hint_line : Form → ℕ → List ℕ
hint_line form k =
    file_name form
    ++ codes ", line "
    ++ decimal k
    ++ codes " ends in a carriage return: a line must end in a line feed alone"

-- where line k of a text ends in a carriage return, the hint on it
abbrev pub hint_lines : Form → List ℕ → ℕ → List (List ℕ)
hint_lines form text k = if ends_in_return text k then hint_line form k ∷ [] else []

-- which of three is that of the form
abbrev pub given_of : Form → Given → Given → Given → Given
given_of Board board tasks answer = board
given_of Tasks board tasks answer = tasks
given_of Answer board tasks answer = answer

-- what else is said of a fault on a sheet of a form, if it lies on one: its cause, and the hint on
-- its line
abbrev pub sheet_notes : Fault → Option Form → Given → Given → Given → List (List ℕ)
sheet_notes fault None board tasks answer = []
sheet_notes fault (Some form) board tasks answer =
    cause_lines fault form (given_of form board tasks answer)
    ++ hint_lines form (given_of form board tasks answer).text.now (place_of fault).line

-- what else is said of a fault
abbrev pub fault_notes : Fault → Given → Given → Given → List (List ℕ)
fault_notes fault board tasks answer =
    sheet_notes fault (form_at (place_of fault).sheet) board tasks answer

-- what is said of a fault: its line, and what else is known
abbrev pub explained_fault : Fault → Given → Given → Given → List (List ℕ)
explained_fault fault board tasks answer = fault_line fault ∷ fault_notes fault board tasks answer

-- the line of a verdict
abbrev pub verdict_line : Verdict → List ℕ
verdict_line Found = codes "found: in this order no task is late under the board's test"
verdict_line NoOrder =
    codes "none: each order of these tasks has a late task under the board's test"
verdict_line Stopped =
    codes "stopped: the lists of the search are full, which says nothing of whether there is an order"

-- what a bound says of a task that misses its estimate; where there is none the task is late
abbrev pub miss_words : Option ℕ → List ℕ
miss_words (Some bound) = codes " has the bound " ++ decimal bound ++ codes ", above its estimate"
miss_words None = codes " is late"

-- the line of the first task that misses its estimate
abbrev pub miss_line : List ℕ → Option ℕ → List ℕ
miss_line task bound = codes "fails: task " ++ task ++ miss_words bound

-- of an answer that fails, the line of the first task that misses its estimate
abbrev pub outcome_lines : Outcome → List (List ℕ)
outcome_lines Passes = []
outcome_lines (Fails task bound) = miss_line task.now bound ∷ []

-- what is said of a report: the line of its verdict, and that of an answer that fails
abbrev pub explained_report : Report → List (List ℕ)
explained_report report = verdict_line report.verdict ∷ outcome_lines report.outcome

-- what is said of three texts that are marked
abbrev pub explanation : Result Report Fault → Given → Given → Given → List (List ℕ)
explanation (Ok report) board tasks answer = explained_report report
explanation (Err fault) board tasks answer = explained_fault fault board tasks answer
