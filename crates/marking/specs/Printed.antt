-- What is printed of three texts, and the status to end with.
use Rattle.std.specs.Prelude.{◌≡◌, ℕ, List, Option, Result, Ok, Err}
use Rattle.std.specs.Io.KnownBytes.{Appends}
use Rattle.table.specs.declared.fault.Fault.{Fault}
use Rattle.sheets.specs.Texts.{text_of}
use Rattle.marking.specs.declared.report.Report.{Report}
use Rattle.marking.specs.Reports.{Marks}
use Rattle.marking.specs.Rendered.{report_lines, fault_lines}

-- the lines of a report, or those of a fault
abbrev pub printed_lines : Result Report Fault → List (List (List ℕ))
printed_lines (Ok report) = report_lines report
printed_lines (Err fault) = fault_lines fault

-- the status after a report is 0, and after a fault 1
abbrev pub status_after : Result Report Fault → ℕ
status_after (Ok report) = 0
status_after (Err fault) = 1

-- A report or a fault is printed: its bytes follow what the output held, where that is known, and
-- the status is that after it.
pub record PrintsMarked (marked : Result Report Fault)
    (before after : Option (List ℕ)) (status : ℕ) : Type 0 where
  pub writes : Appends before after (text_of (printed_lines marked))
  pub ends : status ≡ status_after marked

-- Three texts are printed: the bytes of their report or of their fault follow what the output held,
-- where that is known, and the status is that after it.
pub record Prints (board tasks answer : List ℕ)
    (before after : Option (List ℕ)) (status : ℕ) : Type 0 where
  pub marked : Result Report Fault
  pub marks : Marks board tasks answer marked
  pub writes : Appends before after (text_of (printed_lines marked))
  pub ends : status ≡ status_after marked
