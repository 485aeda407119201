-- What is printed beside a report or a fault.
use Rattle.std.specs.Prelude.{ℕ, List, Option, Result}
use Rattle.std.specs.Io.KnownBytes.{Appends}
use Rattle.table.specs.declared.fault.Fault.{Fault}
use Rattle.marking.specs.declared.report.Report.{Report}
use Rattle.marking.specs.Reports.{Marks}
use Rattle.explain.specs.declared.cause.Given.{Given}
use Rattle.explain.specs.Explained.{lines_text, explanation}

-- Three texts are explained: what is said of their report or of their fault follows what the output
-- held, where that is known.
pub record Explains (board tasks answer : Given) (before after : Option (List ℕ)) : Type 0 where
  pub marked : Result Report Fault
  pub marks : Marks board.text.now tasks.text.now answer.text.now marked
  pub writes : Appends before after (lines_text (explanation marked board tasks answer))
