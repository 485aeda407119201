use Rattle.table.specs.Rows.{view}
use Rattle.sheets.specs.Pairs.{EachLine}
use Rattle.marking.specs.Questions.{HasRow}
use Rattle.marking.specs.Reports.{RowsOf, HasHistory}
use Rattle.marking.proofs.rows.study_of.Given as goal

abbrev pub invariant-loop-i : goal.invariant-loop-i
invariant-loop-i l = record {
  each : EachLine (HasRow l.tasks) l.i;
  rows : RowsOf l.tasks l.i (view l.study.table);
  history : HasHistory l.study;
}
