use Rattle.std.proofs.Common.{◌≡◌, length}
use Rattle.sheets.specs.Pairs.{EachLine}
use Rattle.marking.specs.Questions.{HasEstimate}
use Rattle.marking.specs.Reports.{EstimatesOf}
use Rattle.marking.proofs.estimates.estimates_of.Given as goal

abbrev pub invariant-loop-i : goal.invariant-loop-i
invariant-loop-i l = record {
  each : EachLine (HasEstimate l.tasks l.answer) l.i;
  held : EstimatesOf l.answer l.order l.estimates l.i;
  size : length l.estimates ≡ 32;
}
