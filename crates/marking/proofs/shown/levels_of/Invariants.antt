use Rattle.std.proofs.Common.{◌≡◌, length}
use Rattle.marking.specs.Reports.{names_of, estimates_of, LevelsOf, BlankPast}
use Rattle.marking.proofs.shown.levels_of.Given as goal

abbrev pub invariant-loop-i : goal.invariant-loop-i
invariant-loop-i l = record {
  levels : LevelsOf l.tasks l.finding l.i (names_of l.levels) (estimates_of l.levels);
  rest : BlankPast l.i (names_of l.levels) (estimates_of l.levels);
  many : length l.levels ≡ 32;
}
