use Rattle.std.proofs.Common.{◌≡◌, ◌<◌, ℕ, length}
use Rattle.table.specs.Places.{nth}
use Rattle.sheets.specs.declared.form.TheConstants.{MOST_LINES}
use Rattle.sheets.specs.Pairs.{Answers, EachLine, HasTaskAt, task_of}
use Rattle.sheets.proofs.pairing.rows_named.Given as goal

abbrev pub invariant-loop-i : goal.invariant-loop-i
invariant-loop-i l = record {
  each : EachLine (Answers l.tasks l.answer) l.i;
  size : length l.rows ≡ MOST_LINES;
  named : EachLine (λ k. HasTaskAt l.tasks (task_of l.answer k) (nth l.rows k 0)) l.i;
  rest : (k : ℕ) → l.i < k → nth l.rows k 0 ≡ 0;
}
