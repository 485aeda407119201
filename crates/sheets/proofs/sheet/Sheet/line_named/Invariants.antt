use Rattle.std.proofs.Common.{◌≡◌, ◌≤◌, ℕ}
use Rattle.sheets.specs.Pairs.{task_of}
use Rattle.sheets.proofs.sheet.Sheet.line_named.Given as goal

abbrev pub invariant-loop-i : goal.invariant-loop-i
invariant-loop-i l = (k : ℕ) → 1 ≤ k → k ≤ l.i → task_of l.self k ≡ l.name → ⊥
