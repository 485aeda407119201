use Rattle.std.proofs.Common.{◌≡◌, ℕ, ◌+◌, ◌-◌, ◌<◌, ◌≤◌, false}
use Rattle.table.specs.Rows.{view}
use Rattle.orders.specs.Assigner.{candidate}
use Rattle.orders.proofs.Fills.{Filling}
use Rattle.orders.proofs.assign.Assigner.fill_levels.Given as goal

-- no task before this one passes
abbrev pub invariant-loop-candidate : goal.invariant-loop-candidate
invariant-loop-candidate g l =
    (1 ≤ l.candidate) × (l.candidate ≤ l.rows + 1) × ((k : ℕ) → 1 ≤ k → k < l.candidate → candidate (g.T.Test.answer l.self.test.now) (view l.self.table.now) l.self.range.now l.left k ≡ false)

abbrev pub decreases-loop-candidate : goal.decreases-loop-candidate
decreases-loop-candidate g l = l.rows + 1 - l.candidate

abbrev pub invariant-levels : goal.invariant-levels
invariant-levels g l = (l.level ≤ l.rows) × (l.rows ≤ 32) × Filling (g.T.Test.answer l.self.test.now) (view l.self.table.now) l.self.range.now l.level l.left l.order

abbrev pub decreases-levels : goal.decreases-levels
decreases-levels g l = l.level
