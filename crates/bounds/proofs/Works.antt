-- The work of a task in a window is no more than the window.
use Rattle.std.proofs.Common.{ℕ, ◌*◌, ◌/◌, ◌≤◌, mul-le-mul_left, div-mul-le_self, arith}
use Rattle.std.proofs.lemmas.Nat.{div-add-mod'}
use Rattle.table.specs.declared.row.Row.{Row}
use Rattle.bounds.specs.Loads.{work}

-- whole periods of work fit in a window
pub whole_le : (q t c : ℕ) → c ≤ t → q / t * c ≤ q
whole_le q t c h = omega (arith, mul-le-mul_left {m = c} {n = t} (q / t) h, div-mul-le_self q t)

-- no task runs for longer than the window
pub work_le : (j : Row) (q : ℕ) → work j q ≤ q
work_le j q = omega (arith, mul-le-mul_left {m = j.wcet} {n = j.period} (q / j.period) (omega (arith, j.ok)), div-add-mod' q j.period)
