-- An overhead: a test over another that adds a number to its answer.
use Rattle.std.specs.Prelude.{◌≡◌, ℕ, ◌+◌, ◌≤◌, Some, None, Ok, Err, Option, Result}
use Rattle.table.specs.declared.row.Row.{Row}
use Rattle.table.specs.declared.fault.Fault.{Fault}
use Rattle.table.specs.declared.fault.Fault.TheVariants.{BadTest}
use Rattle.table.specs.Asking.{Asks}
use Rattle.table.specs.Faults.{nowhere}
use Rattle.table.specs.Rows.{row}
use Rattle.bounds.specs.declared.overhead.Overhead.{Overhead}
use Rattle.bounds.specs.Questions.{Meaning, own, timely}

-- the answer below plus V, late past D; late stays late
abbrev pub over : ℕ → Row → Option ℕ → Option ℕ
over added row None = None
over added row (Some bound) = timely row.deadline (bound + added)

-- what an overhead over a test answers
abbrev pub over_answer : {T : Type 0} → (T → Meaning) → Overhead T → Meaning
over_answer answer o q = over o.added (own q) (answer o.below q)

-- making an overhead of V over a test: V is at most 1,000,000, or a refusal
abbrev pub MadeOverhead : {T : Type 0} → ℕ → T → Result (Overhead T) Fault → Type 0
MadeOverhead {T} added below r = Asks (added ≤ 1000000) (r ≡ Err (BadTest nowhere)) ((o : Overhead T) × (r ≡ Ok o) × (o.added ≡ added) × (o.below ≡ below))
