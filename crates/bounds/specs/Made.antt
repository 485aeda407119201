-- Making a number of processors.
use Rattle.std.specs.Prelude.{◌≡◌, ℕ, ◌≤◌, Ok, Err, Result}
use Rattle.table.specs.declared.fault.Fault.{Fault}
use Rattle.table.specs.declared.fault.Fault.TheVariants.{BadTest}
use Rattle.table.specs.Asking.{Asks}
use Rattle.table.specs.Faults.{nowhere}
use Rattle.bounds.specs.declared.processors.Processors.{Processors}

-- a number of processors is allowed: m from 1 to 16
abbrev pub Allowed : ℕ → Type 0
Allowed m = (1 ≤ m) × (m ≤ 16)

-- making m processors: just that many, or a refusal
abbrev pub MadeProcessors : ℕ → Result Processors Fault → Type 0
MadeProcessors m r =
    Asks (Allowed m) (r ≡ Err (BadTest nowhere)) ((p : Processors) × (r ≡ Ok p) × (p.count ≡ m))
