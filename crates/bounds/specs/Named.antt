-- Tests by name.
use Rattle.std.specs.Prelude.{◌≡◌, ℕ, ◌⊎◌, List, Ok, Err, codes, Result}
use Rattle.table.specs.declared.fault.Fault.{Fault}
use Rattle.table.specs.declared.fault.Fault.TheVariants.{BadTest}
use Rattle.table.specs.Asking.{Asks}
use Rattle.table.specs.Faults.{nowhere}
use Rattle.bounds.specs.declared.processors.Processors.{Processors}
use Rattle.bounds.specs.declared.named.NamedTest.{NamedTest}
use Rattle.bounds.specs.declared.named.NamedTest.TheVariants.{ByDeadline, ByResponse, ByLimited}
use Rattle.bounds.specs.Questions.{Meaning}
use Rattle.bounds.specs.Loads.{da}
use Rattle.bounds.specs.Responses.{rta, lc}

-- the answer of a test by name is that of the test
abbrev pub named_answer : NamedTest → Meaning
named_answer (ByDeadline t) = da t.processors.count
named_answer (ByResponse t) = rta t.processors.count
named_answer (ByLimited t) = lc t.processors.count

-- the test is the one of this name, on m processors
abbrev pub IsNamed : List ℕ → ℕ → NamedTest → Type 0
IsNamed name m (ByDeadline t) = (name ≡ codes "da") × (t.processors.count ≡ m)
IsNamed name m (ByResponse t) = (name ≡ codes "rta") × (t.processors.count ≡ m)
IsNamed name m (ByLimited t) = (name ≡ codes "lc") × (t.processors.count ≡ m)

-- a test has this name
abbrev pub IsTestName : List ℕ → Type 0
IsTestName name = (name ≡ codes "da") ⊎ ((name ≡ codes "rta") ⊎ (name ≡ codes "lc"))

-- making the test of a name on so many processors: just that, or a refusal
abbrev pub MadeNamed : List ℕ → Processors → Result NamedTest Fault → Type 0
MadeNamed name p r =
    Asks (IsTestName name) (r ≡ Err (BadTest nowhere)) ((t : NamedTest) × (r ≡ Ok t) × IsNamed name p.count t)
