-- How a call asks its questions, and what a refusal is.
use Rattle.std.specs.Prelude.{◌≡◌, Ok, Err, Result}
use Rattle.table.specs.declared.fault.Fault.{Fault}

-- A call asks a question: where it fails the call is refused, and where it holds the call goes on.
-- A call that asks several nests them, so that the first question that fails gives the refusal.
abbrev pub Asks : Type 0 → Type 0 → Type 0 → Type 0
Asks question refused on = (¬ question → refused) × (question → on)

-- the reply of a call that gives nothing else: it is accepted, or refused with a fault
abbrev pub Reply : Type 0
Reply = Result (Unit {0}) Fault

-- the reply of a call that is accepted
abbrev pub accepted : Reply
accepted = Ok tt

-- the reply of a call that is refused with this fault
abbrev pub refused : Fault → Reply
refused fault = Err fault

-- a call is refused with this fault, and what it was lent is as it was
abbrev pub Refuses : {S A : Type 0} → Fault → S → Result A Fault → S → Type 0
Refuses fault before reply after = (reply ≡ Err fault) × (after ≡ before)
