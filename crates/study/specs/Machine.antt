-- What a study does with any call.
use Rattle.std.specs.Prelude.{◌≡◌, ℕ, List}
use Rattle.table.specs.Asking.{Reply}
use Rattle.bounds.specs.Questions.{Meaning}
use Rattle.study.specs.declared.call.Call.{Call}
use Rattle.study.specs.declared.call.Call.TheVariants as call
use Rattle.study.specs.Calls.{EditsBy}
use Rattle.study.specs.Moments.{Moment}
use Rattle.study.specs.Begins.{Begins}
use Rattle.study.specs.Steps.{Steps}
use Rattle.study.specs.Histories.{Tally, StaysPromised, BeginPromise, StepPromise}

module _ (meaning : Meaning) where
  -- for each call, what it does with a study and two lists; an edit touches no list
  abbrev pub Calls : Call → Moment → Reply → Moment → Type 0
  Calls (call.Edit edit) before reply after =
      EditsBy edit before.study reply after.study
      × (after.ledger ≡ before.ledger) × (after.pending ≡ before.pending)
  Calls call.Begin before reply after = Begins before reply after
  Calls call.Step before reply after = Steps meaning before reply after

  -- The promise after any call, with these lists at hand. The call may be lent others.
  abbrev pub CallPromise : Call → Moment → Reply → Moment → List ℕ → List ℕ → Tally → Type 0
  CallPromise (call.Edit edit) lent reply after kept waiting tally =
      StaysPromised meaning after.study kept waiting tally
  CallPromise call.Begin lent reply after kept waiting tally =
      BeginPromise meaning lent reply after kept waiting tally
  CallPromise call.Step lent reply after kept waiting tally =
      StepPromise meaning lent reply after kept waiting tally
