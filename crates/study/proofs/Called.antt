-- The promise after any call.
use Rattle.std.proofs.Common.{◌≡◌, ℕ, ◌/◌, List, length, Ok, Err, Result, subst, arith}
use Rattle.table.specs.declared.fault.Fault.{Fault}
use Rattle.bounds.specs.Questions.{Meaning, Laws}
use Rattle.study.specs.declared.study.Study.{Study}
use Rattle.study.specs.declared.edit.Edit.{Edit}
use Rattle.study.specs.declared.call.Call.{Call}
use Rattle.study.specs.declared.call.Call.TheVariants as call
use Rattle.study.specs.Moments.{Moment, moment}
use Rattle.study.specs.Begins.{Begins}
use Rattle.study.specs.Calls.{EditsBy}
use Rattle.study.specs.Histories.{Tally, counted_from, no_more, Promise, StaysPromised, BeginPromise, History, any_edit, accepted_begin, refused_begin}
use Rattle.study.specs.Machine.{Calls, CallPromise}
use Rattle.study.proofs.Lawful.{law, step_promise}
use Rattle.study.proofs.Going.{begin_had}

module _ (meaning : Meaning) (laws : Laws meaning) where
  pub begin_promise : (lent after : Moment) (l p : List ℕ) (c : Tally) (r : Result (Unit {0}) Fault) → Begins lent r after → History meaning (moment lent.study l p) c → BeginPromise meaning lent r after l p c
  begin_promise lent after l p c (Ok x) begins h =
      let had = begin_had lent after begins in
      let slots : had.1.0.ledger ≡ length lent.ledger / 64 = omega (arith, had.1.1.0.2) in
      (subst (λ n. Promise meaning after (counted_from n)) slots (law meaning laws after (counted_from had.1.0.ledger) (accepted_begin h lent.ledger lent.pending after had.1.0 had.1.1 begins)), tt)
  begin_promise lent after l p c (Err e) begins h =
      (tt, law meaning laws (moment after.study l p) (no_more c) (refused_begin h lent.ledger lent.pending after e begins))

  pub edit_promise : (e : Edit) (before after : Study) (r : Result (Unit {0}) Fault) → EditsBy e before r after → (l p : List ℕ) (c : Tally) → History meaning (moment before l p) c → StaysPromised meaning after l p c
  edit_promise e before after r edits l p c h = law meaning laws (moment after l p) (no_more c) (any_edit h e r after edits)

  pub call_promise : (asked : Call) (lent after : Moment) (l p : List ℕ) (c : Tally) (r : Result (Unit {0}) Fault) → Calls meaning asked lent r after → History meaning (moment lent.study l p) c → CallPromise meaning asked lent r after l p c
  call_promise (call.Edit e) lent after l p c r edits h = edit_promise e lent.study after.study r edits.0 l p c h
  call_promise call.Begin lent after l p c r begins h = begin_promise lent after l p c r begins h
  call_promise call.Step lent after l p c r steps h = step_promise meaning laws lent after l p c r steps h
