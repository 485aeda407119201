-- Histories of calls, and the law that holds after each call.
use Rattle.std.specs.Prelude.{◌≡◌, ℕ, ◌+◌, ◌/◌, ◌≤◌, Bool, true, false, List, length, take, IfOk, IfErr}
use Rattle.table.specs.declared.row.Row.{Row}
use Rattle.table.specs.declared.fault.Fault.{Fault}
use Rattle.table.specs.Asking.{Reply, accepted, refused}
use Rattle.bounds.specs.Orders.{Order, Estimates, Holds, HasLate}
use Rattle.bounds.specs.Questions.{Meaning, Laws}
use Rattle.orders.specs.Ranges.{as_range, LiesIn, Passes}
use Rattle.orders.specs.Growth.{Barred}
use Rattle.study.specs.declared.study.Study.{Study}
use Rattle.study.specs.declared.edit.Edit.{Edit}
use Rattle.study.specs.declared.room.Room.{Room}
use Rattle.study.specs.declared.finding.Finding.{Finding}
use Rattle.study.specs.declared.state.State.TheVariants as state
use Rattle.study.specs.Counts.{verdicts}
use Rattle.study.specs.Slots.{slot}
use Rattle.study.specs.Calls.{IsNew, EditsBy}
use Rattle.study.specs.Moments.{Moment, moment, rows_of}
use Rattle.study.specs.Begins.{HasRoom, Begins}
use Rattle.study.specs.Steps.{Runs, AsLeft, Steps}

-- What a history counts: the ledger slots of the last accepted begin, the accepted steps since, and
-- whether the last call was an accepted step.
pub record Tally : Type 0 where
  pub ledger_slots : ℕ
  pub accepted_steps : ℕ
  pub last_was_step : Bool

-- before any call
abbrev pub nothing_counted : Tally
nothing_counted = record { ledger_slots = 0; accepted_steps = 0; last_was_step = false }

-- after an accepted begin on a ledger of this many slots
abbrev pub counted_from : ℕ → Tally
counted_from slots = record { ledger_slots = slots; accepted_steps = 0; last_was_step = false }

-- after an accepted step
abbrev pub one_more : Tally → Tally
one_more tally = record {
  ledger_slots = tally.ledger_slots;
  accepted_steps = tally.accepted_steps + 1;
  last_was_step = true;
}

-- after any other call
abbrev pub no_more : Tally → Tally
no_more tally = record {
  ledger_slots = tally.ledger_slots;
  accepted_steps = tally.accepted_steps;
  last_was_step = false;
}

module _ (meaning : Meaning) where
  -- A history of calls under one test: it begins with a new study and two lists of any length and
  -- contents, and nothing but its calls writes to them.
  pub data History : Moment → Tally → Type 0 where
    new_study : (study : Study) (ledger pending : List ℕ)
        → IsNew study → History (moment study ledger pending) nothing_counted
    -- an edit, accepted or refused
    any_edit : {now : Moment} {tally : Tally} → History now tally
        → (edit : Edit) (reply : Reply) (study : Study) → EditsBy edit now.study reply study
        → History (moment study now.ledger now.pending) (no_more tally)
    -- an accepted begin, on the lists at hand or on two others, which take their place
    accepted_begin : {now : Moment} {tally : Tally} → History now tally
        → (ledger pending : List ℕ) (after : Moment) (room : Room)
        → HasRoom room (moment now.study ledger pending)
        → Begins (moment now.study ledger pending) accepted after
        → History after (counted_from room.ledger)
    -- a refused begin, on any lists: those at hand stay
    refused_begin : {now : Moment} {tally : Tally} → History now tally
        → (ledger pending : List ℕ) (after : Moment) (fault : Fault)
        → Begins (moment now.study ledger pending) (refused fault) after
        → History (moment after.study now.ledger now.pending) (no_more tally)
    -- an accepted step, on the lists at hand
    accepted_step : {now : Moment} {tally : Tally} → History now tally
        → (after : Moment) → Steps meaning now accepted after → History after (one_more tally)
    -- a refused step, on any lists: those at hand stay
    refused_step : {now : Moment} {tally : Tally} → History now tally
        → (ledger pending : List ℕ) (after : Moment) (fault : Fault)
        → Steps meaning (moment now.study ledger pending) (refused fault) after
        → History (moment after.study now.ledger now.pending) (no_more tally)

  -- What is shown on found: the order lists every row once, and no task of it is late; each
  -- estimate lies from its row's C to its D, and the order passes them.
  abbrev pub Shown : List Row → Finding → Type 0
  Shown rows finding =
      let order = take (length rows) finding.order in
      let estimates = take (length rows) finding.estimates in
      Order rows order × Holds meaning rows order
      × Estimates rows estimates × Passes meaning rows (as_range estimates) order

  -- What a verdict and a ledger mean.
  pub record Means (now : Moment) : Type 0 where
    -- found: the order shown holds, and passes the estimates shown
    pub found : (finding : Finding) → now.study.state ≡ state.Found finding
        → Shown (rows_of now) finding
    -- none: every order has a late task
    pub none : now.study.state ≡ state.None
        → (order : List ℕ) → Order (rows_of now) order → HasLate meaning (rows_of now) order
    -- each counted ledger range is closed, and every wider one is open
    pub ledger : (k : ℕ) → 1 ≤ k → k ≤ now.study.ledger_count
        → Barred meaning (rows_of now) (slot now.ledger k)
    -- on none, every list of estimates lies in a counted ledger range
    pub covered : now.study.state ≡ state.None
        → (estimates : List ℕ) → Estimates (rows_of now) estimates
        → (k : ℕ) × (1 ≤ k) × (k ≤ now.study.ledger_count)
        × LiesIn (rows_of now) estimates (slot now.ledger k)

  -- What is promised of a moment.
  pub record Promise (now : Moment) (tally : Tally) : Type 0 where
    pub means : Means now
    -- the steps are as many as the ledger ranges, and one more if there is a verdict
    pub counted : now.study.steps ≡ now.study.ledger_count + verdicts now.study.state
    -- since an accepted begin on s ledger slots there were at most s + 1 accepted steps
    pub bounded : tally.accepted_steps ≤ tally.ledger_slots + 1
    -- and the one that makes them s + 1 leaves a verdict
    pub last : tally.last_was_step ≡ true → tally.accepted_steps ≡ tally.ledger_slots + 1
        → verdicts now.study.state ≡ 1
    -- while a search is running, a step on the lists at hand is not refused
    pub ready : (room : Room) → Runs room now → AsLeft room now

  -- The law: the promise holds after each call of every history. The clauses that state it are of a
  -- test, whose laws come from its contract.
  abbrev pub Law : Type 0
  Law = (now : Moment) (tally : Tally) → History now tally → Promise now tally

  -- what is promised for each history that has led to a study, whichever lists are at hand
  abbrev pub FromEach : Study → (List ℕ → List ℕ → Tally → Type 0) → Type 0
  FromEach study promised =
      (kept waiting : List ℕ) (tally : Tally) → History (moment study kept waiting) tally
      → promised kept waiting tally

  -- after an edit or a refused call: the lists at hand stay, and nothing is counted anew
  abbrev pub StaysPromised : Study → List ℕ → List ℕ → Tally → Type 0
  StaysPromised after kept waiting tally = Promise (moment after kept waiting) (no_more tally)

  -- The promise after a step, with these lists at hand. One that is accepted is lent just these, a
  -- refused one may be lent any.
  abbrev pub StepPromise : Moment → Reply → Moment → List ℕ → List ℕ → Tally → Type 0
  StepPromise lent reply after kept waiting tally =
      IfOk reply (λ _. kept ≡ lent.ledger → waiting ≡ lent.pending → Promise after (one_more tally))
      × IfErr reply (λ _. StaysPromised after.study kept waiting tally)

  -- The promise after a begin, with these lists at hand. It may be lent two others, which take
  -- their place if it is accepted.
  abbrev pub BeginPromise : Moment → Reply → Moment → List ℕ → List ℕ → Tally → Type 0
  BeginPromise lent reply after kept waiting tally =
      IfOk reply (λ _. Promise after (counted_from (length lent.ledger / 64)))
      × IfErr reply (λ _. StaysPromised after.study kept waiting tally)

-- The promise after an edit, for every test that keeps the laws: it touches no list.
abbrev pub EditPromise : Study → Study → Type 0
EditPromise before after =
    (meaning : Meaning) → Laws meaning → FromEach meaning before (StaysPromised meaning after)
