-- What a search does: an accepted begin, and accepted steps until there is a verdict.
use Rattle.std.specs.Prelude.{◌≡◌, ℕ, ◌+◌, ◌/◌, ◌≤◌, true, List, length, IfOk, IfErr}
use Rattle.table.specs.declared.fault.Fault.TheVariants.{Empty, BadSlots}
use Rattle.table.specs.Asking.{Asks, Refuses, Reply, accepted}
use Rattle.bounds.specs.Questions.{Meaning}
use Rattle.study.specs.declared.room.Room.{Room}
use Rattle.study.specs.Counts.{verdicts}
use Rattle.study.specs.Moments.{Moment, rows_of}
use Rattle.study.specs.Begins.{HasRoom, Begins}
use Rattle.study.specs.Steps.{Steps}
use Rattle.study.specs.Histories.{Tally, Promise, StaysPromised}

module _ (meaning : Meaning) where
  -- an accepted begin on lists with this room, and then n accepted steps, each while there is no
  -- verdict, lead from one moment to another
  pub data Leads (room : Room) (before : Moment) : ℕ → Moment → Type 0 where
    at_begin : {after : Moment} → Begins before accepted after → Leads room before 0 after
    one_on : {n : ℕ} {now after : Moment} → Leads room before n now → verdicts now.study.state ≡ 0
        → Steps meaning now accepted after → Leads room before (n + 1) after

  -- they end with the first verdict, after at most one step more than the ledger has slots
  pub record ToVerdict (room : Room) (before after : Moment) : Type 0 where
    pub count : ℕ
    pub leads : Leads room before count after
    pub bounded : count ≤ room.ledger + 1
    pub ends : verdicts after.study.state ≡ 1

  -- search: refused as begin is, or led to the first verdict
  abbrev pub Searches : Moment → Reply → Moment → Type 0
  Searches before reply after =
      Asks (1 ≤ length (rows_of before)) (Refuses Empty before reply after)
      (Asks ((room : Room) × HasRoom room before) (Refuses BadSlots before reply after)
      ((room : Room) × HasRoom room before × (reply ≡ accepted) × ToVerdict room before after))

  -- The promise after a search, with these lists at hand. It may be lent two others, as its begin
  -- may.
  abbrev pub SearchPromise : Moment → Reply → Moment → List ℕ → List ℕ → Tally → Type 0
  SearchPromise lent reply after kept waiting tally =
      IfOk reply (λ _. Promise meaning after (record {
        ledger_slots = length lent.ledger / 64;
        accepted_steps = after.study.steps;
        last_was_step = true;
      }))
      × IfErr reply (λ _. StaysPromised meaning after.study kept waiting tally)
