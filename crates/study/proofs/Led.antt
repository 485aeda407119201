-- What a search keeps to its end.
use Rattle.std.proofs.Common.{◌≡◌, ℕ, ◌∙◌}
use Rattle.bounds.specs.Questions.{Meaning, Laws}
use Rattle.study.specs.declared.room.Room.{Room}
use Rattle.study.specs.Moments.{Moment}
use Rattle.study.specs.Begins.{HasRoom}
use Rattle.study.specs.Searches.{Leads, at_begin, one_on}
use Rattle.study.proofs.Lawful.{KeepsAt, begun_keeps, stepped_keeps, begin_accepted, step_accepted, ready}

module _ (meaning : Meaning) (laws : Laws meaning) where
  -- its table stays, and every moment of it keeps what a running search keeps
  pub leads_kept : (room : Room) (before : Moment) → HasRoom room before → {n : ℕ} {after : Moment} → Leads meaning room before n after → (after.study.table ≡ before.study.table) × KeepsAt meaning after
  leads_kept room before has (at_begin {after} begun) =
      let on = begin_accepted before after room has begun in
      (on.2.table, begun_keeps meaning on.0 before after on.1 on.2)
  leads_kept room before has (one_on {n} {now = m} {after} leads going one) =
      let was = leads_kept room before has leads in
      let on = step_accepted meaning m after (ready meaning m was.1) one in
      (on.2.leaves.table ∙ was.0, stepped_keeps meaning laws on.0 m was.1 on.1 after on.2)
