-- Searches of the same rows, with the same room, end alike.
use Rattle.std.proofs.Common.{◌≡◌, ℕ, ◌<◌, Ok, refl, sym, ap, subst, ◌∙◌, inl, inr, arith}
use Rattle.std.proofs.lemmas.Bool.{cases_lt}
use Rattle.bounds.specs.Questions.{Meaning, Laws}
use Rattle.study.specs.declared.room.Room.{Room}
use Rattle.study.specs.Counts.{verdicts}
use Rattle.study.specs.Moments.{Moment, rows_of}
use Rattle.study.specs.Begins.{HasRoom, WholePending, Begins}
use Rattle.study.specs.Steps.{Runs, OneDeed, Steps}
use Rattle.study.specs.Searches.{Leads, at_begin, one_on, ToVerdict}
use Rattle.study.proofs.Lawful.{room_of, KeepsAt, begin_accepted, step_accepted, ready}
use Rattle.study.proofs.Led.{leads_kept}
use Rattle.study.proofs.AlikeMoments.{Alike, same_verdicts, same_running, step_alike, one_room, begun_alike}

module _ (meaning : Meaning) (laws : Laws meaning) (room : Room) where
  -- a longer way comes by a moment with no verdict after each smaller count of steps
  earlier : (before : Moment) (n : ℕ) {k : ℕ} {b : Moment} → Leads meaning room before k b → n < k → (m : Moment) × Leads meaning room before n m × (verdicts m.study.state ≡ 0)
  earlier before n (at_begin begun) less = absurd (omega arith)
  earlier before n (one_on {n = k} {now = m} leads going one) less = elim (cases_lt n k) [
    | inl before' ↦ earlier before n leads before'
    | inr not_before ↦ let same : k ≡ n = omega arith in (m, subst (λ j. Leads meaning room before j m) same leads, going)
  ]

  -- an accepted begin with this room
  begun_with : (before after : Moment) → HasRoom room before → Begins before (Ok tt) after → WholePending room before after
  begun_with before after has begun =
      let on = begin_accepted before after room has begun in
      subst (λ r. WholePending r before after) (one_room before on.0 room on.1 has) on.2

  module _ (before before' : Moment) (has : HasRoom room before) (has' : HasRoom room before') (is : rows_of before ≡ rows_of before') where
    keeps_at : {n : ℕ} {m : Moment} → Leads meaning room before n m → KeepsAt meaning m
    keeps_at leads = (leads_kept meaning laws room before has leads).1

    keeps_at' : {n : ℕ} {m : Moment} → Leads meaning room before' n m → KeepsAt meaning m
    keeps_at' leads = (leads_kept meaning laws room before' has' leads).1

    next_alike : (m m' after after' : Moment) → KeepsAt meaning m → KeepsAt meaning m' → Alike m m' → Steps meaning m (Ok tt) after → Steps meaning m' (Ok tt) after' → Alike after after'
    next_alike m m' after after' at at' was one one' =
        let on = step_accepted meaning m after (ready meaning m at) one in
        let on' = step_accepted meaning m' after' (ready meaning m' at') one' in
        let runs' : Runs on.0 m' = same_running _ _ _ was.state on.0 on.1 in
        let same : on'.0 ≡ on.0 = ap (room_of on.0) (sym on'.1 ∙ runs') in
        step_alike meaning on.0 m m' at at' on.1 runs' was after after' on.2 (subst (λ r. OneDeed meaning r m' after') same on'.2)

    -- as many steps lead to alike moments
    leads_alike : {n k : ℕ} {a b : Moment} → Leads meaning room before n a → Leads meaning room before' k b → n ≡ k → Alike a b
    leads_alike (at_begin {after = a} begun) (at_begin {after = b} begun') same = begun_alike room before before' a b has has' is (begun_with before a has begun) (begun_with before' b has' begun')
    leads_alike (at_begin begun) (one_on leads going one) same = absurd (omega (arith, same))
    leads_alike (one_on leads going one) (at_begin begun) same = absurd (omega (arith, same))
    leads_alike (one_on {now = m} {after} leads going one) (one_on {now = m'} {after = after'} leads' going' one') same =
        next_alike m m' after after' (keeps_at leads) (keeps_at' leads') (leads_alike leads leads' (omega (arith, same))) one one'

    alike_verdicts : (a b : Moment) → Alike a b → verdicts a.study.state ≡ verdicts b.study.state
    alike_verdicts a b was = same_verdicts _ _ _ was.state

    -- and both end after as many steps, since nothing goes on after a verdict
    pub searched_alike : (a b : Moment) → ToVerdict meaning room before a → ToVerdict meaning room before' b → Alike a b
    searched_alike a b one two = elim (cases_lt one.count two.count) [
      | inl less ↦
          let at = earlier before' one.count two.leads less in
          absurd (omega (arith, one.ends, at.2, alike_verdicts a at.0 (leads_alike one.leads at.1 refl)))
      | inr not_less ↦ elim (cases_lt two.count one.count) [
        | inl less ↦
            let at = earlier before two.count one.leads less in
            absurd (omega (arith, two.ends, at.2, alike_verdicts at.0 b (leads_alike at.1 two.leads refl)))
        | inr not_more ↦ leads_alike one.leads two.leads (omega arith)
      ]
    ]
