use Rattle.std.proofs.Common.{◌≡◌, ◌≤◌, MatchOption, refl, subst}
use Rattle.study.specs.Moments.{moment}
use Rattle.study.specs.Steps.{taken_of, none}
use Rattle.study.proofs.study.Study.step_on.Goals as goal

pub returns-in-None : goal.returns-in-None
returns-in-None g c =
    let here = c.in_ok-last_pending.ensures.left in
    let s = c.args.self.now in
    let nothing = subst (λ o. MatchOption o (s.pending_count ≡ 0) (λ r. (1 ≤ s.pending_count) × (r ≡ taken_of (moment s c.args.ledger.now c.args.pending.now)))) c.in-None.is here.1 in
    (λ other. absurd (other here.0), λ left. (refl, record { deed = _; done = none nothing; leaves = c.end.ensures c.args.ledger.now c.args.pending.now }))
