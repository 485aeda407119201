use Rattle.bounds.proofs.Picked.{Picking}
use Rattle.bounds.proofs.picks.picks.Given as goal

abbrev pub invariant-loop-round : goal.invariant-loop-round
invariant-loop-round l = Picking l.numbers l.chosen l._round
