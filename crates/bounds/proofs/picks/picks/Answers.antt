use Rattle.std.proofs.Common.{subst, arith}
use Rattle.bounds.specs.Climbs.{Picked}
use Rattle.bounds.proofs.Picked.{picking_none, picking_more, picked_full, picked_early}
use Rattle.bounds.proofs.picks.picks.Goals as goal

pub loop-round-init : goal.loop-round-init
loop-round-init c = picking_none c.args.numbers.now

pub loop-round-preserved : goal.loop-round-preserved
loop-round-preserved c = picking_more c.args.numbers.now c.loop-round.chosen c.loop-round._round c.loop-round.invariant c.in-Some.place c.in-Some.ensures

pub returns-in_default : goal.returns-in_default
returns-in_default c = picked_early c.args.numbers.now c.loop-round.chosen c.loop-round._round c.loop-round.invariant c.args.limit (omega arith) c.in_default.ensures

pub returns : goal.returns
returns c = subst (λ n. Picked c.args.numbers.now n c.loop-round.chosen) (omega arith) (picked_full c.args.numbers.now c.loop-round.chosen c.loop-round._round c.loop-round.invariant)
