use Rattle.std.proofs.Common.{◌≤◌, take}
use Rattle.bounds.specs.Climbs.{Tallied}
use Rattle.bounds.proofs.tally.Tally.of.Given as goal

abbrev pub invariant-loop-load : goal.invariant-loop-load
invariant-loop-load l = Tallied (take l.rows l.loads) l.load-index l.cap l.tally × (l.tally.least ≤ 2000000)
