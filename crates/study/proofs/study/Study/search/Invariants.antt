use Rattle.std.proofs.Common.{◌-◌, ◌≤◌, length}
use Rattle.study.specs.declared.room.Room.{Room}
use Rattle.study.specs.Moments.{moment, rows_of}
use Rattle.study.specs.Begins.{HasRoom}
use Rattle.study.proofs.Going.{Going}
use Rattle.study.proofs.study.Study.search.Given as goal

-- the search goes on from an accepted begin
abbrev pub invariant-loop-self : goal.invariant-loop-self
invariant-loop-self g l =
    let before = moment l.fn.self l.fn.ledger l.fn.pending in
    (1 ≤ length (rows_of before)) × ((room : Room) × HasRoom room before × Going (g.T.Test.answer l.fn.test) room before (moment l.self l.ledger l.pending))

abbrev pub decreases-loop-self : goal.decreases-loop-self
decreases-loop-self g l = 4097 - l.self.steps
