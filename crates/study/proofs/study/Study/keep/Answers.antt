use Rattle.std.proofs.Common.{arith}
use Rattle.study.specs.Moments.{moment}
use Rattle.study.proofs.Stepping.{counted_fits}
use Rattle.study.proofs.study.Study.keep.Goals as goal

pub returns-then-self-room : goal.returns-then-self-room
returns-then-self-room c p = (λ lacks. c.end.ensures c.args.ledger.now p, λ fits. absurd (omega (arith, fits.0, c.if-self-room.true)))

pub returns : goal.returns
returns c p =
    let counted = counted_fits c.args.room (moment c.args.self.now c.args.ledger.now p) c.requires.runs in
    (λ lacks. absurd (lacks (omega (arith, counted.0, c.if-self-room.false), omega (arith, counted.1))), λ fits. c.record.ensures p p)
