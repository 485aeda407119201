use Rattle.std.proofs.Common.{ap}
use Rattle.study.specs.declared.deed.Deed.TheVariants.{Keep, Split}
use Rattle.study.specs.Counts.{verdicts}
use Rattle.study.specs.Moments.{moment}
use Rattle.study.proofs.Stepping.{stepped_end, stepped_by}
use Rattle.study.proofs.study.Study.advance.Goals as goal

pub end-requires-clause-verdict : goal.end-requires-clause-verdict
end-requires-clause-verdict g c = ap verdicts c.in-End.ensures.2.1

pub returns-in-End : goal.returns-in-End
returns-in-End g c =
    stepped_end (g.T.Test.answer c.args.test.now) c.args.room (moment c.args.self.now c.args.ledger.now c.args.pending.now) (moment c.end.new.self c.args.ledger.now c.args.pending.now)
    c.requires.some c.args.taken.now c.requires.taken c.requires.runs c.in-End.verdict c.in-End.ensures (c.end.ensures c.args.ledger.now c.args.pending.now)

pub returns-in-Keep : goal.returns-in-Keep
returns-in-Keep g c =
    stepped_by (g.T.Test.answer c.args.test.now) c.args.room (moment c.args.self.now c.args.ledger.now c.args.pending.now) (moment c.keep.new.self c.keep.new.ledger c.args.pending.now)
    c.requires.some c.args.taken.now c.requires.taken (Keep c.in-Keep.grown) c.in-Keep.ensures (c.keep.ensures c.args.pending.now)

pub returns-in-Split : goal.returns-in-Split
returns-in-Split g c =
    stepped_by (g.T.Test.answer c.args.test.now) c.args.room (moment c.args.self.now c.args.ledger.now c.args.pending.now) (moment c.split.new.self c.split.new.ledger c.split.new.pending)
    c.requires.some c.args.taken.now c.requires.taken (Split c.in-Split.grown) c.in-Split.ensures c.split.ensures
