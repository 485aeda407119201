use Rattle.study.specs.Moments.{moment}
use Rattle.study.proofs.Lawful.{law, step_promise}
use Rattle.study.proofs.study.Study.step.Goals as goal

pub returns-clause-law : goal.returns-clause-law
returns-clause-law g c = law (g.T.Test.answer c.args.test.now) (g.met.T.Test.kept c.args.test.now)

pub returns-clause-promise : goal.returns-clause-promise
returns-clause-promise g c l p tally history =
    step_promise (g.T.Test.answer c.args.test.now) (g.met.T.Test.kept c.args.test.now) (moment c.args.self.now c.args.ledger.now c.args.pending.now) (moment c.call.new.self c.call.new.ledger c.call.new.pending) l p tally c.call.result c.call.ensures.does history
