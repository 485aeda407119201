use Rattle.std.proofs.Common.{sym, ◌∙◌, arith}
use Rattle.std.proofs.lemmas.Bool.{false≢true}
use Rattle.study.specs.Moments.{moment}
use Rattle.study.proofs.Lawful.{law, means}
use Rattle.study.proofs.Going.{going_runs, step_counts, going_begun, going_stepped, not_refused, begin_had, searches_ended, promise_ended, promise_refused}
use Rattle.study.proofs.study.Study.search.Goals as goal

pub returns-in_err-begin-clause-law : goal.returns-in_err-begin-clause-law
returns-in_err-begin-clause-law g c = law (g.T.Test.answer c.args.test.now) (g.met.T.Test.kept c.args.test.now)

pub returns-in_err-begin-clause-promise : goal.returns-in_err-begin-clause-promise
returns-in_err-begin-clause-promise g c l p tally history =
    let before = moment c.args.self.now c.args.ledger.now c.args.pending.now in
    let after = moment c.begin.new.self c.begin.new.ledger c.begin.new.pending in
    promise_refused (g.T.Test.answer c.args.test.now) (g.met.T.Test.kept c.args.test.now) before after _ c.in_err-begin.ensures.does l p tally history _ c.from_residual.ensures.0

pub loop-self-init : goal.loop-self-init
loop-self-init g c =
    let before = moment c.args.self.now c.args.ledger.now c.args.pending.now in
    let after = moment c.begin.new.self c.begin.new.ledger c.begin.new.pending in
    let begun = c.in_ok-begin.ensures.does in
    let had = begin_had before after begun in
    (had.0, going_begun (g.T.Test.answer c.args.test.now) had.1.0 before after had.1.1 begun)

pub loop-self-smaller : goal.loop-self-smaller
loop-self-smaller g c =
    let on = c.loop-self.invariant in
    let runs = going_runs (g.T.Test.answer c.args.test.now) on.1.0 _ _ on.1.2 (c.is_running.ensures.0 c.loop-self-test.true) in
    let counts = step_counts (g.T.Test.answer c.args.test.now) (g.met.T.Test.kept c.args.test.now) on.1.0 _ _ _ on.1.2 runs c.in_ok-step.ensures.does in
    omega (arith, counts.0, counts.1)

pub loop-self-preserved : goal.loop-self-preserved
loop-self-preserved g c =
    let on = c.loop-self.invariant in
    let runs = going_runs (g.T.Test.answer c.args.test.now) on.1.0 _ _ on.1.2 (c.is_running.ensures.0 c.loop-self-test.true) in
    (on.0, (on.1.0, on.1.1, going_stepped (g.T.Test.answer c.args.test.now) (g.met.T.Test.kept c.args.test.now) on.1.0 _ _ _ on.1.2 runs c.in_ok-step.ensures.does))

pub returns-in_err-step : goal.returns-in_err-step
returns-in_err-step g c =
    let on = c.loop-self.invariant in
    let runs = going_runs (g.T.Test.answer c.args.test.now) on.1.0 _ _ on.1.2 (c.is_running.ensures.0 c.loop-self-test.true) in
    absurd (not_refused (g.T.Test.answer c.args.test.now) (g.met.T.Test.kept c.args.test.now) on.1.0 _ _ _ on.1.2 runs _ c.in_err-step.ensures.does)

pub returns : goal.returns
returns g c =
    let before = moment c.args.self.now c.args.ledger.now c.args.pending.now in
    let after = moment c.loop-self.self c.loop-self.ledger c.loop-self.pending in
    let on = c.loop-self.invariant in
    record {
      leads = searches_ended (g.T.Test.answer c.args.test.now) on.1.0 before after on.1.2 (λ q. false≢true (sym c.loop-self-test.false ∙ c.is_running.ensures.1 q)) on.0 on.1.1;
      means = means (g.T.Test.answer c.args.test.now) after on.1.2.at;
      law = law (g.T.Test.answer c.args.test.now) (g.met.T.Test.kept c.args.test.now);
      promise = λ l p tally history. promise_ended (g.T.Test.answer c.args.test.now) on.1.0 before after on.1.2 (λ q. false≢true (sym c.loop-self-test.false ∙ c.is_running.ensures.1 q)) (g.met.T.Test.kept c.args.test.now) on.1.1 l p tally history;
    }
