use Rattle.std.proofs.Common.{rules, refl, sym, subst, Err}
use Rattle.table.specs.declared.fault.Fault.TheVariants.{NotRunning}
use Rattle.study.specs.declared.call.Call.TheVariants as call
use Rattle.study.specs.Machine.{Calls, CallPromise}
use Rattle.study.specs.Moments.{moment}
use Rattle.study.specs.Steps.{Steps}
use Rattle.study.proofs.Called.{call_promise}
use Rattle.study.proofs.study.Study.call.Goals as goal

pub returns-in-Edit-Draft-clause-promise : goal.returns-in-Edit-Draft-clause-promise
returns-in-Edit-Draft-clause-promise g c l p tally history =
    let before = moment c.args.self.now c.args.ledger.now c.args.pending.now in
    let after = moment c.edit.new.self c.args.ledger.now c.args.pending.now in
    subst (λ x. CallPromise (g.T.Test.answer c.args.test.now) x before c.edit.result after l p tally) (sym c.in-Edit-Draft.is-0)
    (call_promise (g.T.Test.answer c.args.test.now) (g.met.T.Test.kept c.args.test.now) (call.Edit c.in-Edit-Draft.edit) before after l p tally c.edit.result (c.edit.ensures, refl, refl) history)

pub returns-in-Begin-Draft-clause-promise : goal.returns-in-Begin-Draft-clause-promise
returns-in-Begin-Draft-clause-promise g c l p tally history =
    let before = moment c.args.self.now c.args.ledger.now c.args.pending.now in
    let after = moment c.begin.new.self c.begin.new.ledger c.begin.new.pending in
    subst (λ x. CallPromise (g.T.Test.answer c.args.test.now) x before c.begin.result after l p tally) (sym c.in-Begin-Draft.is-0)
    (call_promise (g.T.Test.answer c.args.test.now) (g.met.T.Test.kept c.args.test.now) call.Begin before after l p tally c.begin.result c.begin.ensures.does history)

pub returns-in-Step-Running-clause-promise : goal.returns-in-Step-Running-clause-promise
returns-in-Step-Running-clause-promise g c l p tally history =
    let before = moment c.args.self.now c.args.ledger.now c.args.pending.now in
    let after = moment c.step_on.new.self c.step_on.new.ledger c.step_on.new.pending in
    let steps : Steps (g.T.Test.answer c.args.test.now) before c.step_on.result after =
    (λ other. absurd (other (c.in-Step-Running.room, c.in-Step-Running.is-1)), λ runs. (c.in-Step-Running.room, c.in-Step-Running.is-1, c.step_on.ensures)) in
    subst (λ x. CallPromise (g.T.Test.answer c.args.test.now) x before c.step_on.result after l p tally) (sym c.in-Step-Running.is-0)
    (call_promise (g.T.Test.answer c.args.test.now) (g.met.T.Test.kept c.args.test.now) call.Step before after l p tally c.step_on.result steps history)

pub returns-in-Step-Draft : goal.returns-in-Step-Draft
returns-in-Step-Draft g c =
    let before = moment c.args.self.now c.args.ledger.now c.args.pending.now in
    let does : Calls (g.T.Test.answer c.args.test.now) c.args.call before (Err NotRunning) before = search rules in
    record { does = does; promise = λ l p tally history. call_promise (g.T.Test.answer c.args.test.now) (g.met.T.Test.kept c.args.test.now) c.args.call before before l p tally (Err NotRunning) does history }
