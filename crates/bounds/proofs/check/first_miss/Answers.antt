use Rattle.std.proofs.Common.{get_or, ap, ◌∙◌, arith, rules}
use Rattle.std.proofs.lemmas.Bool.{both_ways}
use Rattle.table.specs.Rows.{view}
use Rattle.bounds.specs.Questions.{question}
use Rattle.bounds.proofs.Meets.{meets_from}
use Rattle.bounds.proofs.Misses.{met_none, met_more, miss_found}
use Rattle.bounds.proofs.check.first_miss.Goals as goal

pub loop-task-init : goal.loop-task-init
loop-task-init g c = met_none (g.T.Test.answer c.args.test.now) (view c.args.ordered.now.table.now) c.args.ordered.now.order.now c.args.estimates.now

pub loop-task-preserved : goal.loop-task-preserved
loop-task-preserved g c =
    let asked = c.ask-bound.ensures ∙ ap (λ e. g.T.Test.answer c.args.test.now (question (view c.args.ordered.now.table.now) (get_or c.args.ordered.now.order.now c.loop-task.task-index 0) c.loop-task.above e)) c.padded-all.ensures in
    met_more (g.T.Test.answer c.args.test.now) (view c.args.ordered.now.table.now) c.args.ordered.now.order.now c.args.estimates.now c.loop-task.above c.loop-task.task-index c.loop-task.invariant c.args.ordered.now.each_once (omega (arith, c.args.ordered.now.each_once.size)) c.ask-bound.result asked ((meets_from _ _ _ _ (λ x called. search rules) c.is_some_and.ensures).0 c.if-not-is_some_and.false)

pub returns-then-not-is_some_and : goal.returns-then-not-is_some_and
returns-then-not-is_some_and g c =
    let asked = c.ask-bound.ensures ∙ ap (λ e. g.T.Test.answer c.args.test.now (question (view c.args.ordered.now.table.now) (get_or c.args.ordered.now.order.now c.loop-task.task-index 0) c.loop-task.above e)) c.padded-all.ensures in
    miss_found (g.T.Test.answer c.args.test.now) (view c.args.ordered.now.table.now) c.args.ordered.now.order.now c.args.estimates.now c.loop-task.above c.loop-task.task-index c.loop-task.invariant c.args.ordered.now.each_once (omega (arith, c.args.ordered.now.each_once.size)) c.ask-bound.result asked (λ h. both_ways _ c.if-not-is_some_and.true ((meets_from _ _ _ _ (λ x called. search rules) c.is_some_and.ensures).1 h))
