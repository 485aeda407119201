use Rattle.std.proofs.Common.{◌≤◌, refl, ap, arith}
use Rattle.table.specs.Rows.{Table}
use Rattle.table.specs.Rows.{view}
use Rattle.sheets.specs.Pairs.{count_of}
use Rattle.marking.proofs.Answered.{not_refused, first_of, miss_row, answer_checked}
use Rattle.marking.proofs.case.Case.outcome.Goals as goal

pub returns-in_err-miss : goal.returns-in_err-miss
returns-in_err-miss c =
    let few : count_of c.args.answer.now ≤ 32 = omega (arith, c.len.ensures.count, c.len.ensures.few) in
    absurd (not_refused _ c.args.tasks.now c.args.answer.now c.args.self.now c.requires.case.1 few c.requires.tasks.2 _ _ _ c.check.result (ap (λ (q : Table). view q) c.table.ensures) c.len.ensures.count c.len-2.ensures.count c.check.ensures _ c.in_err-miss.was)

pub outcome_of-requires-clause-miss : goal.outcome_of-requires-clause-miss
outcome_of-requires-clause-miss c =
    let few : count_of c.args.answer.now ≤ 32 = omega (arith, c.len.ensures.count, c.len.ensures.few) in
    miss_row _ c.args.tasks.now c.args.answer.now c.args.self.now c.requires.case.1 few c.in_ok-miss.miss
    (first_of _ c.args.tasks.now c.args.answer.now c.args.self.now c.requires.case.1 few c.requires.tasks.2 _ _ _ c.check.result (ap (λ (q : Table). view q) c.table.ensures) c.len.ensures.count c.len-2.ensures.count c.check.ensures c.in_ok-miss.miss c.in_ok-miss.was)

pub returns : goal.returns
returns c =
    let few : count_of c.args.answer.now ≤ 32 = omega (arith, c.len.ensures.count, c.len.ensures.few) in
    let first = first_of _ c.args.tasks.now c.args.answer.now c.args.self.now c.requires.case.1 few c.requires.tasks.2 _ _ _ c.check.result (ap (λ (q : Table). view q) c.table.ensures) c.len.ensures.count c.len-2.ensures.count c.check.ensures c.in_ok-miss.miss c.in_ok-miss.was in
    (c.outcome_of.result, refl, answer_checked _ c.args.tasks.now c.args.answer.now c.args.self.now c.requires.case.1 few c.in_ok-miss.miss c.outcome_of.result first c.outcome_of.ensures)
