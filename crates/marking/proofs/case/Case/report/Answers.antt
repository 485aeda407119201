use Rattle.std.proofs.Common.{refl, sym, ap, subst, ◌∙◌, Ok, Result, Err}
use Rattle.table.specs.Rows.{view}
use Rattle.table.specs.declared.fault.Fault.{Fault}
use Rattle.marking.specs.declared.report.Outcome.{Outcome}
use Rattle.marking.specs.Reports.{ChecksAnswer}
use Rattle.marking.proofs.Stays.{levels_order, promises}
use Rattle.marking.proofs.case.Case.report.Goals as goal

pub report_of-requires-clause-order : goal.report_of-requires-clause-order
report_of-requires-clause-order c = levels_order c.args.self.test c.args.tasks.now c.args.self.study c.search.new.study c.search.ensures.1 c.requires.case.1.rows

abbrev given : Outcome → Result Outcome Fault → Outcome
given d (Ok o) = o
given d (Err fault) = d

pub returns : goal.returns
returns c =
    let case = c.requires.case.1 in
    let shown = c.report_of.ensures.study in
    let told = c.outcome.ensures in
    let same = ap (given c.in_ok-outcome.outcome) (sym told.1 ∙ c.in_ok-outcome.was) in
    let checks = subst (λ o. ChecksAnswer c.args.self.test (view c.args.self.study.table) c.args.tasks.now c.args.answer.now o) same told.2 in (
      c.report_of.result,
      refl,
      record {
        before = c.args.self.study;
        after = c.search.new.study;
        rows = case.rows;
        history = case.history;
        searched = c.search.ensures.1;
        shows = shown;
        promises = promises c.args.self.test c.args.tasks.now c.args.self.study c.search.new.study c.search.ensures.1 case.rows c.report_of.result shown;
        checks = subst (λ o. ChecksAnswer c.args.self.test (view c.args.self.study.table) c.args.tasks.now c.args.answer.now o) (sym c.report_of.ensures.outcome) checks;
      },
    )
