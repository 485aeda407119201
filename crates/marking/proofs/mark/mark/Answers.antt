use Rattle.std.proofs.Common.{sym, subst, inr}
use Rattle.std.proofs.lemmas.Result.{err_from_is_err_and}
use Rattle.marking.specs.Reports.{Marks}
use Rattle.marking.proofs.DeterminedReports.{one_report}
use Rattle.marking.proofs.Singles.{one_refusal, no_refusal}
use Rattle.marking.proofs.mark.mark.Goals as goal

pub returns-in_err-case-clause-marks : goal.returns-in_err-case-clause-marks
returns-in_err-case-clause-marks c =
    let p = err_from_is_err_and c.from_residual-in_err-case.result c.from_residual-in_err-case.ensures.1 in
    let read = c.in_ok-board.ensures.0 in
    rw (p.1, p.2) (inr (c.in_ok-board.field-0.board, c.in_ok-board.field-0.tasks, c.in_ok-board.field-0.answer, read, c.in_err-case.ensures))

pub returns-clause-marks : goal.returns-clause-marks
returns-clause-marks c =
    let case = c.in_ok-case.ensures in
    let told = c.report.ensures in
    subst (Marks c.args.board.now c.args.tasks.now c.args.answer.now) (sym told.1) (record {
      board = c.in_ok-board.field-0.board;
      tasks = c.in_ok-board.field-0.tasks;
      answer = c.in_ok-board.field-0.answer;
      read = c.in_ok-board.ensures.0;
      has_test = case.has_test;
      paired = (case.pairs.0, case.pairs.1, case.pairs.2);
      lines = case.lines;
      lie = case.lie;
      test = c.in_ok-case.case.test;
      is_test = case.test;
      reports = told.2;
    })

pub returns-in_err-board-clause-one : goal.returns-in_err-board-clause-one
returns-in_err-board-clause-one c = one_refusal c.args.board.now c.args.tasks.now c.args.answer.now

pub returns-in_err-case-clause-one : goal.returns-in_err-case-clause-one
returns-in_err-case-clause-one c = one_refusal c.args.board.now c.args.tasks.now c.args.answer.now

pub returns-clause-one : goal.returns-clause-one
returns-clause-one c = one_refusal c.args.board.now c.args.tasks.now c.args.answer.now

pub returns-in_err-board-clause-either : goal.returns-in_err-board-clause-either
returns-in_err-board-clause-either c = no_refusal c.args.board.now c.args.tasks.now c.args.answer.now

pub returns-in_err-case-clause-either : goal.returns-in_err-case-clause-either
returns-in_err-case-clause-either c = no_refusal c.args.board.now c.args.tasks.now c.args.answer.now

pub returns-clause-either : goal.returns-clause-either
returns-clause-either c = no_refusal c.args.board.now c.args.tasks.now c.args.answer.now

pub returns-in_err-board-clause-same : goal.returns-in_err-board-clause-same
returns-in_err-board-clause-same c = one_report c.args.board.now c.args.tasks.now c.args.answer.now

pub returns-in_err-case-clause-same : goal.returns-in_err-case-clause-same
returns-in_err-case-clause-same c = one_report c.args.board.now c.args.tasks.now c.args.answer.now

pub returns-clause-same : goal.returns-clause-same
returns-clause-same c = one_report c.args.board.now c.args.tasks.now c.args.answer.now
