use Rattle.std.proofs.lemmas.Result.{err_from_is_err_and}
use Rattle.marking.specs.Questions.{by_row, by_estimate}
use Rattle.marking.proofs.case.Case.new.Goals as goal

pub returns-in_err-study : goal.returns-in_err-study
returns-in_err-study c =
    let p = err_from_is_err_and c.from_residual-in_err-study.result c.from_residual-in_err-study.ensures.1 in
    let pairs = c.in_ok-order.ensures.pair in
    rw (p.1, p.2) (by_row c.in_ok-test.ensures.0 (pairs.0, pairs.1, pairs.2) c.in_err-study.ensures)

pub returns-in_err-estimates : goal.returns-in_err-estimates
returns-in_err-estimates c =
    let p = err_from_is_err_and c.from_residual-in_err-estimates.result c.from_residual-in_err-estimates.ensures.1 in
    let pairs = c.in_ok-order.ensures.pair in
    rw (p.1, p.2) (by_estimate c.in_ok-test.ensures.0 (pairs.0, pairs.1, pairs.2) c.in_ok-study.ensures.0 c.in_err-estimates.ensures)
