use Rattle.std.proofs.Common.{rules, Ok, Err}
use Rattle.table.specs.declared.fault.Fault.TheVariants.{Empty}
use Rattle.study.specs.Moments.{moment}
use Rattle.study.proofs.Called.{begin_promise}
use Rattle.study.proofs.study.Study.begin.Goals as goal

pub returns-then-is_empty-clause-promise : goal.returns-then-is_empty-clause-promise
returns-then-is_empty-clause-promise c meaning laws l p tally history =
    let lent = moment c.args.self.now c.args.ledger.now c.args.pending.now in
    begin_promise meaning laws lent lent l p tally (Err Empty) (search rules) history

pub returns-in_err-room-clause-promise : goal.returns-in_err-room-clause-promise
returns-in_err-room-clause-promise c meaning laws l p tally history =
    let lent = moment c.args.self.now c.args.ledger.now c.args.pending.now in
    begin_promise meaning laws lent lent l p tally _ (search rules) history

pub returns-clause-promise : goal.returns-clause-promise
returns-clause-promise c meaning laws l p tally history =
    let lent = moment c.args.self.now c.args.ledger.now c.args.pending.now in
    begin_promise meaning laws lent _ l p tally (Ok tt) (search rules) history
