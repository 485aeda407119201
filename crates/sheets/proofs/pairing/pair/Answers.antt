use Rattle.std.proofs.Common.{Ok}
use Rattle.sheets.proofs.Ordered.{pairs_in_order}
use Rattle.sheets.proofs.pairing.pair.Goals as goal

pub returns-clause-order : goal.returns-clause-order
returns-clause-order c =
    pairs_in_order c.args.tasks.now c.args.answer.now (Ok c.in_ok-rows.rows)
    (c.in_ok-ask_names.ensures, c.in_ok-rows.ensures.0, c.in_ok-ask_answered.ensures, c.in_ok-rows.ensures.1)
