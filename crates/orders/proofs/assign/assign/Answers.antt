use Rattle.table.specs.Rows.{view}
use Rattle.table.proofs.View.{few_rows}
use Rattle.orders.proofs.Related.{related}
use Rattle.orders.proofs.assign.assign.Goals as goal

pub returns-in_err-range-clause-relations : goal.returns-in_err-range-clause-relations
returns-in_err-range-clause-relations g c = related (g.met.T.Test.kept c.args.test.now) (view c.args.table.now) (few_rows c.args.table.now)

pub returns-clause-relations : goal.returns-clause-relations
returns-clause-relations g c = related (g.met.T.Test.kept c.args.test.now) (view c.args.table.now) (few_rows c.args.table.now)
