use Rattle.std.proofs.Common.{length, Some}
use Rattle.table.specs.Rows.{view}
use Rattle.table.proofs.View.{few_rows}
use Rattle.orders.specs.Growth.{GrownTo}
use Rattle.orders.proofs.Audsley.{finds_if_open}
use Rattle.orders.proofs.Grows.{grown_maximal}
use Rattle.orders.proofs.Narrows.{narrowing}
use Rattle.orders.proofs.settle.settle.Goals as goal

pub returns-in_default-clause-narrowing : goal.returns-in_default-clause-narrowing
returns-in_default-clause-narrowing g c = narrowing (g.met.T.Test.kept c.args.test.now) (view c.args.table.now) (few_rows c.args.table.now)

pub returns-in-Ok-clause-maximal : goal.returns-in-Ok-clause-maximal
returns-in-Ok-clause-maximal g c within shut =
    let rows = view c.args.table.now in
    let own = c.in-Some.ensures in
    let made = c.in-Ok.ensures.ok in
    let grown : GrownTo (g.T.Test.answer c.args.test.now) rows c.args.range.now (length rows) c.grow.result = rw (made.0, made.1, made.2, own.0, own.1) at c.grow.ensures.grown in
    grown_maximal (g.met.T.Test.kept c.args.test.now) rows (few_rows c.args.table.now) c.args.range.now c.grow.result within shut grown

pub returns-in-Ok-clause-narrowing : goal.returns-in-Ok-clause-narrowing
returns-in-Ok-clause-narrowing g c = narrowing (g.met.T.Test.kept c.args.test.now) (view c.args.table.now) (few_rows c.args.table.now)

pub returns-in-Err-clause-decides : goal.returns-in-Err-clause-decides
returns-in-Err-clause-decides g c =
    let own = c.in-Some.ensures in
    finds_if_open (g.met.T.Test.kept c.args.test.now) (view c.args.table.now) c.args.range.now (few_rows c.args.table.now) (Some c.in-Err.order) (rw (own.0, own.1) at c.in-Err.ensures.err.0)

pub returns-in-Err-clause-narrowing : goal.returns-in-Err-clause-narrowing
returns-in-Err-clause-narrowing g c = narrowing (g.met.T.Test.kept c.args.test.now) (view c.args.table.now) (few_rows c.args.table.now)
