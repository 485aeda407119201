use Rattle.std.proofs.Common.{ap, ◌∙◌}
use Rattle.table.specs.Rows.{view}
use Rattle.table.proofs.View.{few_rows}
use Rattle.orders.specs.Assigner.{full, Assigns}
use Rattle.orders.proofs.Audsley.{finds_if_open, fills_lowest}
use Rattle.orders.proofs.assign.find_order.Goals as goal

pub fill_levels-requires : goal.fill_levels-requires
fill_levels-requires g c = c.all_tasks.ensures ∙ ap full c.len.ensures.rows

pub returns : goal.returns
returns g c =
    let q = c.args.range.now in
    let rows = view q.table.now in
    let few = few_rows q.table.now in
    let laws = g.met.T.Test.kept c.args.test.now in
    let found = c.fill_levels.result in
    let rule : Assigns (g.T.Test.answer c.args.test.now) rows q.ends found = ((λ out. absurd (out q.within)), λ _. c.fill_levels.ensures) in
    record { rule = rule; decides = finds_if_open laws rows q.ends few found rule; lowest = fills_lowest laws rows q.ends few q.within found rule }
