use Rattle.std.proofs.Common.{rules, tests, arith}
use Rattle.std.proofs.lemmas.Bool.Decides.{Decides-at}
use Rattle.std.proofs.lemmas.Iterator.{YieldsList-from_slice, YieldsList-from_zip}
use Rattle.std.proofs.lemmas.Iterator.Consumers.{YieldsList-at}
use Rattle.std.proofs.lemmas.Iterator.Search.{all_from_yields_List}
use Rattle.table.specs.Rows.{view}
use Rattle.table.proofs.View.{few_rows}
use Rattle.orders.proofs.Withins.{lies, within_decides}
use Rattle.orders.proofs.assign.is_range.Goals as goal

pub returns : goal.returns
returns c =
    let rows = view c.args.table.now in
    let range = c.args.range.now in
    let few = few_rows c.args.table.now in
    Decides-at _ _
    (all_from_yields_List lies c.all.new.self _ c.all.result c.all.ensures.ran
    (YieldsList-from_zip (YieldsList-from_slice rows cc) (YieldsList-at c.zip.ensures.second (YieldsList-from_zip (YieldsList-from_slice range.lows cc) (YieldsList-from_slice range.highs cc))))
    (λ x b q called. search (rules, tests)))
    (within_decides rows range (omega arith) (omega arith))
