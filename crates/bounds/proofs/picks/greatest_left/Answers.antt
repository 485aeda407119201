use Rattle.std.proofs.Common.{refl, arith, rules}
use borrow.Author.Tests.{tests}
use Rattle.std.proofs.lemmas.Iterator.{YieldsList-from_range}
use Rattle.std.proofs.lemmas.Iterator.Consumers.{YieldsList-at, YieldsList-from_filter}
use Rattle.bounds.proofs.Left.{is_left, greatest_by_key}
use Rattle.bounds.proofs.picks.greatest_left.Goals as goal

pub returns : goal.returns
returns c =
    let numbers = c.args.numbers.now in
    let chosen = c.args.chosen.now in
    let rows = c.args.rows in
    greatest_by_key _ numbers chosen rows c.requires.few c.requires.past
    (YieldsList-from_filter _ (is_left numbers chosen) (YieldsList-at c.filter.ensures.source (YieldsList-from_range 0 rows rows refl (omega arith))) c.filter.ensures.closure (λ x b q k. search (rules, tests)))
    (λ x k e called. search rules)
    c.max_by_key.result c.max_by_key.ensures.runs
