use Rattle.std.proofs.Common.{rules, ℕ, List, ap₂}
use Rattle.orders.specs.declared.range.Range.{Range}
use Rattle.bounds.proofs.Padded.{padded_made}
use Rattle.study.specs.Whole.{deadlines}
use Rattle.study.proofs.whole.whole_range.Goals as goal

pub returns : goal.returns
returns c =
    let range : List ℕ → List ℕ → Range = λ lows highs. record { lows = lows; highs = highs } in
    ap₂ range c.wcets_of.ensures (padded_made _ (deadlines c.args.rows.now) c.from_fn.result c.from_fn.ensures.items (λ j y e called. search rules))
