use Rattle.std.proofs.Common.{false, cond, get_or, rules}
use Rattle.table.proofs.Placed.{nth_next}
use Rattle.bounds.proofs.Filled.{filled}
use Rattle.bounds.proofs.window.mixed.Goals as goal

pub returns : goal.returns
returns c =
    filled (λ place. cond (get_or c.args.chosen.now place false) (get_or c.args.carried.now place 0) (get_or c.args.plain.now place 0)) _ c.from_fn.result (λ j y e called. search rules) _ (λ j. simp nth_next) c.from_fn.ensures.items
