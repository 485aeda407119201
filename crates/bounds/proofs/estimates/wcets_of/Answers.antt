use Rattle.std.proofs.Common.{rules}
use Rattle.bounds.specs.Orders.{wcet_list}
use Rattle.bounds.proofs.Padded.{padded_made}
use Rattle.bounds.proofs.estimates.wcets_of.Goals as goal

pub returns : goal.returns
returns c = padded_made _ (wcet_list c.args.rows.now) c.from_fn.result c.from_fn.ensures.items (λ j y e called. search rules)
