use Rattle.std.proofs.Common.{refl, rules}
use Rattle.table.proofs.Asked.{met}
use Rattle.table.proofs.row.Row.new.Goals as goal

pub returns : goal.returns
returns c = met (search rules) (_, refl, (refl, refl, refl))
