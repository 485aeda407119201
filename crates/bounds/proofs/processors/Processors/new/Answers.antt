use Rattle.std.proofs.Common.{refl, rules}
use Rattle.table.proofs.Asked.{met}
use Rattle.bounds.proofs.processors.Processors.new.Goals as goal

pub returns-then-count-le-MOST : goal.returns-then-count-le-MOST
returns-then-count-le-MOST c = met (search rules) (_, refl, refl)
