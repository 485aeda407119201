use Rattle.std.proofs.Common.{refl, rules}
use Rattle.table.proofs.Asked.{met}
use Rattle.bounds.proofs.overhead.Overhead.new.Goals as goal

pub returns-then-added-le-MOST_ADDED : goal.returns-then-added-le-MOST_ADDED
returns-then-added-le-MOST_ADDED g c = met (search rules) (_, refl, refl, refl)
