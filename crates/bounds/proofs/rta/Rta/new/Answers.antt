use Rattle.bounds.proofs.Meanings.{rta_means}
use Rattle.bounds.proofs.Posing.{unsound_late}
use Rattle.bounds.proofs.rta.Rta.new.Goals as goal

pub returns-clause-meaning : goal.returns-clause-meaning
returns-clause-meaning c = rta_means

pub returns-clause-unsound : goal.returns-clause-unsound
returns-clause-unsound c = λ q. unsound_late q _
