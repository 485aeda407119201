use Rattle.bounds.proofs.Meanings.{da_means}
use Rattle.bounds.proofs.Posing.{unsound_late}
use Rattle.bounds.proofs.da.Da.new.Goals as goal

pub returns-clause-meaning : goal.returns-clause-meaning
returns-clause-meaning c = da_means

pub returns-clause-unsound : goal.returns-clause-unsound
returns-clause-unsound c = λ q. unsound_late q _
