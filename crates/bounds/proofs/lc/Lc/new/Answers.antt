use Rattle.bounds.proofs.Meanings.{lc_means}
use Rattle.bounds.proofs.Posing.{unsound_late}
use Rattle.bounds.proofs.lc.Lc.new.Goals as goal

pub returns-clause-meaning : goal.returns-clause-meaning
returns-clause-meaning c = lc_means

pub returns-clause-unsound : goal.returns-clause-unsound
returns-clause-unsound c = λ q. unsound_late q _
