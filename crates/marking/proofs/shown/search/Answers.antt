use Rattle.std.proofs.lemmas.List.{length-replicate}
use Rattle.std.proofs.Common.{ℕ}
use Rattle.marking.proofs.Ended.{search_ended}
use Rattle.marking.proofs.shown.search.Goals as goal

pub returns : goal.returns
returns c = search_ended c.args.test.now c.args.study.now c.search.new.self _ _ c.search.new.ledger c.search.new.pending c.search.result (length-replicate {A = ℕ} 6144 0) (length-replicate {A = ℕ} 6144 0) c.search.ensures.leads c.requires.0 c.search.ensures.means c.search.ensures.promise c.requires.1
