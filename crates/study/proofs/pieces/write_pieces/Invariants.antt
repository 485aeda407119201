use Rattle.study.proofs.Pieced.{Written}
use Rattle.study.proofs.pieces.write_pieces.Given as goal

abbrev pub invariant-loop-place : goal.invariant-loop-place
invariant-loop-place l = Written l.taken l.grown l.fn.list l.k l.place l.list l.slot l.cut
