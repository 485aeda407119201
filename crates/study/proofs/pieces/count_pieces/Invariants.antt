use Rattle.std.proofs.Common.{◌≡◌, length}
use Rattle.study.specs.Pieces.{pieces}
use Rattle.study.proofs.pieces.count_pieces.Given as goal

abbrev pub invariant-loop-place : goal.invariant-loop-place
invariant-loop-place l = l.count ≡ length (pieces l.taken l.grown l.place)
