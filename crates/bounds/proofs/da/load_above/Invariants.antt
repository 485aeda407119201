use Rattle.std.proofs.Common.{◌≡◌, length}
use Rattle.bounds.specs.Loads.{sum_over, deadline_part}
use Rattle.bounds.specs.Posing.{question_of}
use Rattle.bounds.proofs.da.load_above.Given as goal

abbrev pub invariant-loop-row : goal.invariant-loop-row
invariant-loop-row l = l.sum ≡ sum_over l.q.above.now (deadline_part (question_of l.q)) (length l.yielded)
