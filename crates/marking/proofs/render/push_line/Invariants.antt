use Rattle.std.proofs.Common.{◌≡◌, ◌++◌, take}
use Rattle.marking.proofs.Written.{spaced}
use Rattle.marking.proofs.render.push_line.Given as goal

abbrev pub invariant-loop-field : goal.invariant-loop-field
invariant-loop-field l = l.out.items ≡ l.initial.out.items ++ spaced (take l.field-index l.rest)
