use Rattle.std.proofs.Common.{◌+◌, ◌-◌, ◌≤◌}
use Rattle.bounds.specs.Climbs.{loads}
use Rattle.bounds.specs.Questions.{own}
use Rattle.bounds.specs.Posing.{question_of}
use Rattle.bounds.proofs.Skips.{Passed}
use Rattle.bounds.proofs.climb.least_window.Given as goal

-- no window below the cap fits
abbrev pub invariant-loop-cap : goal.invariant-loop-cap
invariant-loop-cap l = (1 ≤ l.cap) × Passed l.m.count (own (question_of l.q)) (loads l.limit (question_of l.q)) l.cap

abbrev pub decreases-loop-cap : goal.decreases-loop-cap
decreases-loop-cap l = l.last + 1 - l.cap
