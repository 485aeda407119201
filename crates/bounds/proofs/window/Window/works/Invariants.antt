use Rattle.bounds.specs.Climbs.{work_at}
use Rattle.bounds.specs.Posing.{question_of}
use Rattle.bounds.proofs.Writes.{Written}
use Rattle.bounds.proofs.window.Window.works.Given as goal

abbrev pub invariant-loop-place : goal.invariant-loop-place
invariant-loop-place l = Written (work_at (question_of l.self.posed) l.self.length l.carries) l.works l.place
