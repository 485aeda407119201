use Rattle.std.proofs.Common.{◌+◌, refl, ◌∙◌, arith, rules}
use borrow.Author.Tests.{tests}
use Rattle.std.proofs.lemmas.Bool.{false≢true}
use Rattle.std.proofs.lemmas.Bool.Decides.{Decides-at}
use Rattle.std.proofs.lemmas.Iterator.{YieldsList-from_range}
use Rattle.std.proofs.lemmas.Iterator.Search.{all_from_yields_List}
use Rattle.table.proofs.Placed.{nth_at}
use Rattle.bounds.specs.Questions.{asked, sound_atb}
use Rattle.bounds.proofs.Sounding.{all_places, sound_by_places, sound_decides}
use Rattle.bounds.proofs.question.Question.is_sound.Goals as goal
use Rattle.bounds.proofs.question.Question.is_sound.Goals.{then-task-eq0-via-then-task-eq0, then-task-eq0-via-else-task-eq0+then-task-len, then-task-eq0-via-else-task-eq0+else-task-len+then-self-task}

pub returns-then-task-eq0-clause-sound : goal.returns-then-task-eq0-clause-sound
returns-then-task-eq0-clause-sound c = (
  (λ no'. absurd (false≢true no')),
  (λ sound. absurd (elim c.then-task-eq0.branch [
    | then-task-eq0-via-then-task-eq0 w ↦ omega (arith, sound.names)
    | then-task-eq0-via-else-task-eq0+then-task-len w ↦ omega (arith, sound.names)
    | then-task-eq0-via-else-task-eq0+else-task-len+then-self-task w ↦ sound.apart (nth_at c.args.self.now.above.now c.args.self.now.task _ sound.names.0 ∙ w.if-self-task.true)
  ])),
)

pub returns-clause-sound : goal.returns-clause-sound
returns-clause-sound c =
    let q = asked c.args.self.now in
    Decides-at _ _
    (
    all_from_yields_List (λ place. sound_atb q (place + 1)) _ _ c.all.result c.all.ensures.ran (YieldsList-from_range 0 32 32 refl refl) (λ x b k called. search (rules, tests))
    ∙ all_places (sound_atb q) 32
    ∙ sound_by_places q (omega arith) (omega arith, omega arith) c.if-self-task.false
    )
    (sound_decides q)

pub returns-then-task-eq0-clause-computed : goal.returns-then-task-eq0-clause-computed
returns-then-task-eq0-clause-computed c = sound_decides

pub returns-clause-computed : goal.returns-clause-computed
returns-clause-computed c = sound_decides
