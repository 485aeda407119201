-- A question once it is known to be sound. Only contracts of private functions cite it.
use Rattle.std.specs.Prelude.{◌≡◌, Option, MatchOption}
use Rattle.bounds.specs.declared.posed.Posed.{Posed}
use Rattle.bounds.specs.declared.question.Question.{Question}
use Rattle.bounds.specs.Questions.{Asked, Sound, asked}

-- the question that was posed
abbrev pub question_of : Posed → Asked
question_of p = record { rows = p.rows.now; task = p.task; above = p.above.now; estimates = p.estimates.now }

-- a question is posed with these very parts, if it is sound
abbrev pub Poses : Question → Option Posed → Type 0
Poses q r =
    MatchOption r (¬ Sound (asked q)) (λ p. question_of p ≡ asked q)
