-- An unsound question is late.
use Rattle.std.proofs.Common.{◌≡◌, cond, None, Option, inl, inr}
use Rattle.std.proofs.lemmas.Bool.{cases_Bool, cond-false}
use Rattle.bounds.specs.Questions.{Asked, Sound, soundb}
use Rattle.bounds.specs.Sounds.{sound_from}

pub unsound_late : {A : Type 0} (q : Asked) (r : Option A) → ¬ Sound q → cond (soundb q) r None ≡ None
unsound_late q r unsound = elim (cases_Bool (soundb q)) [ inl y ↦ absurd (unsound (sound_from q y)) | inr z ↦ cond-false _ r None z ]
