-- What is said where a report could not be printed.
use Rattle.std.specs.Prelude.{◌≡◌, ℕ, List, ◌++◌, Option, codes}
use Rattle.std.specs.Io.KnownBytes.{Appends}
use Rattle.std.specs.declared.io.ErrorKind.{ErrorKind}
use Rattle.std.specs.declared.io.ErrorKind.TheVariants.{OutOfMemory}

-- what is said of an error: that memory is lacking, or that the report could not be written, and in
-- some words why
pub record IsFailureText (kind : ErrorKind) (text : List ℕ) : Type 0 where
  pub memory : kind ≡ OutOfMemory → text ≡ codes "mark: memory is lacking\n"
  pub output : (kind ≡ OutOfMemory → ⊥) → (words : List ℕ)
      × (text ≡ codes "mark: the report could not be written: " ++ words ++ codes "\n")

-- it is said: what is said of the error follows what the output held, where that is known
abbrev pub PrintsFailure : ErrorKind → Option (List ℕ) → Option (List ℕ) → Type 0
PrintsFailure kind before after =
    (text : List ℕ) × IsFailureText kind text × Appends before after text
