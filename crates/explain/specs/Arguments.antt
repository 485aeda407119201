-- What a program that marks is asked by its arguments.
use Rattle.std.specs.Prelude.{◌≡◌, ◌≢◌, ℕ, List, [], ◌∷◌, codes}
use Rattle.explain.specs.declared.arguments.Request.{Request}
use Rattle.explain.specs.declared.arguments.Request.TheVariants.{Plain, Explain, Unknown}

-- what arguments ask: none the report alone, `--explain` alone the words with it, and any others
-- nothing that is known
abbrev pub Requests : List (List ℕ) → Request → Type 0
Requests arguments Plain = arguments ≡ []
Requests arguments Explain = arguments ≡ codes "--explain" ∷ []
Requests arguments Unknown = (arguments ≢ []) × (arguments ≢ codes "--explain" ∷ [])
