-- What it is for a text to be lines of fields.
use Rattle.std.specs.Prelude.{◌≡◌, ◌≢◌, ◌==◌, ℕ, ◌≤◌, List, [], ◌∷◌, ◌++◌, length, flat_map, All}
use Rattle.std.specs.List.{join_with_byte, slice_split}

-- the byte at the end of a line
abbrev pub line_feed : ℕ
line_feed = 10

-- the byte between two fields
abbrev pub space : ℕ
space = 32

-- a field holds no line feed and no space
abbrev pub IsField : List ℕ → Type 0
IsField field = All (λ byte. (byte ≢ line_feed) × (byte ≢ space)) field

-- a line is its fields, with one space between two
abbrev pub line_of : List (List ℕ) → List ℕ
line_of fields = join_with_byte space fields

-- a text is its lines, with a line feed at the end of each
abbrev pub text_of : List (List (List ℕ)) → List ℕ
text_of lines = flat_map (λ fields. line_of fields ++ line_feed ∷ []) lines

-- a text is of these lines of fields, of which each has one at least
pub record IsText (text : List ℕ) (lines : List (List (List ℕ))) : Type 0 where
  pub whole : text ≡ text_of lines
  pub each : All (λ fields. (1 ≤ length fields) × All IsField fields) lines

-- what stands before, between and behind the separators of a text
abbrev pub parts : ℕ → List ℕ → List (List ℕ)
parts separator text = slice_split (λ byte. byte == separator) text

-- the fields of a line: what stands before, between and behind its spaces
abbrev pub fields_in : List ℕ → List (List ℕ)
fields_in line = parts space line
