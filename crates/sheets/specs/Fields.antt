-- What a field may be: a name, or the number that it writes.
use Rattle.std.specs.Prelude.{◌≡◌, ℕ, ◌+◌, ◌-◌, ◌*◌, ◌^◌, ◌≤◌, ◌⊎◌, Option, MatchOption, List, [], ◌∷◌, length, All, slice_index}

-- a digit 0 to 9
abbrev pub IsDigit : ℕ → Type 0
IsDigit byte = (48 ≤ byte) × (byte ≤ 57)

-- a letter a to z, a digit or a hyphen
abbrev pub IsNameByte : ℕ → Type 0
IsNameByte byte = ((97 ≤ byte) × (byte ≤ 122)) ⊎ (IsDigit byte ⊎ (byte ≡ 45))

-- a name is 1 to 16 such bytes
abbrev pub IsName : List ℕ → Type 0
IsName field = (1 ≤ length field) × (length field ≤ 16) × All IsNameByte field

-- the number that digits write: each digit counts by its place, the last one for itself and any
-- other ten times as much as in the next place
unfoldable pub value : List ℕ → ℕ
value [] = 0
value (digit ∷ digits) = (digit - 48) * 10 ^ length digits + value digits

-- a field writes the number n: it is digits, of which the first is 0 only if it is alone, and their
-- number is n and at most 1,000,000
pub record Writes (field : List ℕ) (n : ℕ) : Type 0 where
  pub some : 1 ≤ length field
  pub digits : All IsDigit field
  pub plain : slice_index field 0 ≡ 48 → length field ≡ 1
  pub number : value field ≡ n
  pub small : n ≤ 1000000

-- reading a number: the one that the field writes, or none if it writes none
abbrev pub ReadsNumber : List ℕ → Option ℕ → Type 0
ReadsNumber field number = MatchOption number ((n : ℕ) → ¬ Writes field n) (Writes field)
