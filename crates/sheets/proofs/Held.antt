-- The fields of a sheet that was read.
use Rattle.std.proofs.Common.{◌≡◌, ℕ, zero, suc, ◌+◌, ◌-◌, ◌<◌, ◌≤◌, List, [], map, length, get_or, sym, ap, ◌∙◌, inl, inr, arith}
use Rattle.std.proofs.lemmas.Bool.{cases_lt}
use Rattle.std.proofs.lemmas.List.{length-map, get_or_default, get_or_past}
use Rattle.table.specs.Places.{nth}
use Rattle.table.proofs.Placed.{nth_at, nth_next, nth_none}
use Rattle.sheets.specs.declared.form.Column.{Column}
use Rattle.sheets.specs.declared.sheet.Sheet.{Sheet}
use Rattle.sheets.specs.Texts.{fields_in}
use Rattle.sheets.specs.Sheets.{lines_of, values_of, left_of, HasField, field_of}
use Rattle.sheets.proofs.Parts.{get_or-map}

-- the k-th of the lines, parted
pub parted_at : (lines : List (List ℕ)) (k : ℕ) → 1 ≤ k → k ≤ length lines → nth (map fields_in lines) k [] ≡ fields_in (nth lines k [])
parted_at lines k low high =
    nth_at (map fields_in lines) k [] low
    ∙ get_or_default (map fields_in lines) (k - 1) [] (fields_in []) (omega (arith, length-map lines fields_in))
    ∙ get_or-map fields_in lines (k - 1) []
    ∙ ap fields_in (sym (nth_at lines k [] low))

module _ (s : Sheet) (k : ℕ) (c : Column) (line : List ℕ) (at : ℕ) (here : (1 ≤ k) × (k ≤ length (lines_of s)) × (line ≡ nth (lines_of s) k [])) (left : at ≡ left_of s c) where
  value_is : fields_in line ≡ nth (values_of s) k []
  value_is = ap fields_in here.2 ∙ sym (parted_at (lines_of s) k here.0 here.1)

  -- a line of too few fields has none there
  pub no_field : length (fields_in line) ≤ at → HasField s k c → ⊥
  no_field few has = omega (arith, has.2, ap length value_is)

  pub field_here : at < length (fields_in line) → (bytes : List ℕ) → bytes ≡ get_or (fields_in line) at [] → HasField s k c × (bytes ≡ field_of s k c)
  field_here more bytes is = (
    (here.0, omega (arith, here.1, length-map (lines_of s) fields_in), omega (arith, ap length value_is)),
    is ∙ ap (λ l. get_or l at []) value_is ∙ sym (nth_next (nth (values_of s) k []) at []) ∙ ap (λ i. nth (nth (values_of s) k []) (i + 1) []) left,
  )

-- a list that has a k-th place with something in it
some_place : (xs : List (List (List ℕ))) (k n : ℕ) → n < length (nth xs k []) → (1 ≤ k) × (k ≤ length xs)
some_place xs zero n some = absurd (omega (arith, some, ap length (nth_none xs [])))
some_place xs (suc k) n some = elim (cases_lt k (length xs)) [
  | inl l ↦ (omega arith, omega arith)
  | inr m ↦ absurd (omega (arith, some, ap length (nth_at xs (suc k) [] (omega arith) ∙ get_or_past xs (suc k - 1) [] (omega arith))))
]

-- where there is no field there is no byte
pub no_byte : (s : Sheet) (k : ℕ) (c : Column) → (HasField s k c → ⊥) → [] ≡ field_of s k c
no_byte s k c none =
    let fields = nth (values_of s) k [] in
    sym (nth_next fields (left_of s c) [] ∙ elim (cases_lt (left_of s c) (length fields)) [
      | inl l ↦ let here = some_place (values_of s) k (left_of s c) l in absurd (none (here.0, here.1, l))
      | inr m ↦ get_or_past fields (left_of s c) [] m
    ])
