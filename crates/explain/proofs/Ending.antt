-- The last byte of a text, and what it says of its size.
use Rattle.std.proofs.Common.{◌≡◌, ℕ, ◌-◌, ◌≤◌, List, length, Some, None, sym, ◌∙◌, arith, inl, inr}
use Rattle.std.specs.List.{slice_get}
use Rattle.std.proofs.lemmas.Bool.{cases_lt}
use Rattle.std.proofs.lemmas.Bool.Decides.{nat_tests}
use Rattle.std.proofs.lemmas.Option.{get_or_from_slice_get, slice_get_past}
use Rattle.table.specs.Places.{nth}
use Rattle.table.proofs.Placed.{nth_at}
use Rattle.explain.specs.Causes.{cause_in}
use Rattle.explain.specs.declared.cause.Cause.TheVariants.{Unended}

module _ (text : List ℕ) (last : ℕ) (is : Some last ≡ slice_get text (length text - 1)) where
  -- it has one, and so a byte at least
  pub some_byte : 1 ≤ length text
  some_byte = elim (cases_lt 0 (length text)) [
    | inl some ↦ omega (arith, some)
    | inr none ↦ let no : Some last ≡ None = is ∙ slice_get_past text (length text - 1) (omega (arith, none)) in absurd (cc)
  ]

  pub last_at : nth text (length text) 0 ≡ last
  last_at = nth_at text (length text) 0 some_byte ∙ get_or_from_slice_get text (length text - 1) last 0 (sym is)

  pub no_cause : length text ≤ 4096 → last ≡ 10 → None ≡ cause_in text
  no_cause few ends = let some = some_byte in let at = last_at in grind (arith, nat_tests)

  pub unended : length text ≤ 4096 → (last ≡ 10 → ⊥) → Some Unended ≡ cause_in text
  unended few ends = let some = some_byte in let at = last_at in grind (arith, nat_tests)
