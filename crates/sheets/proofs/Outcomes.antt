-- A text has one first fault.
use Rattle.std.proofs.Common.{◌≡◌, ◌==◌, ℕ, ◌<◌, ◌≤◌, List, cond, refl, sym, ap, ◌∙◌, inl, inr, arith}
use Rattle.std.proofs.lemmas.Bool.{cases_lt}
use Rattle.std.proofs.lemmas.Bool.Decides.{nat_tests}
use Rattle.table.specs.Faults.{number_of, place_of}
use Rattle.table.specs.declared.fault.Fault.{Fault}
use Rattle.table.specs.declared.fault.Fault.TheVariants.{BadText, BadNames, BadFieldCount, BadField, BadLineCount}
use Rattle.table.specs.declared.fault.Place.{Place}
use Rattle.sheets.specs.declared.form.Form.{Form}
use Rattle.sheets.specs.Reading.{Fails, is_last, Before, IsFirst}

-- the number of a question by where it fails
number_at : ℕ → ℕ → ℕ → ℕ
number_at late line field = cond (late == 1) 5 (cond (line == 0) 1 (cond (line == 1) 2 (cond (field == 0) 3 4)))

-- a fault of a sheet by its number and place
abbrev fault_of : ℕ → Place → Fault
fault_of n p = cond (n == 1) (BadText p) (cond (n == 2) (BadNames p) (cond (n == 3) (BadFieldCount p) (cond (n == 4) (BadField p) (BadLineCount p))))

first_number : (late line field : ℕ) → late ≡ 0 → line ≡ 0 → 1 ≡ number_at late line field
unfolding number_at
first_number late line field a b = grind (arith, nat_tests)

second_number : (late line field : ℕ) → late ≡ 0 → line ≡ 1 → 2 ≡ number_at late line field
unfolding number_at
second_number late line field a b = grind (arith, nat_tests)

third_number : (late line field : ℕ) → late ≡ 0 → 2 ≤ line → field ≡ 0 → 3 ≡ number_at late line field
unfolding number_at
third_number late line field a b d = grind (arith, nat_tests)

fourth_number : (late line field : ℕ) → late ≡ 0 → 2 ≤ line → 1 ≤ field → 4 ≡ number_at late line field
unfolding number_at
fourth_number late line field a b d = grind (arith, nat_tests)

fifth_number : (late line field : ℕ) → late ≡ 1 → 5 ≡ number_at late line field
unfolding number_at
fifth_number late line field a = grind (arith, nat_tests)

-- two numbers of which neither is below the other are one
pub level : (a b : ℕ) → (a < b → ⊥) → (b < a → ⊥) → a ≡ b
level a b below above = elim (cases_lt a b) [
  | inl l ↦ absurd (below l)
  | inr m ↦ elim (cases_lt b a) [ inl l ↦ absurd (above l) | inr n ↦ omega arith ]
]

same_place : (p q : Place) → p.sheet ≡ q.sheet → p.line ≡ q.line → p.field ≡ q.field → p ≡ q
same_place p q a b d = λ i. record { sheet = a i; line = b i; field = d i }

module _ (form : Form) (number : ℕ) (text : List ℕ) where
  abbrev line_of : Place → ℕ
  line_of p = p.line

  abbrev field_of : Place → ℕ
  field_of p = p.field

  number_is : (f : Fault) → Fails form number text f → number_of f ≡ number_at (is_last f) (place_of f).line (place_of f).field
  number_is (BadText p) m = first_number 0 p.line p.field refl (ap line_of m.0)
  number_is (BadNames p) m = second_number 0 p.line p.field refl (ap line_of m.2.0)
  number_is (BadFieldCount p) m = third_number 0 p.line p.field refl (omega (arith, ap line_of m.2.1, m.2.2.0)) (ap field_of m.2.1)
  number_is (BadField p) m = fourth_number 0 p.line p.field refl (omega (arith, ap line_of m.2.2, m.2.3.0)) (omega (arith, ap field_of m.2.2, m.2.4))
  number_is (BadLineCount p) m = fifth_number 1 p.line p.field refl
  number_is f m = absurd m.2

  sheet_is : (f : Fault) → Fails form number text f → (place_of f).sheet ≡ number
  sheet_is (BadText p) m = ap (λ (q : Place). q.sheet) m.0
  sheet_is (BadNames p) m = ap (λ (q : Place). q.sheet) m.2.0
  sheet_is (BadFieldCount p) m = ap (λ (q : Place). q.sheet) m.2.1
  sheet_is (BadField p) m = ap (λ (q : Place). q.sheet) m.2.2
  sheet_is (BadLineCount p) m = ap (λ (q : Place). q.sheet) m.2.0
  sheet_is f m = absurd m.2

  made_by : (f : Fault) → Fails form number text f → f ≡ fault_of (number_of f) (place_of f)
  made_by (BadText p) m = refl
  made_by (BadNames p) m = refl
  made_by (BadFieldCount p) m = refl
  made_by (BadField p) m = refl
  made_by (BadLineCount p) m = refl
  made_by f m = absurd m.2

  -- two first faults are one
  pub one_first : (f g : Fault) → IsFirst form number text f → IsFirst form number text g → f ≡ g
  one_first f g u v =
      let before : Before f g → ⊥ = λ b. v.1 f b u.0 in
      let behind : Before g f → ⊥ = λ b. u.1 g b v.0 in
      let late = level (is_last f) (is_last g) (λ l. before (inl l)) (λ l. behind (inl l)) in
      let line = level (place_of f).line (place_of g).line (λ l. before (inr (late, inl l))) (λ l. behind (inr (sym late, inl l))) in
      let field = level (place_of f).field (place_of g).field (λ l. before (inr (late, inr (line, l)))) (λ l. behind (inr (sym late, inr (sym line, l)))) in
      let which = number_is f u.0 ∙ ap (λ a. number_at a (place_of f).line (place_of f).field) late ∙ ap (λ a. number_at (is_last g) a (place_of f).field) line ∙ ap (number_at (is_last g) (place_of g).line) field ∙ sym (number_is g v.0) in
      made_by f u.0 ∙ ap (λ n. fault_of n (place_of f)) which
      ∙ ap (fault_of (number_of g)) (same_place (place_of f) (place_of g) (sheet_is f u.0 ∙ sym (sheet_is g v.0)) line field)
      ∙ sym (made_by g v.0)
