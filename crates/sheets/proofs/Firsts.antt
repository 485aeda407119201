-- The first fault of a text.
use Rattle.std.proofs.Common.{◌≡◌, ◌≢◌, ◌==◌, ℕ, suc, ◌+◌, ◌-◌, ◌<◌, ◌≤◌, ◌⊎◌, cond, List, [], ◌∷◌, map, length, get_or, refl, sym, ap, subst, ◌∙◌, inl, inr, arith}
use Rattle.std.proofs.lemmas.Bool.{cases_lt}
use Rattle.std.proofs.lemmas.Bool.Decides.{nat_tests}
use Rattle.std.proofs.lemmas.List.{length-map, get_or_past, get_or_default}
use Rattle.table.proofs.Placed.{nth_at, nth_next}
use Rattle.table.specs.declared.fault.Fault.{Fault}
use Rattle.table.specs.declared.fault.Fault.TheVariants.{BadText, BadNames, BadFieldCount, BadField, BadLineCount}
use Rattle.table.specs.declared.fault.Place.{Place}
use Rattle.table.specs.Faults.{place_of}
use Rattle.table.specs.Places.{nth}
use Rattle.sheets.specs.declared.form.Column.{Column}
use Rattle.sheets.specs.declared.form.Column.TheVariants.{Processors, Overhead, Test, Task, Wcet, Period, Deadline, Estimate}
use Rattle.sheets.specs.declared.form.Form.{Form}
use Rattle.sheets.specs.Forms.{name_of, kind_of, most_of, place}
use Rattle.sheets.specs.Texts.{fields_in, IsText}
use Rattle.sheets.specs.Reading.{IsSized, Heads, HasNames, IsOfKind, AllowedCount, IsValueLine, field, SameCount, Conforms, line_at_fault, FailsIn, Fails, is_last, IsFirst, IsSheet}
use Rattle.sheets.specs.Lines.{FitsAt, LineFails, FirstFit, LinesFail}
use Rattle.sheets.proofs.Parts.{get_or-map}
use Rattle.sheets.proofs.Columns.{one_column}
use Rattle.sheets.proofs.Cuts.{one_text}

-- no column has the empty name
named : (c : Column) → [] ≢ name_of c
named Processors e = cc
named Overhead e = cc
named Test e = cc
named Task e = cc
named Wcet e = cc
named Period e = cc
named Deadline e = cc
named Estimate e = cc

-- a line that is asked: its fields, and those of line 1 with their columns
module _ (names fields : List (List ℕ)) (columns : List Column) (heads : names ≡ map name_of columns) where
  name_at : (j : ℕ) → j < length columns → get_or names j [] ≡ name_of (get_or columns j Processors)
  name_at j inside = ap (λ l. get_or l j []) heads ∙ get_or_default (map name_of columns) j [] (name_of Processors) (omega (arith, length-map columns name_of)) ∙ get_or-map name_of columns j Processors

  conforms_from : (j : ℕ) → FitsAt columns fields j → (c : Column) → get_or names j [] ≡ name_of c → IsOfKind (kind_of c) (get_or fields j [])
  conforms_from j fit c is = elim (cases_lt j (length columns)) [
    | inl l ↦ let same : get_or columns j Processors ≡ c = one_column _ c (sym (name_at j l) ∙ is) in subst (λ d. IsOfKind (kind_of d) (get_or fields j [])) same fit
    | inr m ↦ absurd (named c (sym (get_or_past names j [] (omega (arith, ap length heads, length-map columns name_of))) ∙ is))
  ]

  conforms_to : (j : ℕ) → j < length columns → ((c : Column) → get_or names j [] ≡ name_of c → IsOfKind (kind_of c) (get_or fields j [])) → FitsAt columns fields j
  conforms_to j inside h = h (get_or columns j Processors) (name_at j inside)

-- a text by its line of names and its value lines
module _ (form : Form) (first : List ℕ) (ls : List (List ℕ)) where
  abbrev pub seen : List (List (List ℕ))
  seen = fields_in first ∷ map fields_in ls

  abbrev line : ℕ → List (List ℕ)
  line k = fields_in (get_or ls (k - 2) [])

  first_at : nth seen 1 [] ≡ fields_in first
  first_at = nth_next seen 0 []

  within : (k : ℕ) → IsValueLine seen k → k - 2 < length ls
  within k v = omega (arith, v.0, v.1, length-map ls fields_in)

  line_at : (k : ℕ) → IsValueLine seen k → nth seen k [] ≡ line k
  line_at k v =
      nth_at seen k [] (omega (arith, v.0))
      ∙ ap (λ i. get_or seen i []) (let e : k - 1 ≡ suc (k - 2) = omega (arith, v.0) in e)
      ∙ get_or_default (map fields_in ls) (k - 2) [] (fields_in []) (omega (arith, within k v, length-map ls fields_in))
      ∙ get_or-map fields_in ls (k - 2) []

  module _ (columns : List Column) (heads : Heads form (fields_in first) columns) where
    width : length (nth seen 1 []) ≡ length columns
    width = ap length (first_at ∙ heads.named) ∙ length-map columns name_of

    count_from : (k : ℕ) → IsValueLine seen k → length (line k) ≡ length columns → SameCount seen k
    count_from k v e = ap length (line_at k v) ∙ e ∙ sym width

    count_to : (k : ℕ) → IsValueLine seen k → SameCount seen k → length (line k) ≡ length columns
    count_to k v e = sym (ap length (line_at k v)) ∙ e ∙ width

    field_at : (k j : ℕ) → IsValueLine seen k → 1 ≤ j → field seen k j ≡ get_or (line k) (j - 1) []
    field_at k j v low = nth_at (nth seen k []) j [] low ∙ ap (λ l. get_or l (j - 1) []) (line_at k v)

    heading_at : (j : ℕ) → 1 ≤ j → field seen 1 j ≡ get_or (fields_in first) (j - 1) []
    heading_at j low = nth_at (nth seen 1 []) j [] low ∙ ap (λ l. get_or l (j - 1) []) first_at

    kind_from : (k j : ℕ) → IsValueLine seen k → 1 ≤ j → FitsAt columns (line k) (j - 1) → Conforms seen k j
    kind_from k j v low fit = λ c is. subst (IsOfKind (kind_of c)) (sym (field_at k j v low)) (conforms_from (fields_in first) (line k) columns heads.named (j - 1) fit c (sym (heading_at j low) ∙ is))

    kind_to : (k j : ℕ) → IsValueLine seen k → 1 ≤ j → j - 1 < length columns → Conforms seen k j → FitsAt columns (line k) (j - 1)
    kind_to k j v low inside h = conforms_to (fields_in first) (line k) columns heads.named (j - 1) inside (λ c is. subst (IsOfKind (kind_of c)) (field_at k j v low) (h c (heading_at j low ∙ is)))

    -- where the lines and fields that are asked fit, no question of theirs fails
    none_fails : (number : ℕ) (f : Fault) → is_last f ≡ 0 → ((k : ℕ) → IsValueLine seen k → (place_of f).line ≡ k → (place_of f).field ≡ 0 → SameCount seen k) → ((k j : ℕ) → IsValueLine seen k → 1 ≤ j → j ≤ length (nth seen k []) → (place_of f).line ≡ k → (place_of f).field ≡ j → Conforms seen k j) → FailsIn form number seen f → ⊥
    none_fails number (BadNames p) early counts kinds m = m.1 (columns, subst (λ l. Heads form l columns) (sym first_at) heads)
    none_fails number (BadFieldCount p) early counts kinds m = m.3 (counts m.0 m.2 (ap (λ (q : Place). q.line) m.1) (ap (λ (q : Place). q.field) m.1))
    none_fails number (BadField p) early counts kinds m = m.6 (kinds m.0 m.1 m.3 m.4 m.5 (ap (λ (q : Place). q.line) m.2) (ap (λ (q : Place). q.field) m.2))
    none_fails number (BadLineCount p) early counts kinds m = absurd (omega (arith, early))
    none_fails number f early counts kinds m = m

-- what comes before a fault of questions 1 to 4
earlier : (late line field l f : ℕ) → (late < 0) ⊎ ((late ≡ 0) × ((line < l) ⊎ ((line ≡ l) × (field < f)))) → (late ≡ 0) × ((line < l) ⊎ ((line ≡ l) × (field < f)))
earlier late line field l f (inl x) = absurd (omega arith)
earlier late line field l f (inr y) = y

same_test : (n m : ℕ) → m ≡ suc n → (n == 0) ≡ (m == 1)
same_test n m e = grind (arith, nat_tests)

pub text_first : (form : Form) (number : ℕ) (text : List ℕ) → (IsSized text → ⊥) → IsFirst form number text (BadText (place number 0 0))
text_first form number text bad = ((refl, bad), λ other b m. let e = earlier (is_last other) (place_of other).line (place_of other).field 0 0 b in elim e.1 [ inl l ↦ omega arith | inr l ↦ omega (arith, l.1) ])

module _ (form : Form) (number : ℕ) (text : List ℕ) (first : List ℕ) (ls : List (List ℕ)) (sized : IsSized text) (is_text : IsText text (seen form first ls)) where
  abbrev all : List (List (List ℕ))
  all = seen form first ls

  in_all : (f : Fault) → Fails form number text f → FailsIn form number all f
  in_all (BadText p) m = absurd (m.1 sized)
  in_all (BadNames p) m = subst (λ l. FailsIn form number l (BadNames p)) (one_text text m.0 all m.1 is_text) m.2
  in_all (BadFieldCount p) m = subst (λ l. FailsIn form number l (BadFieldCount p)) (one_text text m.0 all m.1 is_text) m.2
  in_all (BadField p) m = subst (λ l. FailsIn form number l (BadField p)) (one_text text m.0 all m.1 is_text) m.2
  in_all (BadLineCount p) m = subst (λ l. FailsIn form number l (BadLineCount p)) (one_text text m.0 all m.1 is_text) m.2
  in_all f m = m.2

  in_line_0 : (f : Fault) → is_last f ≡ 0 → (place_of f).line < 1 → FailsIn form number all f → ⊥
  in_line_0 (BadNames p) early low m = omega (arith, ap (λ (q : Place). q.line) m.0)
  in_line_0 (BadFieldCount p) early low m = omega (arith, ap (λ (q : Place). q.line) m.1, m.2.0)
  in_line_0 (BadField p) early low m = omega (arith, ap (λ (q : Place). q.line) m.2, m.3.0)
  in_line_0 (BadLineCount p) early low m = omega (arith, early)
  in_line_0 f early low m = m

  -- line 1 has not the names
  pub names_first : (HasNames form (fields_in first) → ⊥) → IsFirst form number text (BadNames (place number 1 0))
  names_first bad = (
    (all, is_text, (refl, λ h. bad (subst (HasNames form) (first_at form first ls) h))),
    λ other b m.
        let e = earlier (is_last other) (place_of other).line (place_of other).field 1 0 b in
        elim e.1 [ inl l ↦ in_line_0 other e.0 l (in_all other m) | inr l ↦ omega (arith, l.1) ],
  )

  module _ (columns : List Column) (heads : Heads form (fields_in first) columns) where
    value_line : (i : ℕ) → i < length ls → IsValueLine all (i + 2)
    value_line i inside = (omega arith, omega (arith, length-map ls fields_in))

    count_before : (i : ℕ) → FirstFit columns ls i → (k : ℕ) → k < i + 2 → IsValueLine all k → SameCount all k
    count_before i fit k l v = count_from form first ls columns heads k v (fit (k - 2) (omega (arith, v.0))).0

    kind_before : (i : ℕ) → FirstFit columns ls i → (k j : ℕ) → k < i + 2 → IsValueLine all k → 1 ≤ j → j ≤ length (nth all k []) → Conforms all k j
    kind_before i fit k j l v low high =
        let f = fit (k - 2) (omega (arith, v.0)) in
        kind_from form first ls columns heads k j v low (f.1 (j - 1) (omega (arith, f.0, ap length (line_at form first ls k v))))

    -- a value line is the first of which a question fails
    line_first : (i : ℕ) → i < length ls → FirstFit columns ls i → (fault : Fault) → LineFails number columns (i + 2) (line form first ls (i + 2)) fault → IsFirst form number text fault
    line_first i inside fit fault (inl m) =
        let v = value_line i inside in
        subst (IsFirst form number text) (sym m.1) (
          (all, is_text, (i + 2, refl, v, λ same. m.0 (count_to form first ls columns heads (i + 2) v same))),
          λ other b failing.
              let e = earlier (is_last other) (place_of other).line (place_of other).field (i + 2) 0 b in
              let low : (place_of other).line < i + 2 = elim e.1 [ inl l ↦ l | inr l ↦ absurd (omega (arith, l.1)) ] in
              none_fails form first ls columns heads number other e.0
              (λ k w line_is field_is. count_before i fit k (omega arith) w)
              (λ k j w one more line_is field_is. kind_before i fit k j (omega arith) w one more)
              (in_all other failing),
        )
    line_first i inside fit fault (inr m) =
        let v = value_line i inside in
        let j = m.1 in
        let long : length (nth all (i + 2) []) ≡ length columns = ap length (line_at form first ls (i + 2) v) ∙ m.0 in
        subst (IsFirst form number text) (sym m.2) (
          (all, is_text, (i + 2, j + 1, refl, v, omega arith, omega (arith, m.3.0), λ conforms. m.3.2 (subst (FitsAt columns (line form first ls (i + 2))) (let e : j + 1 - 1 ≡ j = omega arith in e) (kind_to form first ls columns heads (i + 2) (j + 1) v (omega arith) (omega (arith, m.3.0)) conforms)))),
          λ other b failing.
              let e = earlier (is_last other) (place_of other).line (place_of other).field (i + 2) (j + 1) b in
              none_fails form first ls columns heads number other e.0
              (λ k w line_is field_is. elim e.1 [
                | inl l ↦ count_before i fit k (omega arith) w
                | inr l ↦ subst (SameCount all) (let q : i + 2 ≡ k = omega (arith, l.0) in q) (count_from form first ls columns heads (i + 2) v m.0)
              ])
              (λ k n w one more line_is field_is. elim e.1 [
                | inl l ↦ kind_before i fit k n (omega arith) w one more
                | inr l ↦ subst (λ q. Conforms all q n) (let q : i + 2 ≡ k = omega (arith, l.0) in q) (kind_from form first ls columns heads (i + 2) n v one (m.3.1 (n - 1) (omega (arith, l.1))))
              ])
              (in_all other failing),
        )

    place_last : (f : Fault) → is_last f ≡ 1 → FailsIn form number all f → (place_of f ≡ place number (line_at_fault form all) 0)
    place_last (BadLineCount p) late m = m.0
    place_last f late m = absurd (omega (arith, late))

    -- a question of the value lines fails
    pub lines_first : (fault : Fault) → LinesFail form number columns ls fault → IsFirst form number text fault
    lines_first fault (inl m) = line_first m.0 m.1 m.2 fault (subst (λ n. LineFails number columns (m.0 + 2) (fields_in (get_or ls n [])) fault) (let e : m.0 ≡ m.0 + 2 - 2 = omega arith in e) m.3)
    lines_first fault (inr m) =
        let at : place number (cond (length ls == 0) 1 (most_of form + 2)) 0 ≡ place number (line_at_fault form all) 0 = ap (λ b. place number (cond b 1 (most_of form + 2)) 0) (same_test (length ls) (length all) (omega (arith, length-map ls fields_in))) in
        subst (IsFirst form number text) (sym m.2) (
          (all, is_text, (at, λ few. m.1 (subst (AllowedCount form) (let e : length all - 1 ≡ length ls = omega (arith, length-map ls fields_in) in e) few))),
          λ other b failing. elim b [
            | inl early ↦ none_fails form first ls columns heads number other (omega arith)
                (λ k w line_is field_is. count_before (length ls) m.0 k (omega (arith, w.1, length-map ls fields_in)) w)
                (λ k j w one more line_is field_is. kind_before (length ls) m.0 k j (omega (arith, w.1, length-map ls fields_in)) w one more)
                (in_all other failing)
            | inr late ↦
                let here = place_last other late.0 (in_all other failing) in
                elim late.1 [
                  | inl l ↦ omega (arith, ap (λ (q : Place). q.line) here, ap (λ (q : Place). q.line) at)
                  | inr l ↦ omega (arith, l.1)
                ]
          ],
        )

    -- every question holds
    pub sheet_from : FirstFit columns ls (length ls) → AllowedCount form (length ls) → IsSheet form text all columns
    sheet_from fit few = record {
      sized = sized;
      cut = is_text;
      heads = subst (λ l. Heads form l columns) (sym (first_at form first ls)) heads;
      counts = λ k v. count_before (length ls) fit k (omega (arith, v.1, length-map ls fields_in)) v;
      kinds = λ k j v one more. kind_before (length ls) fit k j (omega (arith, v.1, length-map ls fields_in)) v one more;
      allowed = subst (AllowedCount form) (let e : length ls ≡ length all - 1 = omega (arith, length-map ls fields_in) in e) few;
    }

-- a text that is a sheet has no fault
pub sheet_has_no_fault : (form : Form) (number : ℕ) (text : List ℕ) (lines : List (List (List ℕ))) (columns : List Column) → IsSheet form text lines columns → (f : Fault) → Fails form number text f → ⊥
sheet_has_no_fault form number text lines columns s (BadText p) m = m.1 s.sized
sheet_has_no_fault form number text lines columns s (BadNames p) m = (subst (λ l. FailsIn form number l (BadNames p)) (one_text text m.0 lines m.1 s.cut) m.2).1 (columns, s.heads)
sheet_has_no_fault form number text lines columns s (BadFieldCount p) m = let n = subst (λ l. FailsIn form number l (BadFieldCount p)) (one_text text m.0 lines m.1 s.cut) m.2 in n.3 (s.counts n.0 n.2)
sheet_has_no_fault form number text lines columns s (BadField p) m = let n = subst (λ l. FailsIn form number l (BadField p)) (one_text text m.0 lines m.1 s.cut) m.2 in n.6 (s.kinds n.0 n.1 n.3 n.4 n.5)
sheet_has_no_fault form number text lines columns s (BadLineCount p) m = (subst (λ l. FailsIn form number l (BadLineCount p)) (one_text text m.0 lines m.1 s.cut) m.2).1 s.allowed
sheet_has_no_fault form number text lines columns s f m = m.2
