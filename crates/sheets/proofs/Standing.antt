-- Each value line of a sheet that was read has a field under each column.
use Rattle.std.proofs.Common.{◌≡◌, ℕ, ◌+◌, ◌-◌, ◌<◌, Bool, List, [], map, length, drop, get_or, Result, Ok, Err, bytes_eq, sym, ap, subst, ◌∙◌, inl, inr, arith}
use Rattle.std.specs.List.{Contains, position_or_len}
use Rattle.std.specs.Result.{IfOk}
use Rattle.std.proofs.lemmas.Bool.{cases_lt, false≢true}
use Rattle.std.proofs.lemmas.List.{length-map, length-drop, get_or-drop, get_or_default}
use Rattle.std.proofs.lemmas.List.Elements.{All-contains}
use Rattle.std.proofs.lemmas.List.Sums.{fails_before_first, passes_at_first}
use Rattle.std.proofs.lemmas.Slice.Eq.{bytes_eq-Decides}
use Rattle.table.specs.Places.{nth}
use Rattle.table.specs.declared.fault.Fault.{Fault}
use Rattle.table.proofs.Placed.{nth_at, nth_next}
use Rattle.sheets.specs.declared.form.Column.{Column}
use Rattle.sheets.specs.declared.form.Form.{Form}
use Rattle.sheets.specs.declared.sheet.Sheet.{Sheet}
use Rattle.sheets.specs.Forms.{name_of, kind_of, columns_of}
use Rattle.sheets.specs.Reading.{IsOfKind, IsValueLine, IsSheet, field}
use Rattle.sheets.specs.Sheets.{values_of, left_of, Shows, IsFull, ReadsText}
use Rattle.sheets.proofs.Columns.{one_column}
use Rattle.sheets.proofs.Parts.{get_or-map}

-- a column of a list stands in it where it was looked for
module _ (columns : List Column) (c : Column) (there : Contains columns c) where
  abbrev same : Column → Bool
  same d = bytes_eq (name_of d) (name_of c)

  abbrev at : ℕ
  at = position_or_len same columns

  found : at < length columns
  found = elim (cases_lt there.0 at) [
    | inl l ↦
        let no = fails_before_first same columns there.0 c l in
        absurd (false≢true (sym no ∙ (bytes_eq-Decides (name_of (get_or columns there.0 c)) (name_of c)).1 (ap name_of there.2)))
    | inr m ↦ omega (arith, there.1)
  ]

  is_column : get_or columns at c ≡ c
  is_column = one_column (get_or columns at c) c ((bytes_eq-Decides (name_of (get_or columns at c)) (name_of c)).0 (passes_at_first same columns c found))

module _ (form : Form) (number : ℕ) (text : List ℕ) (lines : List (List (List ℕ))) (columns : List Column) (sheet : IsSheet form text lines columns) where
  -- under each column stands its name
  heading : (c : Column) (there : Contains columns c) → field lines 1 (at columns c there + 1) ≡ name_of c
  heading c there =
      let j = at columns c there in
      let inside = found columns c there in
      nth_next (nth lines 1 []) j [] ∙ ap (λ l. get_or l j []) sheet.heads.named
      ∙ get_or_default (map name_of columns) j [] (name_of c) (omega (arith, length-map columns name_of))
      ∙ get_or-map name_of columns j c ∙ ap name_of (is_column columns c there)

  full : (s : Sheet) → Shows form number lines columns s → IsFull s
  full s shows k c low high of_form =
      let there = All-contains (Contains columns) (columns_of form) c sheet.heads.each (subst (λ f. Contains (columns_of f) c) shows.0 of_form) in
      let j = at columns c there in
      let left : left_of s c ≡ j = ap (position_or_len (same columns c there)) shows.2 in
      let line : nth (values_of s) k [] ≡ nth lines (k + 1) [] =
      ap (λ v. nth v k []) shows.3 ∙ nth_at (drop 1 lines) k [] low ∙ get_or-drop 1 lines (k - 1) [] ∙ ap (λ i. get_or lines i []) (let e : 1 + (k - 1) ≡ k = omega arith in e) ∙ sym (nth_next lines k []) in
      let value : IsValueLine lines (k + 1) = (omega arith, omega (arith, high, ap length shows.3, length-drop 1 lines)) in
      let wide : length (nth lines (k + 1) []) ≡ length columns = sheet.counts (k + 1) value ∙ ap length sheet.heads.named ∙ length-map columns name_of in
      let inside = found columns c there in (
        (low, high, omega (arith, left, ap length line, wide, inside)),
        subst (IsOfKind (kind_of c)) (sym (ap (λ i. nth (nth (values_of s) k []) (i + 1) []) left ∙ ap (λ l. nth l (j + 1) []) line))
            (sheet.kinds (k + 1) (j + 1) value (omega arith) (omega (arith, wide, inside)) c (heading c there)),
      )

-- what was read is full
pub read_is_full : (form : Form) (number : ℕ) (text : List ℕ) (r : Result Sheet Fault) → ReadsText form number text r → IfOk r IsFull
read_is_full form number text (Ok s) h = full form number text h.0 h.1 h.2 s h.3
read_is_full form number text (Err fault) h = tt
