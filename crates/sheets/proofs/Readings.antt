-- What reading gives, from what its parts give.
use Rattle.std.proofs.Common.{◌≡◌, ℕ, ◌≤◌, List, [], ◌∷◌, map, length, Result, Ok, Err, refl, sym, ap, subst, ◌∙◌, arith}
use Rattle.std.specs.Result.{IsOk}
use Rattle.table.specs.declared.fault.Fault.{Fault}
use Rattle.table.specs.declared.fault.Fault.TheVariants.{BadNames}
use Rattle.sheets.specs.declared.form.Column.{Column}
use Rattle.sheets.specs.declared.form.Form.{Form}
use Rattle.sheets.specs.declared.sheet.Sheet.{Sheet}
use Rattle.sheets.specs.Forms.{first_columns, place}
use Rattle.sheets.specs.Texts.{fields_in, IsText, parts}
use Rattle.sheets.specs.Reading.{IsSized, Heads, HasNames, IsFirst, IsSheet}
use Rattle.sheets.specs.Lines.{ReadsLines}
use Rattle.sheets.specs.Sheets.{ReadsText}
use Rattle.sheets.proofs.Cuts.{ended, some_part, cut_is_text}
use Rattle.sheets.proofs.Firsts.{seen, names_first, lines_first, sheet_from, sheet_has_no_fault}

module _ (form : Form) (number : ℕ) (text : List ℕ) (body : List ℕ) (sized : IsSized text) (whole : text ≡ ended body) where
  is_text : (first : List ℕ) (ls : List (List ℕ)) → parts 10 body ≡ first ∷ ls → IsText text (seen form first ls)
  is_text first ls e = subst (λ t. IsText t (seen form first ls)) (sym whole) (subst (IsText (ended body)) (ap (map fields_in) e) (cut_is_text body))

  -- line 1 has not the names
  pub no_names : ((names : List ℕ) (rest : List (List ℕ)) → parts 10 body ≡ names ∷ rest → HasNames form (fields_in names) → ⊥) → IsFirst form number text (BadNames (place number 1 0))
  no_names bad = go (parts 10 body) refl (some_part 10 body) where
    go : (ps : List (List ℕ)) → parts 10 body ≡ ps → 1 ≤ length ps → IsFirst form number text (BadNames (place number 1 0))
    go [] e some = absurd (omega arith)
    go (first ∷ ls) e some = names_first form number text first ls sized (is_text first ls e) (bad first ls e)

  -- the value lines are read
  pub values_read : (first : List ℕ) (ls : List (List ℕ)) → parts 10 body ≡ first ∷ ls → (columns : List Column) → Heads form (fields_in first) (first_columns form columns) → (r : Result Sheet Fault) → ReadsLines form number columns ls r → ReadsText form number text r
  values_read first ls e columns heads (Ok s) h = (
    seen form first ls,
    first_columns form columns,
    sheet_from form number text first ls sized (is_text first ls e) (first_columns form columns) heads h.4 h.5,
    (h.0, h.1, ap (λ (f : Form). first_columns f s.columns) h.0 ∙ ap (first_columns form) h.2, ap (map fields_in) h.3),
  )
  values_read first ls e columns heads (Err fault) h = lines_first form number text first ls sized (is_text first ls e) (first_columns form columns) heads fault h

-- what is a sheet is read
pub sheet_is_read : (form : Form) (number : ℕ) (text : List ℕ) (r : Result Sheet Fault) → ReadsText form number text r → (lines : List (List (List ℕ))) (columns : List Column) → IsSheet form text lines columns → IsOk r
sheet_is_read form number text (Ok s) h lines columns sheet = refl
sheet_is_read form number text (Err fault) h lines columns sheet = absurd (sheet_has_no_fault form number text lines columns sheet fault h.0)
