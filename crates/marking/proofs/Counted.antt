-- What a text that was read has.
use Rattle.std.proofs.Common.{◌≡◌, ℕ, List, length, Ok, sym, ap, subst, ◌∙◌, arith}
use Rattle.std.proofs.lemmas.List.{length-drop}
use Rattle.sheets.specs.declared.form.Form.{Form}
use Rattle.sheets.specs.declared.form.Form.TheVariants.{Board}
use Rattle.sheets.specs.declared.sheet.Sheet.{Sheet}
use Rattle.sheets.specs.Reading.{AllowedCount}
use Rattle.sheets.specs.Sheets.{ReadsText}
use Rattle.sheets.specs.Pairs.{count_of}

module _ (form : Form) (number : ℕ) (text : List ℕ) (s : Sheet) (read : ReadsText form number text (Ok s)) where
  pub has_form : s.form ≡ form
  has_form = read.3.0

  pub allowed_lines : AllowedCount form (count_of s)
  allowed_lines = subst (AllowedCount form) (sym (ap length read.3.3 ∙ length-drop 1 read.0)) read.2.allowed

-- a board has one value line
pub one_line : (number : ℕ) (text : List ℕ) (s : Sheet) → ReadsText Board number text (Ok s) → count_of s ≡ 1
one_line number text s read = let some = allowed_lines Board number text s read in omega (arith, some.0, some.1)
