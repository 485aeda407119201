-- Each text that is read has at most 4,097 bytes, and none but those of a file.
use Rattle.std.specs.Prelude.{IfOk, OnOk}
use Rattle.std.proofs.Common.{◌≡◌, ℕ, [], List, Option, None, Some, Result, Ok, Err, inl, inr, rules}
use Rattle.std.specs.declared.io.Error.{Error}
use Rattle.folder.specs.declared.text.Text.{Text}
use Rattle.folder.specs.Folders.{TextOf, IsSheetText, IsText}

-- a text of no byte
none : (text : Text) → text.bytes.items ≡ [] → IsText text
none text empty = record { most = search rules; none = λ other. empty }

module _ {S : Type 0} (remaining : S → Option (List ℕ)) (fails : S → Error → Type 0) where
  pub is_text : (opened : Result (Option S) Error) (text : Text) → TextOf remaining fails opened text → IsText text
  is_text (Err error) text lost = none text lost.bytes
  is_text (Ok None) text missing = none text missing.bytes
  is_text (Ok (Some stream)) text (inl start) = record { most = start.most; none = λ other. absurd (other start.source) }
  is_text (Ok (Some stream)) text (inr (error, failed, lost)) = none text lost.bytes

  pub sheet_is_text : {opens : List ℕ → Result (Option S) Error → Type 0} {folder : List ℕ} {form : _} (text : Text) → IsSheetText remaining fails opens folder form text → IsText text
  sheet_is_text text sheet = is_text sheet.opened text sheet.is

-- what is so of a value that is given, and what is so where one is given
pub and_on_ok : {A E : Type 0} (r : Result A E) (P : A → Type 0) (Q : Type 0) → IfOk r P → OnOk r Q → IfOk r (λ a. P a × Q)
and_on_ok (Ok a) P Q p q = (p, q)
and_on_ok (Err e) P Q p q = tt
