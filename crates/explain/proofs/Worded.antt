-- Lines as they are put together, part by part.
use Rattle.std.proofs.Common.{◌≡◌, ℕ, List, ◌++◌, Some, codes, decimal, sym, ap, ◌∙◌, append_assoc}
use Rattle.table.specs.declared.fault.Place.{Place}
use Rattle.table.specs.declared.fault.Fault.{Fault}
use Rattle.table.specs.Faults.{number_of, place_of, words_of}
use Rattle.sheets.specs.declared.form.Form.{Form}
use Rattle.explain.specs.Files.{file_name, form_at}
use Rattle.explain.specs.Explained.{numbered, place_words, fault_line}

-- four parts in a row
four : (a b c d : List ℕ) → a ++ (b ++ (c ++ d)) ≡ a ++ b ++ c ++ d
four a b c d = sym (append_assoc a b (c ++ d)) ∙ sym (append_assoc (a ++ b) c d)

-- the words of a place, with its file, its line and its field
pub placed : (place : Place) (form : Form) (file line field : List ℕ) → form_at place.sheet ≡ Some form → file ≡ file_name form → line ≡ numbered (codes ", line ") place.line → field ≡ numbered (codes ", field ") place.field → file ++ (line ++ (field ++ codes ": ")) ≡ place_words (form_at place.sheet) place
placed place form file line field is a b c = rw (is, a, b, c) (four (file_name form) (numbered (codes ", line ") place.line) (numbered (codes ", field ") place.field) (codes ": "))

-- the line of a fault, from its parts
pub faulted : (fault : Fault) (place : List ℕ) (number : ℕ) → place ≡ place_words (form_at (place_of fault).sheet) (place_of fault) → number ≡ number_of fault → place ++ (words_of fault ++ (codes " (question " ++ (decimal number ++ codes ")"))) ≡ fault_line fault
faulted fault place number a b = rw (a, b) (
    let p = place_words (form_at (place_of fault).sheet) (place_of fault) in
    let w = words_of fault in
    let q = codes " (question " in
    let n = decimal (number_of fault) in
    ap (λ l. p ++ l) (four w q n (codes ")")) ∙ sym (append_assoc p (w ++ q ++ n) (codes ")")) ∙ ap (λ l. l ++ codes ")") (sym (append_assoc p (w ++ q) n) ∙ ap (λ l. l ++ n) (sym (append_assoc p w q)))
    )
