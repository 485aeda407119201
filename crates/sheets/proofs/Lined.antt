-- The value lines, one after another.
use Rattle.std.proofs.Common.{◌≡◌, ℕ, ◌+◌, ◌<◌, ◌≤◌, ◌==◌, cond, List, [], ◌∷◌, ◌++◌, map, length, get_or, set, take, drop, sym, ap, subst, ◌∙◌, below_more, inl, inr, arith}
use Rattle.std.proofs.lemmas.List.{length-drop, length-map, length-take-le, get_or-take, get_or_default, map-append, take_more, take_more_set}
use Rattle.std.proofs.lemmas.Bool.Decides.{nat_tests}
use denote.Bor.{Bor}
use Rattle.table.specs.Places.{nth}
use Rattle.table.proofs.Placed.{nth_next}
use Rattle.table.specs.declared.fault.Fault.{Fault}
use Rattle.table.specs.declared.fault.Fault.TheVariants.{BadLineCount}
use Rattle.table.specs.declared.fault.Place.{Place}
use Rattle.sheets.specs.declared.form.Column.{Column}
use Rattle.sheets.specs.declared.form.Form.{Form}
use Rattle.sheets.specs.declared.form.Form.TheVariants.{Board, Tasks, Answer}
use Rattle.sheets.specs.Forms.{most_lines, most_of, place}
use Rattle.sheets.specs.Reading.{AllowedCount}
use Rattle.sheets.specs.Lines.{Fits, LineFails, FirstFit, LinesFail}
use Rattle.sheets.specs.Texts.{fields_in}
use Rattle.sheets.proofs.Parts.{next_left, get_or-map}

module _ (form : Form) (number : ℕ) (columns : List Column) (lines : List (List ℕ)) (i : ℕ) (fit : FirstFit columns lines i) (bytes : List ℕ) (rest : List (List ℕ)) (e : drop i lines ≡ bytes ∷ rest) where
  here : get_or lines i [] ≡ bytes
  here = (next_left lines i [] bytes rest e).0

  -- a question of the line that is asked next fails
  pub fails_here : (line : ℕ) (fault : Fault) → line ≡ i + 2 → LineFails number columns line (fields_in bytes) fault → LinesFail form number columns lines fault
  fails_here line fault is m =
      inl (i, omega (arith, ap length e, length-drop i lines), fit, subst (λ b. LineFails number columns (i + 2) (fields_in b) fault) (sym here) (subst (λ n. LineFails number columns n (fields_in bytes) fault) is m))

  -- or the line fits
  pub fit_here : Fits columns (fields_in bytes) → FirstFit columns lines (i + 1)
  fit_here h = below_more _ _ fit (subst (λ b. Fits columns (fields_in b)) (sym here) h)

-- the lines that are kept, with one more
abbrev now_of : Bor (List ℕ) → List ℕ
now_of line = line.now

module _ (kept : List (Bor (List ℕ))) (lines : List (List ℕ)) (n : ℕ) where
  pub kept_more : (line : Bor (List ℕ)) → n < length kept → n < length lines → get_or lines n [] ≡ line.now → map now_of (take n kept) ≡ take n lines → map now_of (take (n + 1) (set kept n line)) ≡ take (n + 1) lines
  kept_more line inside here same is =
      ap (map now_of) (take_more_set kept n line inside)
      ∙ map-append now_of (take n kept) (line ∷ [])
      ∙ ap (λ l. l ++ line.now ∷ []) is
      ∙ ap (λ (l : List ℕ). take n lines ++ l ∷ []) (sym same)
      ∙ sym (take_more lines n [] here)

-- each value line fits, but their number is not allowed
pub count_fails : (form : Form) (number : ℕ) (columns : List Column) (lines : List (List ℕ)) (n : ℕ) (p : Place) → FirstFit columns lines n → n ≡ length lines → (AllowedCount form n → ⊥) → p ≡ place number (cond (n == 0) 1 (most_of form + 2)) 0 → LinesFail form number columns lines (BadLineCount p)
count_fails form number columns lines n p fit all bad is = let same = λ (m : ℕ). (FirstFit columns lines m × (AllowedCount form m → ⊥) × (BadLineCount p ≡ BadLineCount (place number (cond (m == 0) 1 (most_of form + 2)) 0))) in inr (subst same all (fit, bad, ap BadLineCount is))

pub few_lines : (form : Form) → most_of form ≤ most_lines
few_lines Board = omega arith
few_lines Tasks = omega arith
few_lines Answer = omega arith

-- the line of the fault where there are too many
pub line_past : (n most : ℕ) → (n ≡ 0 → ⊥) → most + 2 ≡ cond (n == 0) 1 (most + 2)
line_past n most some = grind (arith, nat_tests)

-- a kept line by its number
pub kept_at : (kept : List (Bor (List ℕ))) (n place k : ℕ) (d : Bor (List ℕ)) → k ≡ place + 1 → place < n → n ≤ length kept → (1 ≤ k) × (k ≤ length (map now_of (take n kept))) × ((get_or kept place d).now ≡ nth (map now_of (take n kept)) k [])
kept_at kept n place k d is inside short =
    let long : length (map now_of (take n kept)) ≡ n = length-map (take n kept) now_of ∙ length-take-le n kept short in (
      omega arith,
      omega arith,
      ap now_of (sym (get_or-take n kept place d inside)) ∙ sym (get_or-map now_of (take n kept) place d)
          ∙ get_or_default (map now_of (take n kept)) place (now_of d) [] (omega arith)
          ∙ sym (nth_next (map now_of (take n kept)) place []) ∙ ap (λ i. nth (map now_of (take n kept)) i []) (sym is),
    )
