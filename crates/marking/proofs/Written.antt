-- Lines as they are written, part by part.
use Rattle.std.proofs.Common.{◌≡◌, ℕ, ◌+◌, ◌<◌, List, [], ◌∷◌, ◌++◌, length, get_or, take, refl, ap, sym, ◌∙◌, append_assoc, append-nil, flat_map, drop, ◌-◌, ◌≤◌, arith, add-one, decimal}
use Rattle.std.proofs.lemmas.List.{flat_map_more, take_more, take_rest, take_all}
use Rattle.std.proofs.lemmas.List.Concat.{flat_map-append}
use Rattle.std.specs.Borrow.{Bor}
use Rattle.sheets.specs.Texts.{line_of, text_of}
use Rattle.sheets.proofs.Parts.{get_or-map}
use Rattle.table.specs.Places.{nth}
use Rattle.table.proofs.Placed.{nth_next}
use Rattle.marking.specs.declared.report.Level.{Level}
use Rattle.marking.specs.declared.report.Report.{Report}
use Rattle.marking.specs.Reports.{names_of, estimates_of}
use Rattle.marking.specs.Rendered.{texts_of, task_on, level_line, level_lines}

-- fields with a space before each
abbrev pub spaced : List (Bor (List ℕ)) → List ℕ
spaced fields = flat_map (λ field. 32 ∷ field.now) fields

-- a line is its first field, and the others with a space before each
line-spaced : (first : Bor (List ℕ)) (others : List (Bor (List ℕ))) → line_of (first.now ∷ texts_of others) ≡ first.now ++ spaced others
line-spaced first [] = sym (append-nil first.now)
line-spaced first (second ∷ others) = ap (λ l. first.now ++ 32 ∷ l) (line-spaced second others)

-- the fields after the first, as a part of the list
abbrev pub others_of : List (Bor (List ℕ)) → List (Bor (List ℕ))
others_of fields = take (length fields - 1) (drop 1 fields)

others-are : (first : Bor (List ℕ)) (others : List (Bor (List ℕ))) → others_of (first ∷ others) ≡ others
others-are first others = take_rest (first ∷ others) 1

-- a line without a field, and one whose fields are all written
pub line-empty : (fields : List (Bor (List ℕ))) → length fields < 1 → line_of (texts_of fields) ≡ []
line-empty [] none = refl
line-empty (first ∷ others) none = absurd (omega (arith, none))

line-whole : (fields : List (Bor (List ℕ))) (i : ℕ) (d : Bor (List ℕ)) → 1 ≤ length fields → length (others_of fields) ≤ i → (get_or fields 0 d).now ++ spaced (take i (others_of fields)) ≡ line_of (texts_of fields)
line-whole [] i d some all = absurd (omega (arith, some))
line-whole (first ∷ others) i d some all =
    ap (λ l. first.now ++ spaced l) (take_all i (others_of (first ∷ others)) all ∙ others-are first others)
    ∙ sym (line-spaced first others)

pub line-written : (out before more : List ℕ) (fields : List (Bor (List ℕ))) (i : ℕ) (d : Bor (List ℕ)) → 1 ≤ length fields → length (others_of fields) ≤ i → before ≡ out ++ (get_or fields 0 d).now → more ≡ before ++ spaced (take i (others_of fields)) → more ≡ out ++ line_of (texts_of fields)
line-written out before more fields i d some all e f =
    f
    ∙ ap (λ l. l ++ spaced (take i (others_of fields))) e
    ∙ append_assoc out (get_or fields 0 d).now (spaced (take i (others_of fields)))
    ∙ ap (λ l. out ++ l) (line-whole fields i d some all)

-- one field more
pub spaced-more : (out before more : List ℕ) (fields : List (Bor (List ℕ))) (i : ℕ) (d : Bor (List ℕ)) → i < length fields → before ≡ out ++ spaced (take i fields) → more ≡ before ++ 32 ∷ [] → more ++ (get_or fields i d).now ≡ out ++ spaced (take (i + 1) fields)
spaced-more out before more fields i d h e f =
    let field = get_or fields i d in
    ap (λ l. l ++ field.now) f
    ∙ append_assoc before (32 ∷ []) field.now
    ∙ ap (λ l. l ++ 32 ∷ field.now) e
    ∙ flat_map_more (λ f. 32 ∷ f.now) out (take i fields) field
    ∙ ap (λ l. out ++ spaced l) (sym (take_more fields i d h))

-- one line more
pub text-one : (lines : List (List (List ℕ))) (line : List (List ℕ)) → text_of lines ++ (line_of line ++ 10 ∷ []) ≡ text_of (lines ++ line ∷ [])
text-one lines line =
    ap (λ l. text_of lines ++ l) (sym (append-nil (line_of line ++ 10 ∷ [])))
    ∙ sym (flat_map-append (λ fields. line_of fields ++ 10 ∷ []) lines (line ∷ []))

pub text-more : (out more : List ℕ) (lines : List (List (List ℕ))) (line : List (List ℕ)) → out ≡ text_of lines → more ≡ out ++ line_of line ++ 10 ∷ [] → more ≡ text_of (lines ++ line ∷ [])
text-more out more lines line before e =
    e
    ∙ ap (λ l. (l ++ line_of line) ++ 10 ∷ []) before
    ∙ append_assoc (text_of lines) (line_of line) (10 ∷ [])
    ∙ text-one lines line

-- the level in a place; where there is none, no byte and 0
abbrev level-in : Report → ℕ → Level
level-in r place = get_or r.levels place (record { task = record { ref_ptr = (0, 0); now = [] }; estimate = 0 })

task-at : (r : Report) (place : ℕ) → task_on r (place + 1) ≡ (level-in r place).task.now
task-at r place = nth_next (names_of r.levels) place [] ∙ get_or-map (λ (level : Level). level.task.now) r.levels place _

estimate-at : (r : Report) (place : ℕ) → nth (estimates_of r.levels) (place + 1) 0 ≡ (level-in r place).estimate
estimate-at r place = nth_next (estimates_of r.levels) place 0 ∙ get_or-map (λ (level : Level). level.estimate) r.levels place _

lines-next : (r : Report) (n : ℕ) → level_lines r (n + 1) ≡ level_lines r n ++ level_line r (n + 1) ∷ []
unfolding level_lines
lines-next r n = rw (add-one n) refl

-- one level more
pub levels-more : (out before more : List ℕ) (r : Report) (n : ℕ) (level estimate : List ℕ) → level ≡ decimal (n + 1) → estimate ≡ decimal (level-in r n).estimate → before ≡ out ++ text_of (level_lines r n) → more ≡ before ++ line_of (level ∷ (level-in r n).task.now ∷ estimate ∷ []) ++ 10 ∷ [] → more ≡ out ++ text_of (level_lines r (n + 1))
levels-more out before more r n level estimate is_level is_estimate e f =
    let line : level ∷ (level-in r n).task.now ∷ estimate ∷ [] ≡ level_line r (n + 1)
    = ap (λ l. l ∷ (level-in r n).task.now ∷ estimate ∷ []) is_level
    ∙ ap (λ l. decimal (n + 1) ∷ l ∷ estimate ∷ []) (sym (task-at r n))
    ∙ ap (λ l. decimal (n + 1) ∷ task_on r (n + 1) ∷ l ∷ []) (is_estimate ∙ ap decimal (sym (estimate-at r n))) in
    f
    ∙ ap (λ l. l ++ line_of (level ∷ (level-in r n).task.now ∷ estimate ∷ []) ++ 10 ∷ []) e
    ∙ ap (λ l. out ++ text_of (level_lines r n) ++ line_of l ++ 10 ∷ []) line
    ∙ append_assoc (out ++ text_of (level_lines r n)) (line_of (level_line r (n + 1))) (10 ∷ [])
    ∙ append_assoc out (text_of (level_lines r n)) (line_of (level_line r (n + 1)) ++ 10 ∷ [])
    ∙ ap (λ l. out ++ l) (text-one (level_lines r n) (level_line r (n + 1)))
    ∙ ap (λ l. out ++ text_of l) (sym (lines-next r n))

-- three lines, then some, then two
pub report-whole : (first second third : List (List ℕ)) (levels : List (List (List ℕ))) (fourth fifth : List (List ℕ)) {o0 o1 o2 o3 o4 o5 o6 : List ℕ} → o0 ≡ [] → o1 ≡ o0 ++ line_of first ++ 10 ∷ [] → o2 ≡ o1 ++ line_of second ++ 10 ∷ [] → o3 ≡ o2 ++ line_of third ++ 10 ∷ [] → o4 ≡ o3 ++ text_of levels → o5 ≡ o4 ++ line_of fourth ++ 10 ∷ [] → o6 ≡ o5 ++ line_of fifth ++ 10 ∷ [] → o6 ≡ text_of (first ∷ second ∷ third ∷ (levels ++ fourth ∷ fifth ∷ []))
report-whole first second third levels fourth fifth {o0} {o1} {o2} {o3} {o4} {o5} {o6} e0 e1 e2 e3 e4 e5 e6 =
    let top = first ∷ second ∷ third ∷ [] in
    let above = text-more o2 o3 (first ∷ second ∷ []) third (text-more o1 o2 (first ∷ []) second (text-more o0 o1 [] first e0 e1) e2) e3 in
    let levelled = e4 ∙ ap (λ l. l ++ text_of levels) above ∙ sym (flat_map-append (λ fields. line_of fields ++ 10 ∷ []) top levels) in
    text-more o5 o6 (top ++ levels ++ fourth ∷ []) fifth (text-more o4 o5 (top ++ levels) fourth levelled e5) e6
    ∙ ap (λ l. text_of (top ++ l)) (append_assoc levels (fourth ∷ []) (fifth ∷ []))
