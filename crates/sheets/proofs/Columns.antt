-- Columns, and the lists of them that line 1 names.
use Rattle.std.proofs.Common.{◌≡◌, ◌≢◌, ◌==◌, ℕ, ◌+◌, ◌<◌, ◌≤◌, Bool, true, false, cond, Option, Some, None, List, [], ◌∷◌, ◌++◌, map, length, take, set, get_or, refl, sym, ap, subst, ◌∙◌, arith}
use Rattle.std.specs.Prelude.{Decides}
use Rattle.std.specs.Bool.{MatchBool, then_some}
use Rattle.std.specs.Option.{MatchOption}
use Rattle.std.specs.List.{All, AllWithin, HoldsAt, Contains}
use Rattle.std.proofs.lemmas.Bool.{false≢true}
use Rattle.std.proofs.lemmas.List.{append_assoc, map-append, length-append, length-map, take_more_set}
use Rattle.std.proofs.lemmas.List.Elements.{All-from_all_within}
use denote.Enum.Bare.{sameb, same_true, true_same}
use Rattle.sheets.specs.contracts.form.Column.{the_type}
use Rattle.sheets.specs.declared.form.Column.{Column}
use Rattle.sheets.specs.declared.form.Column.TheVariants.{Processors, Overhead, Test, Task, Wcet, Period, Deadline, Estimate}
use Rattle.sheets.specs.declared.form.Form.{Form}
use Rattle.sheets.specs.declared.form.Form.TheVariants.{Board, Tasks, Answer}
use Rattle.sheets.specs.Forms.{first_columns, name_of, columns_of}
use Rattle.sheets.specs.Texts.{fields_in}
use Rattle.sheets.specs.Reading.{Heads, HasNames}

-- the derived `==` says whether two columns are one
pub same_column : (a b : Column) → Decides (sameb the_type a b) (a ≡ b)
same_column a b = (same_true the_type tt a b, true_same the_type a b)

-- what a test of each column says
pub each_decides : (given columns : List Column) (r : Bool) → MatchBool r (AllWithin (Contains given) columns 0 (length columns)) ((k : ℕ) × (k < length columns) × HoldsAt (λ x. Contains given x → ⊥) columns k) → Decides r (All (Contains given) columns)
each_decides given columns true h = (λ e. All-from_all_within (Contains given) columns h, λ all. refl)
each_decides given columns false h = (λ e. absurd (false≢true e), λ all. absurd (h.2 Task (all h.0 Task h.1)))

pub few_columns : (form : Form) → length (columns_of form) ≤ 8
few_columns Board = omega arith
few_columns Tasks = omega arith
few_columns Answer = omega arith

-- a column by the first two bytes of its name
abbrev by_name : List ℕ → Column
by_name bs =
    let first = get_or bs 0 0 in
    let second = get_or bs 1 0 in
    cond (second == 114) Processors (cond (second == 118) Overhead (cond (second == 97) Task (cond (second == 99) Wcet (cond (second == 115) Estimate
    (cond (first == 116) Test (cond (first == 112) Period Deadline))))))

of_name : (c : Column) → by_name (name_of c) ≡ c
of_name Processors = refl
of_name Overhead = refl
of_name Test = refl
of_name Task = refl
of_name Wcet = refl
of_name Period = refl
of_name Deadline = refl
of_name Estimate = refl

-- a name is that of one column
pub one_column : (a b : Column) → name_of a ≡ name_of b → a ≡ b
one_column a b e = sym (of_name a) ∙ ap by_name e ∙ of_name b

-- names are those of one list of columns
pub same_columns : (ds bs : List Column) → map name_of ds ≡ map name_of bs → ds ≡ bs
same_columns ds bs e = sym (back ds) ∙ ap (map by_name) e ∙ back bs where
  back : (cs : List Column) → map by_name (map name_of cs) ≡ cs
  back [] = refl
  back (c ∷ cs) = ap (λ (d : Column). d ∷ map by_name (map name_of cs)) (of_name c) ∙ ap (λ (ds : List Column). c ∷ ds) (back cs)

-- what stands among the names of columns is the name of one
pub named_at : (ps : List (List ℕ)) (f : List ℕ) (rest : List (List ℕ)) (cs : List Column) → map name_of cs ≡ ps ++ f ∷ rest → (c : Column) × (f ≡ name_of c)
named_at [] f rest [] e = cc
named_at [] f rest (c ∷ cs) e = (c, cc)
named_at (p ∷ ps) f rest [] e = cc
named_at (p ∷ ps) f rest (c ∷ cs) e = named_at ps f rest cs cc

-- one more name
pub named_more : (columns : List Column) (count : ℕ) (c : Column) (f : List ℕ) (rest : List (List ℕ)) → count < length columns → f ≡ name_of c → map name_of (take count columns) ++ f ∷ rest ≡ map name_of (take (count + 1) (set columns count c)) ++ rest
named_more columns count c f rest inside is =
    ap (λ (g : List ℕ). map name_of (take count columns) ++ g ∷ rest) is
    ∙ sym (append_assoc (map name_of (take count columns)) (name_of c ∷ []) rest)
    ∙ ap (λ l. l ++ rest) (sym (map-append name_of (take count columns) (c ∷ [])))
    ∙ ap (λ (cs : List Column). map name_of cs ++ rest) (sym (take_more_set columns count c inside))

module _ (form : Form) (names : List (List ℕ)) where
  -- a field that names no column is none of the names
  pub stray_name : (cs : List Column) (f : List ℕ) (rest : List (List ℕ)) → names ≡ map name_of cs ++ f ∷ rest → ((c : Column) → f ≢ name_of c) → HasNames form names → ⊥
  stray_name cs f rest whole stray given = let at = named_at (map name_of cs) f rest given.0 (sym given.1.named ∙ whole) in stray at.0 at.1

  -- there are no more names than columns
  pub too_many : (cs : List Column) (f : List ℕ) (rest : List (List ℕ)) → names ≡ map name_of cs ++ f ∷ rest → length cs ≡ length (columns_of form) → HasNames form names → ⊥
  too_many cs f rest whole full given =
      omega (arith, ap length whole, length-append (map name_of cs) (f ∷ rest), length-map cs name_of, ap length given.1.named, length-map given.0 name_of, given.1.size)

  -- the columns so far are the form's, if the test says so
  pub heads_by : (columns : List Column) (count : ℕ) (said : Bool) (r : Option (List Column)) → names ≡ map name_of (take count columns) → length (take count columns) ≡ count → Decides said ((length (take count columns) ≡ length (columns_of form)) × All (Contains (take count columns)) (columns_of form)) → r ≡ then_some said columns → MatchOption r (HasNames form names → ⊥) (λ o. Heads form names (first_columns form o))
  heads_by columns count said r whole long test is = subst (λ q. MatchOption q (HasNames form names → ⊥) (λ o. Heads form names (first_columns form o))) (sym is) (go said refl) where
    go : (v : Bool) → said ≡ v → MatchOption (then_some v columns) (HasNames form names → ⊥) (λ o. Heads form names (first_columns form o))
    go true e =
        let h = test.0 e in
        subst (λ n. Heads form names (take n columns)) (sym long ∙ h.0) (record { named = whole; size = h.0; each = h.1 })
    go false e = λ given.
        let same : given.0 ≡ take count columns = same_columns given.0 (take count columns) (sym given.1.named ∙ whole) in
        false≢true (sym e ∙ test.1 (ap length (sym same) ∙ given.1.size, subst (λ xs. All (Contains xs) (columns_of form)) same given.1.each))

-- the same of the line that is left first
pub named_next : (form : Form) (first : List ℕ) (rest before : List (List ℕ)) → before ≡ first ∷ rest → (r : Option (List Column)) → MatchOption r (HasNames form (fields_in first) → ⊥) (λ o. Heads form (fields_in first) (first_columns form o)) → MatchOption r ((names : List ℕ) (lines : List (List ℕ)) → before ≡ names ∷ lines → HasNames form (fields_in names) → ⊥) (λ o. (x : List ℕ) × (before ≡ x ∷ rest) × Heads form (fields_in x) (first_columns form o))
named_next form first rest before e None h = λ names lines f given. let same : names ≡ first = cc in h (subst (λ n. HasNames form (fields_in n)) same given)
named_next form first rest before e (Some o) h = (first, e, h)
