-- A study to which the rows of a sheet are added, line by line.
use Rattle.std.proofs.Common.{◌≡◌, ℕ, ◌+◌, ◌<◌, ◌≤◌, ◌⊎◌, List, [], ◌∷◌, ◌++◌, length, get_or, true, false, Ok, Err, Result, MatchResult, sym, ap, subst, ◌∙◌, inl, inr, arith}
use Rattle.std.specs.Result.{is_err}
use Rattle.std.proofs.lemmas.Bool.{cases_lt, false≢true}
use Rattle.std.proofs.lemmas.List.{length-append, get_or_append_left, get_or-append-add}
use Rattle.table.specs.declared.row.Row.{Row}
use Rattle.table.specs.declared.fault.Fault.{Fault}
use Rattle.table.specs.declared.fault.Place.{Place}
use Rattle.sheets.specs.Forms.{place}
use Rattle.table.specs.Places.{nth}
use Rattle.table.specs.declared.numbers.Numbers.{Numbers}
use Rattle.table.specs.Asking.{Refuses}
use Rattle.table.specs.Rows.{Table, IsRow, Of, MadeRow, MakesRow, row, filler, view, Adds}
use Rattle.table.proofs.Asked.{ok_err}
use Rattle.table.proofs.Placed.{nth_at, nth_next}
use Rattle.study.specs.declared.study.Study.{Study}
use Rattle.study.specs.declared.edit.Edit.TheVariants.{Add}
use Rattle.study.specs.Calls.{IsNew, Edits}
use Rattle.study.specs.Histories.{new_study, any_edit, nothing_counted, no_more}
use Rattle.sheets.specs.declared.sheet.Sheet.{Sheet}
use Rattle.sheets.specs.Pairs.{EachLine}
use Rattle.sheets.proofs.Paired.{each_more}
use Rattle.marking.specs.Questions.{numbers_at, HasRow}
use Rattle.marking.specs.Reports.{RowsOf, HasHistory}

-- numbers make a row or make none
row_or_none : (n : Numbers) → IsRow n ⊎ ¬ IsRow n
row_or_none n = elim (cases_lt n.wcet 1) [
  | inl a ↦ inr (λ h. omega (arith, h.0))
  | inr a ↦ elim (cases_lt n.deadline n.wcet) [
    | inl b ↦ inr (λ h. omega (arith, h.1))
    | inr b ↦ elim (cases_lt n.period n.deadline) [
      | inl e ↦ inr (λ h. omega (arith, h.2))
      | inr e ↦ elim (cases_lt 1000000 n.period) [
        | inl f ↦ inr (λ h. omega (arith, h.3))
        | inr f ↦ inl (a, b, e, f)
      ]
    ]
  ]
]

-- what a call does that makes a row of numbers, and adds it
abbrev Goes : Table → Result (Unit {0}) Fault → Table → Result Row Fault → Type 0
Goes t r t' made = MatchResult made (λ row. (r ≡ Ok tt) × (view t' ≡ view t ++ row ∷ [])) (λ fault. Refuses {A = Unit {0}} fault t r t')

-- it is refused only where the numbers make no row
not_made : (t t' : Table) (n : Numbers) (r : Result (Unit {0}) Fault) (made : Result Row Fault) → MadeRow n made → Goes t r t' made → is_err r ≡ true → ¬ IsRow n
not_made t t' n r (Ok row) is goes bad has = false≢true (sym (ap is_err goes.0) ∙ bad)
not_made t t' n r (Err fault) is goes bad has = ok_err _ _ (sym (is.1 has).1)

-- and otherwise has added it
was_made : (t t' : Table) (n : Numbers) (r : Result (Unit {0}) Fault) (made : Result Row Fault) → MadeRow n made → Goes t r t' made → is_err r ≡ false → IsRow n × ((new : Row) × Of new n × (view t' ≡ view t ++ new ∷ []))
was_made t t' n r (Ok row) is goes good = elim (row_or_none n) [
  | inl has ↦ let new = is.1 has in let same : row ≡ new.0 = (let e = new.1 in cc) in (has, (new.0, new.2, subst (λ x. view t' ≡ view t ++ x ∷ []) same goes.1))
  | inr none ↦ absurd (ok_err row _ (is.0 none))
]
was_made t t' n r (Err fault) is goes good = absurd (false≢true (sym good ∙ ap is_err goes.0))

-- a place with its field put to 0
pub whole_place : (p q : Place) (sheet k j : ℕ) → (p.sheet ≡ q.sheet) × (p.line ≡ q.line) × (p.field ≡ 0) → q ≡ place sheet k j → p ≡ place sheet k 0
whole_place p q sheet k j whole is = λ i. record { sheet = (whole.0 ∙ ap (λ (r : Place). r.sheet) is) i; line = (whole.1 ∙ ap (λ (r : Place). r.line) is) i; field = whole.2 i }

pub none_yet : (tasks : Sheet) (rows : List Row) → rows ≡ [] → RowsOf tasks 0 rows
none_yet tasks rows is = record { size = ap length is; each = λ k low high. absurd (omega arith) }

pub new_history : (s : Study) → IsNew s → HasHistory s
new_history s new t l p = (nothing_counted, new_study s l p new)

nth_kept : (rows : List Row) (new : Row) (k : ℕ) → 1 ≤ k → k ≤ length rows → nth (rows ++ new ∷ []) k filler ≡ nth rows k filler
nth_kept rows new k low high = nth_at (rows ++ new ∷ []) k filler low ∙ get_or_append_left rows (new ∷ []) filler _ (omega arith) ∙ sym (nth_at rows k filler low)

nth_new : (rows : List Row) (new : Row) (i : ℕ) → length rows ≡ i → nth (rows ++ new ∷ []) (i + 1) filler ≡ new
nth_new rows new i size = nth_next (rows ++ new ∷ []) i filler ∙ ap (λ j. get_or (rows ++ new ∷ []) j filler) (let e : i ≡ length rows + 0 = omega arith in e) ∙ get_or-append-add rows (new ∷ []) 0 filler

abbrev OfLine : Sheet → ℕ → Row → Type 0
OfLine tasks k r = Of r (numbers_at tasks k)

one_more_row : (tasks : Sheet) (i : ℕ) (rows : List Row) (new : Row) → RowsOf tasks i rows → OfLine tasks (i + 1) new → (after : List Row) → after ≡ rows ++ new ∷ [] → RowsOf tasks (i + 1) after
one_more_row tasks i rows new old of after is = record {
  size = ap length is ∙ length-append rows (new ∷ []) ∙ omega (arith, old.size);
  each = each_more (λ k. OfLine tasks k (row after k)) i
      (λ k low high. subst (OfLine tasks k) (sym (ap (λ l. row l k) is ∙ nth_kept rows new k low (omega (arith, old.size)))) (old.each k low high))
      (subst (OfLine tasks (i + 1)) (sym (ap (λ l. row l (i + 1)) is ∙ nth_new rows new i old.size)) of);
}

module _ (tasks : Sheet) (i : ℕ) (few : i < 32) (s after : Study) (n : Numbers) (is : n ≡ numbers_at tasks (i + 1)) (r : Result (Unit {0}) Fault) (edits : Edits (λ t r u. Adds t n r u) s r after) (rows : RowsOf tasks i (view s.table)) where
  abbrev makes : MakesRow n (λ fault. Refuses {A = Unit {0}} fault s.table r after.table) (λ row. (r ≡ Ok tt) × (view after.table ≡ view s.table ++ row ∷ []))
  makes = edits.0.1 (omega (arith, rows.size))

  -- a line whose row is refused has none
  pub no_row : is_err r ≡ true → ¬ HasRow tasks (i + 1)
  no_row bad has = not_made s.table after.table n r makes.0 makes.1 makes.2 bad (subst IsRow (sym is) has)

  module _ (good : is_err r ≡ false) where
    abbrev added : IsRow n × ((new : Row) × Of new n × (view after.table ≡ view s.table ++ new ∷ []))
    added = was_made s.table after.table n r makes.0 makes.1 makes.2 good

    pub row_more : EachLine (HasRow tasks) i → EachLine (HasRow tasks) (i + 1)
    row_more each = each_more (HasRow tasks) i each (subst IsRow is added.0)

    pub rows_more : RowsOf tasks (i + 1) (view after.table)
    rows_more = let new = added.1 in one_more_row tasks i (view s.table) new.0 rows (subst (Of new.0) is new.1) (view after.table) new.2

  pub history_more : HasHistory s → HasHistory after
  history_more history t l q = let h = history t l q in (no_more h.0, any_edit h.1 (Add n) r after edits)
