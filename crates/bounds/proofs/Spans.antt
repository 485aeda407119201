-- Estimates that lie from their row's C to its D.
use Rattle.std.proofs.Common.{◌≡◌, ℕ, ◌+◌, ◌-◌, ◌<◌, Bool, true, ◌&&◌, leb, List, length, get_or, sym, ap, ◌∙◌, inl, inr, arith}
use Rattle.std.proofs.lemmas.Bool.{cases_Bool, le-leb, both_ways}
use Rattle.std.proofs.lemmas.List.{get_or_default}
use Rattle.std.proofs.lemmas.List.Elements.{All-from_all_within}
use Rattle.std.proofs.lemmas.List.Folds.{list_all_at}
use Rattle.std.proofs.lemmas.List.Sums.{list_all-from_AllPass}
use Rattle.std.proofs.lemmas.Slice.Zip.{get_or-zip, length-zip}
use Rattle.std.specs.List.{list_all, zip}
use Rattle.table.specs.declared.row.Row.{Row}
use Rattle.table.specs.Places.{nth}
use Rattle.table.specs.Rows.{row, filler, spans}
use Rattle.table.proofs.Placed.{nth_next}
use Rattle.table.proofs.Spanned.{spans_from, spans_test}
use Rattle.bounds.specs.Orders.{Estimates}

-- from a number to itself
pub spans_one : (r : Row) (e : ℕ) → spans r e e ≡ (leb r.wcet e && leb e r.deadline)
spans_one r e = ap (λ b. leb r.wcet e && (b && leb e r.deadline)) (le-leb e e (omega arith))

-- one estimate lies within its row
abbrev pub lies : Row × ℕ → Bool
lies p = spans p.0 p.1 p.1

module _ (rows : List Row) (es : List ℕ) (size : length es ≡ length rows) where
  -- what is read at a place of both
  lies_at : (j : ℕ) (d : Row × ℕ) → j < length rows → get_or (zip rows es) j d ≡ (row rows (j + 1), nth es (j + 1) 0)
  lies_at j d h =
      let pair : Row → ℕ → Row × ℕ = λ r e. (r, e) in
      get_or-zip rows es j d h (omega arith)
      ∙ ap (λ r. pair r (get_or es j d.1)) (get_or_default rows j d.0 filler h ∙ sym (nth_next rows j filler))
      ∙ ap (pair (row rows (j + 1))) (get_or_default es j d.1 0 (omega arith) ∙ sym (nth_next es j 0))

  long : length (zip rows es) ≡ length rows
  long = omega (arith, length-zip rows es)

  pub lie_all : list_all lies (zip rows es) ≡ true → Estimates rows es
  lie_all h = record {
    size = size;
    within = λ k names.
        let d : Row × ℕ = (filler, 0) in
        let is = lies_at (k - 1) d (omega arith) in
        elim (cases_Bool (lies (get_or (zip rows es) (k - 1) d))) [
          | inl y ↦ let all = spans_from (row rows k) _ _ (ap (λ j. spans (row rows j) (nth es j 0) (nth es j 0)) (omega arith) ∙ ap lies (sym is) ∙ y) in (all.0, all.2)
          | inr n ↦ absurd (both_ways (list_all lies (zip rows es)) (list_all_at lies (zip rows es) (k - 1) d (omega (arith, long)) n) h)
        ];
  }

  pub all_lie : Estimates rows es → list_all lies (zip rows es) ≡ true
  all_lie h = list_all-from_AllPass lies (zip rows es) (All-from_all_within (λ p. lies p ≡ true) (zip rows es) (λ j d low high.
      let within = h.within (j + 1) (omega arith, omega (arith, long)) in
      ap lies (lies_at j d (omega (arith, long))) ∙ spans_test (row rows (j + 1)) _ _ (within.0, omega arith, within.1)))
