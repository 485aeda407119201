-- Whether numbers are a range of the rows, computed row by row.
use Rattle.std.proofs.Common.{◌≡◌, ℕ, sym, refl, ◌≤◌, Bool, true, Decides, List, length, get_or, ap, ◌∙◌, arith}
use Rattle.std.proofs.lemmas.Bool.Decides.{Decides-at}
use Rattle.std.proofs.lemmas.List.{take_all}
use Rattle.std.proofs.lemmas.Slice.Zip.{length-zip, get_or-zip}
use Rattle.std.specs.List.{list_all, zip}
use Rattle.table.specs.declared.row.Row.{Row}
use Rattle.table.specs.Rows.{row, filler, spans}
use Rattle.table.proofs.Placed.{nth_next}
use Rattle.table.proofs.Spanned.{spans_from, spans_test}
use Rattle.bounds.specs.Questions.{all_to}
use Rattle.bounds.proofs.Sounding.{all_to_list}
use Rattle.bounds.specs.Sounds.{all_to_at, all_to_from}
use Rattle.orders.specs.declared.range.Range.{Range}
use Rattle.orders.specs.Ranges.{low, high, Within}

-- every row's low and high lie within it
abbrev pub withinb : List Row → Range → Bool
withinb rows r = all_to (λ k. spans (row rows k) (low r k) (high r k)) (length rows)

-- a low and a high lie within a row, computed
abbrev pub lies : Row × (ℕ × ℕ) → Bool
lies p = spans p.0 p.1.0 p.1.1

-- the rows, each with its low and its high, are a range where each low and high lies within its row
within_zipped : (rows : List Row) (r : Range) → length rows ≤ length r.lows → length rows ≤ length r.highs → list_all lies (zip rows (zip r.lows r.highs)) ≡ withinb rows r
within_zipped rows r lows highs =
    let ends = zip r.lows r.highs in
    let many : length rows ≤ length ends = omega (arith, length-zip r.lows r.highs) in
    let all : length (zip rows ends) ≡ length rows = omega (arith, length-zip rows ends) in
    sym (ap (list_all lies) (take_all (length rows) (zip rows ends) (omega arith)))
    ∙ all_to_list lies _ (zip rows ends) (filler, (0, 0)) (length rows) (omega arith) (λ i l.
    ap lies (get_or-zip rows ends i (filler, (0, 0)) l (omega arith))
    ∙ ap (λ e. lies (get_or rows i filler, e)) (get_or-zip r.lows r.highs i (0, 0) (omega arith) (omega arith))
    ∙ sym (rw (nth_next rows i filler, nth_next r.lows i 0, nth_next r.highs i 0) refl))

pub within_from : (rows : List Row) (r : Range) → withinb rows r ≡ true → Within rows r
within_from rows r h k names = spans_from (row rows k) _ _ (all_to_at _ (length rows) k h names.0 names.1)

within_test : (rows : List Row) (r : Range) → Within rows r → withinb rows r ≡ true
within_test rows r h = all_to_from _ (length rows) (λ k low high. spans_test (row rows k) _ _ (h k (low, high)))

pub within_decides : (rows : List Row) (r : Range) → length rows ≤ length r.lows → length rows ≤ length r.highs → Decides (list_all lies (zip rows (zip r.lows r.highs))) (Within rows r)
within_decides rows r lows highs = Decides-at _ _ (within_zipped rows r lows highs) (within_from rows r, within_test rows r)
