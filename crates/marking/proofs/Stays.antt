-- A search leaves the table as it was, and what it shows is what is promised.
use Rattle.std.proofs.Common.{◌≡◌, ℕ, ◌-◌, ◌≤◌, List, length, take, refl, sym, ap, subst, ◌∙◌, arith}
use Rattle.std.specs.Option.{IfSome}
use Rattle.table.specs.declared.row.Row.{Row}
use Rattle.table.specs.Rows.{Table}
use Rattle.table.specs.Places.{nth}
use Rattle.table.proofs.Placed.{nth_at}
use Rattle.table.specs.Rows.{view}
use Rattle.bounds.specs.Questions.{Laws}
use Rattle.bounds.specs.NamedLaws.{named_laws}
use Rattle.bounds.specs.OverLaws.{over_laws}
use Rattle.bounds.specs.Orders.{Order, HasLate}
use Rattle.bounds.specs.declared.overhead.Overhead.{Overhead}
use Rattle.bounds.specs.declared.named.NamedTest.{NamedTest}
use Rattle.study.specs.declared.study.Study.{Study}
use Rattle.study.specs.declared.finding.Finding.{Finding}
use Rattle.study.specs.declared.state.State.{State}
use Rattle.study.specs.declared.state.State.TheVariants as state
use Rattle.study.specs.Counts.{verdicts, finding_in}
use Rattle.study.specs.Moments.{rows_of}
use Rattle.study.specs.Histories.{Shown}
use Rattle.study.proofs.Led.{leads_kept}
use Rattle.sheets.specs.declared.sheet.Sheet.{Sheet}
use Rattle.sheets.specs.Pairs.{count_of, task_of}
use Rattle.study.proofs.Standing.{nth_taken}
use Rattle.marking.specs.declared.report.Report.{Report}
use Rattle.marking.specs.declared.report.Verdict.{Verdict}
use Rattle.marking.specs.declared.report.Verdict.TheVariants as verdict
use Rattle.marking.specs.Reports.{board_answer, IsOfLines, RowsOf, SearchedTo, ShowsStudy, LevelsOf, LevelsIn, verdict_of, names_of, estimates_of, ShowsOrder, Promises}

pub answer_laws : (t : Overhead NamedTest) → Laws (board_answer t)
answer_laws = over_laws named_laws

module _ (t : Overhead NamedTest) where
  module _ (before after : Study) (search : SearchedTo t before after) where
    same_table : after.table ≡ before.table
    same_table = ap (λ (s : Study). s.table) (sym search.ends) ∙ (leads_kept (board_answer t) (answer_laws t) _ search.first search.room search.searched.leads).0 ∙ ap (λ (s : Study). s.table) search.begins

    pub last_rows : rows_of search.last ≡ view before.table
    last_rows = ap (λ (s : Study). view s.table) search.ends ∙ ap (λ (u : Table). view u) same_table

    shown_order : (f : Finding) → after.state ≡ state.Found f → Shown (board_answer t) (view before.table) f
    shown_order f is = subst (λ rows. Shown (board_answer t) rows f) last_rows (search.means.found f (ap (λ (s : Study). s.state) search.ends ∙ is))

    every_late : after.state ≡ state.None → (order : List ℕ) → Order (view before.table) order → HasLate (board_answer t) (view before.table) order
    every_late is = subst (λ rows. (order : List ℕ) → Order rows order → HasLate (board_answer t) rows order) last_rows (search.means.none (ap (λ (s : Study). s.state) search.ends ∙ is))

    has_verdict : verdicts after.state ≡ 1
    has_verdict = ap (λ (s : Study). verdicts s.state) (sym search.ends) ∙ search.searched.ends

found_is : (s : State) (P : Finding → Type 0) → ((f : Finding) → s ≡ state.Found f → P f) → IfSome (finding_in s) P
found_is state.Draft P h = tt
found_is (state.Running room) P h = tt
found_is (state.Found f) P h = h f refl
found_is state.None P h = tt
found_is state.Stopped P h = tt

pub levels_order : (t : Overhead NamedTest) (tasks : Sheet) (before after : Study) → SearchedTo t before after → RowsOf tasks (count_of tasks) (view before.table) → IfSome (finding_in after.state) (λ f. IsOfLines tasks f.order)
levels_order t tasks before after search of = found_is after.state _ (λ f is k low high.
    let n = length (view before.table) in
    let at = (shown_order t before after search f is).0.each (k - 1) (omega (arith, of.size)) in
    let here = sym (nth_taken n f.order k low (omega (arith, of.size))) ∙ nth_at (take n f.order) k 0 low in
    (omega (arith, at.0, here), omega (arith, at.1, here, of.size)))

abbrev code : Verdict → ℕ
code verdict.Found = 0
code verdict.None = 1
code verdict.Stopped = 2

module _ (t : Overhead NamedTest) (tasks : Sheet) (before after : Study) (search : SearchedTo t before after) (of : RowsOf tasks (count_of tasks) (view before.table)) (r : Report) where
  abbrev rows : List Row
  rows = view before.table

  abbrev Found : Type 0
  Found = ShowsOrder t tasks rows r

  found_order : (f : Finding) → after.state ≡ state.Found f → r.level_count ≡ count_of tasks → LevelsOf tasks f r.level_count (names_of r.levels) (estimates_of r.levels) → Found
  found_order f is many levels =
      let n = length rows in
      let shown = shown_order t before after search f is in
      let same : r.level_count ≡ n = omega (arith, many, of.size) in
      let placed : (k : ℕ) → 1 ≤ k → k ≤ r.level_count → nth (take n f.order) k 0 ≡ nth f.order k 0 = λ k low high. nth_taken n f.order k low (omega (arith, same)) in
      record {
        order = take n f.order;
        estimates = take n f.estimates;
        each = shown.0;
        holds = shown.1;
        lie = shown.2;
        passes = shown.3;
        many = same;
        named = λ k low high. levels.named k low high ∙ ap (task_of tasks) (sym (placed k low high));
        estimated = λ k low high.
            let at = shown.0.each (k - 1) (omega (arith, same)) in
            let here = nth_at (take n f.order) k 0 low in
            levels.estimated k low high ∙ ap (λ i. nth f.estimates i 0) (sym (placed k low high)) ∙ sym (nth_taken n f.estimates (nth (take n f.order) k 0) (omega (arith, at.0, here)) (omega (arith, at.1, here)));
      }

  found_in : (s : State) → after.state ≡ s → LevelsIn tasks s r.level_count (names_of r.levels) (estimates_of r.levels) → code (verdict_of s) ≡ 0 → Found
  found_in state.Draft is levels found = absurd (omega (arith, found))
  found_in (state.Running room) is levels found = absurd (omega (arith, found))
  found_in (state.Found f) is levels found = found_order f is levels.0.0 levels.0.1
  found_in state.None is levels found = absurd (omega (arith, found))
  found_in state.Stopped is levels found = absurd (omega (arith, found))

  none_in : (s : State) → after.state ≡ s → code (verdict_of s) ≡ 1 → (order : List ℕ) → Order rows order → HasLate (board_answer t) rows order
  none_in state.Draft is e = absurd (omega (arith, e))
  none_in (state.Running room) is e = absurd (omega (arith, e))
  none_in (state.Found f) is e = absurd (omega (arith, e))
  none_in state.None is e = every_late t before after search is
  none_in state.Stopped is e = absurd (omega (arith, e))

  pub promises : ShowsStudy tasks after r → Promises t tasks rows r
  promises shows = record {
    found = λ is. found_in after.state refl shows.levels (sym (ap code shows.verdict) ∙ ap code is);
    none = λ is. none_in after.state refl (sym (ap code shows.verdict) ∙ ap code is);
    counted = omega (arith, shows.steps, shows.ranges, after.counted.4, has_verdict t before after search);
    few = omega (arith, shows.steps, search.few);
  }
