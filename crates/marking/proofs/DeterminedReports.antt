-- Three texts have one report: the same verdict, counts, levels and estimates.
use Rattle.std.proofs.Common.{◌≡◌, ℕ, ◌≤◌, ◌<◌, List, [], length, refl, sym, ap, subst, ◌∙◌, inl, inr, arith}
use Rattle.std.proofs.lemmas.Bool.{cases_lt}
use Rattle.table.specs.declared.row.Row.{Row}
use Rattle.table.specs.Places.{nth}
use Rattle.table.specs.Rows.{view}
use Rattle.study.specs.declared.study.Study.{Study}
use Rattle.study.specs.declared.finding.Finding.{Finding}
use Rattle.study.specs.declared.state.State.{State}
use Rattle.study.specs.declared.state.State.TheVariants as state
use Rattle.study.specs.Moments.{Moment, rows_of}
use Rattle.sheets.specs.declared.form.Column.TheVariants.{Task}
use Rattle.sheets.specs.declared.form.Form.TheVariants.{Board, Tasks, Answer}
use Rattle.sheets.specs.declared.sheet.Sheet.{Sheet}
use Rattle.sheets.specs.Pairs.{count_of, task_of}
use Rattle.marking.specs.declared.report.Report.{Report}
use Rattle.study.specs.Searches.{ToVerdict}
use Rattle.marking.proofs.Stays.{answer_laws}
use Rattle.marking.proofs.Stays.{last_rows}
use Rattle.table.proofs.View.{few_rows}
use Rattle.bounds.specs.Orders.{FirstMiss}
use Rattle.marking.proofs.DeterminedOutcomes.{one_miss, one_order, one_estimates, outcome_alike}
use Rattle.marking.specs.Reports.{SameLevels, SameShown, SameOutcome, SameReport, OutcomeOf, board_answer, slots, names_of, estimates_of, verdict_of, LevelsIn, BlankPast, ShowsStudy, Marked}
use Rattle.study.proofs.OneDeed.{SameFinding}
use Rattle.study.proofs.AlikeMoments.{SameState, same_state, same_found, Alike as AlikeMoments}
use Rattle.study.proofs.AlikeSearches.{searched_alike}
use Rattle.marking.proofs.Alike.{Alike, read_alike, count, field}
use Rattle.marking.proofs.DeterminedCases.{one_test, one_rows}

verdict_alike : (n : ℕ) (s u : State) → SameState n s u → verdict_of s ≡ verdict_of u
verdict_alike n s u (same_state v) = refl
verdict_alike n s u (same_found f g both) = refl

module _ (tasks other : Sheet) (same : Alike tasks other) (n m : ℕ) (names others : List (List ℕ)) (estimates numbers : List ℕ) where
  past : n ≡ m → BlankPast n names estimates → BlankPast m others numbers → (k : ℕ) → n < k → (nth names k [] ≡ nth others k []) × (nth estimates k 0 ≡ nth numbers k 0)
  past is blank blank' k above =
      let here = blank k above in
      let there = blank' k (omega arith) in
      (here.0 ∙ sym there.0, here.1 ∙ sym there.1)

  levels_found : (f g : Finding) → SameFinding (count_of tasks) f g → LevelsIn tasks (state.Found f) n names estimates → LevelsIn other (state.Found g) m others numbers → (n ≡ m) × SameLevels names others estimates numbers
  levels_found f g both a b =
      let is : n ≡ m = a.0.0 ∙ count tasks other same ∙ sym b.0.0 in (
        is,
        λ k low. elim (cases_lt n k) [
          | inl above ↦ past is a.1 b.1 k above
          | inr inside ↦
              let place = both.order k low (omega (arith, a.0.0)) in (
                a.0.1.named k low (omega arith) ∙ ap (task_of tasks) place ∙ field tasks other same (nth g.order k 0) Task ∙ sym (b.0.1.named k low (omega arith)),
                a.0.1.estimated k low (omega arith) ∙ ap (λ j. nth f.estimates j 0) place ∙ ap (λ (xs : List ℕ). nth xs (nth g.order k 0) 0) both.estimates ∙ sym (b.0.1.estimated k low (omega arith)),
              )
        ],
      )

  levels_none : (n ≡ 0) × BlankPast n names estimates → (m ≡ 0) × BlankPast m others numbers → (n ≡ m) × SameLevels names others estimates numbers
  levels_none a b = let is : n ≡ m = a.0 ∙ sym b.0 in (is, λ k low. past is a.1 b.1 k (omega (arith, a.0)))

  levels_alike : (s u : State) → SameState (count_of tasks) s u → LevelsIn tasks s n names estimates → LevelsIn other u m others numbers → (n ≡ m) × SameLevels names others estimates numbers
  levels_alike s u (same_state state.Draft) a b = levels_none a b
  levels_alike s u (same_state (state.Running room)) a b = levels_none a b
  levels_alike s u (same_state (state.Found f)) a b = levels_found f f (record { order = λ k low high. refl; estimates = refl }) a b
  levels_alike s u (same_state state.None) a b = levels_none a b
  levels_alike s u (same_state state.Stopped) a b = levels_none a b
  levels_alike s u (same_found f g both) a b = levels_found f g both a b

-- what two searches of the same rows show is the same
shown_alike : (tasks other : Sheet) → Alike tasks other → (a b : Moment) → length (rows_of a) ≡ count_of tasks → AlikeMoments a b → (r q : Report) → ShowsStudy tasks a.study r → ShowsStudy other b.study q → SameShown r q
shown_alike tasks other same a b size alike r q one two =
    let states : SameState (count_of tasks) a.study.state b.study.state = subst (λ n. SameState n a.study.state b.study.state) size alike.state in
    let levels = levels_alike tasks other same r.level_count q.level_count (names_of r.levels) (names_of q.levels) (estimates_of r.levels) (estimates_of q.levels) a.study.state b.study.state states one.levels two.levels in
    record {
      verdict = one.verdict ∙ verdict_alike _ a.study.state b.study.state states ∙ sym two.verdict;
      ranges = one.ranges ∙ alike.ledger_count ∙ sym two.ranges;
      steps = one.steps ∙ alike.steps ∙ sym two.steps;
      level_count = levels.0;
      levels = levels.1;
    }

module _ (x y z : List ℕ) (r q : Report) (one : Marked x y z r) (two : Marked x y z q) where
  pub same_board : Alike one.board two.board
  same_board = read_alike Board _ x one.board two.board one.read.0 two.read.0

  pub same_tasks : Alike one.tasks two.tasks
  same_tasks = read_alike Tasks _ y one.tasks two.tasks one.read.1 two.read.1

  pub same_answer : Alike one.answer two.answer
  same_answer = read_alike Answer _ z one.answer two.answer one.read.2 two.read.2

  pub same_test : one.test ≡ two.test
  same_test = one_test one.board two.board same_board one.test two.test one.is_test two.is_test

  pub same_rows : view one.reports.before.table ≡ view two.reports.before.table
  same_rows = one_rows one.tasks two.tasks same_tasks (view one.reports.before.table) (view two.reports.before.table) one.reports.rows two.reports.rows

  pub same_search : AlikeMoments one.reports.searched.last two.reports.searched.last
  same_search =
      let search = one.reports.searched in
      let search' = two.reports.searched in
      let rows : rows_of search.first ≡ rows_of search'.first = ap (λ (s : Study). view s.table) search.begins ∙ same_rows ∙ sym (ap (λ (s : Study). view s.table) search'.begins) in
      searched_alike (board_answer one.test) (answer_laws one.test) slots search.first search'.first search.room search'.room rows search.last search'.last search.searched
      (subst (λ t. ToVerdict (board_answer t) slots search'.first search'.last) (sym same_test) search'.searched)

  -- what two reports on three texts show of the search is the same
  pub same_shown : SameShown r q
  same_shown =
      let search = one.reports.searched in
      let search' = two.reports.searched in
      let size : length (rows_of search.last) ≡ count_of one.tasks = ap (λ (rows : List Row). length rows) (last_rows one.test one.reports.before one.reports.after search) ∙ one.reports.rows.size in
      shown_alike one.tasks two.tasks same_tasks search.last search'.last size same_search r q
      (subst (λ s. ShowsStudy one.tasks s r) (sym search.ends) one.reports.shows)
      (subst (λ s. ShowsStudy two.tasks s q) (sym search'.ends) two.reports.shows)

  -- and so is what came of the answer
  pub same_outcome : SameOutcome r.outcome q.outcome
  same_outcome =
      let own = one.reports.checks in
      let other = two.reports.checks in
      let rows = view one.reports.before.table in
      let few : count_of one.tasks ≤ 32 = omega (arith, few_rows one.reports.before.table, one.reports.rows.size) in
      let order : own.order ≡ other.order = one_order one.tasks two.tasks one.answer two.answer same_tasks same_answer one.paired few own.order other.order own.estimates other.estimates own.is other.is in
      let estimates : own.estimates ≡ other.estimates = one_estimates one.tasks two.tasks one.answer two.answer same_tasks same_answer one.paired few own.order other.order own.estimates other.estimates own.is other.is in
      let first : FirstMiss (board_answer one.test) rows own.order own.estimates other.miss =
      subst (λ t. FirstMiss (board_answer t) rows own.order own.estimates other.miss) (sym same_test)
      (subst (λ x. FirstMiss (board_answer two.test) x own.order own.estimates other.miss) (sym same_rows)
      (subst (λ x. FirstMiss (board_answer two.test) (view two.reports.before.table) x own.estimates other.miss) (sym order)
      (subst (λ x. FirstMiss (board_answer two.test) (view two.reports.before.table) other.order x other.miss) (sym estimates) other.first))) in
      let miss : own.miss ≡ other.miss = one_miss (board_answer one.test) rows own.order own.estimates own.miss other.miss own.first first in
      outcome_alike one.tasks two.tasks same_tasks own.miss r.outcome q.outcome own.outcome (subst (λ x. OutcomeOf two.tasks x q.outcome) (sym miss) other.outcome)

  pub one_report : SameReport r q
  one_report = (same_shown, same_outcome)
