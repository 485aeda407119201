-- The order and the estimates of an answer, and what a check of them gives.
use Rattle.std.proofs.Common.{◌<◌, ◌≡◌, ℕ, ◌+◌, ◌≤◌, List, length, take, Ok, Err, Some, None, Option, Result, sym, ap, subst, ◌∙◌, arith}
use Rattle.std.specs.Option.{IfSome}
use Rattle.std.proofs.lemmas.List.{length-take, get_or-take}
use Rattle.table.specs.declared.row.Row.{Row}
use Rattle.table.specs.declared.fault.Fault.{Fault}
use Rattle.table.specs.Rows.{view}
use Rattle.table.specs.Places.{nth}
use Rattle.table.proofs.Asked.{ok_err}
use Rattle.table.proofs.Placed.{nth_next}
use Rattle.bounds.specs.declared.miss.Miss.{Miss}
use Rattle.bounds.specs.Orders.{Order, Estimates, FirstMiss, Checks}
use Rattle.sheets.specs.declared.form.Column.TheVariants.{Wcet, Deadline, Estimate}
use Rattle.sheets.specs.declared.sheet.Sheet.{Sheet}
use Rattle.sheets.specs.Pairs.{count_of, task_of, HasTaskAt}
use Rattle.study.proofs.Standing.{nth_taken}
use Rattle.marking.specs.Questions.{number_under}
use Rattle.marking.specs.Reports.{CaseOf, board_answer, AnswerOf, ChecksAnswer, OutcomeOf}
use Rattle.marking.specs.declared.case.Case.{Case}
use Rattle.marking.specs.declared.report.Outcome.{Outcome}
use Rattle.marking.proofs.Claimed.{one_row, row_here}

module _ (board tasks answer : Sheet) (own : Case) (case : CaseOf board tasks answer own) (few : count_of answer ≤ 32) where
  abbrev n : ℕ
  n = count_of answer

  abbrev order : List ℕ
  order = own.order

  abbrev estimates : List ℕ
  estimates = own.estimates

  order_size : length (take n order) ≡ count_of tasks
  order_size = length-take n order ∙ omega (arith, case.pairs.3.size, few, case.once.0)

  answer_order : Order (view own.study.table) (take n order)
  answer_order = record {
    size = omega (arith, order_size, case.rows.size);
    each = λ p l. let at = row_here tasks answer order case.pairs p (omega (arith, case.once.0, case.rows.size)) in
        let is = get_or-take n order p 0 (omega (arith, case.once.0, case.rows.size)) in
        (omega (arith, is, at.0), omega (arith, is, at.1, case.rows.size));
    apart = λ p q l m is.
        let first : p < n = omega (arith, case.once.0, case.rows.size) in
        let second : q < n = omega (arith, case.once.0, case.rows.size) in
        let same = case.once.1 (p + 1) (q + 1) (omega arith) (omega arith) (omega arith) (omega arith) (nth_next order p 0 ∙ sym (get_or-take n order p 0 first) ∙ is ∙ get_or-take n order q 0 second ∙ sym (nth_next order q 0)) in omega (arith, same);
  }

  -- the estimate of row k lies from its C to its D
  row_lies : (k : ℕ) → 1 ≤ k → k ≤ count_of tasks → (number_under tasks k Wcet ≤ nth estimates k 0) × (nth estimates k 0 ≤ number_under tasks k Deadline)
  row_lies k low high =
      let line = case.pairs.2 k low high in
      let l = line.0 in
      let at = line.1 in
      let named = case.pairs.3.named l at.0 at.1 in
      let same : k ≡ nth order l 0 = one_row tasks case.pairs.0 (task_of answer l) k (nth order l 0) (low, high, sym at.2) named in
      let told = case.lie l at.0 at.1 k (low, high, sym at.2) in
      let is : nth estimates k 0 ≡ number_under answer l Estimate = ap (λ j. nth estimates j 0) same ∙ case.estimated l at.0 at.1 in
      (omega (arith, told.0, is), omega (arith, told.1, is))

  answer_estimates : Estimates (view own.study.table) (take (count_of tasks) estimates)
  answer_estimates = record {
    size = length-take (count_of tasks) estimates ∙ omega (arith, case.size, few, case.once.0, case.rows.size);
    within = λ k names.
        let high : k ≤ count_of tasks = omega (arith, names.1, case.rows.size) in
        let lies = row_lies k names.0 high in
        let is = nth_taken (count_of tasks) estimates k names.0 high in
        let numbers = case.rows.each k names.0 high in
        (omega (arith, lies.0, is, numbers.0), omega (arith, lies.1, is, numbers.2));
  }

  is_answer : AnswerOf tasks answer (take n order) (take (count_of tasks) estimates)
  is_answer = record {
    size = order_size;
    named = λ k low high. subst (HasTaskAt tasks (task_of answer k)) (sym (nth_taken n order k low high)) (case.pairs.3.named k low high);
    many = length-take (count_of tasks) estimates ∙ omega (arith, case.size, few, case.once.0);
    estimated = λ k low high.
        let named = case.pairs.3.named k low high in
        ap (λ j. nth (take (count_of tasks) estimates) j 0) (nth_taken n order k low high) ∙ nth_taken (count_of tasks) estimates (nth order k 0) named.0 named.1 ∙ case.estimated k low high;
  }

  abbrev rows : List Row
  rows = view own.study.table

  abbrev First : Option Miss → Type 0
  First miss = FirstMiss (board_answer own.test) rows (take n order) (take (count_of tasks) estimates) miss

  pub miss_row : (miss : Option Miss) → First miss → IfSome miss (λ m. (1 ≤ m.task) × (m.task ≤ count_of tasks))
  miss_row None first = tt
  miss_row (Some m) first =
      let row = answer_order.each first.0 (omega (arith, first.1, answer_order.size)) in
      (omega (arith, row.0, first.2), omega (arith, row.1, first.2, case.rows.size))

  pub answer_checked : (miss : Option Miss) (o : Outcome) → First miss → OutcomeOf tasks miss o → ChecksAnswer own.test rows tasks answer o
  answer_checked miss o first outcome = record { order = take n order; estimates = take (count_of tasks) estimates; is = is_answer; miss = miss; first = first; outcome = outcome }

  -- the check of the answer, of its lists as the code cuts them
  module _ (some : 1 ≤ count_of tasks) (other : List Row) (a b : ℕ) (r : Result (Option Miss) Fault) (same : other ≡ rows) (x : a ≡ n) (y : b ≡ count_of tasks) (given : Checks (board_answer own.test) other (take a order) (take b estimates) r) where
    checks : Checks (board_answer own.test) rows (take n order) (take (count_of tasks) estimates) r
    checks =
        subst (λ q. Checks (board_answer own.test) q (take n order) (take (count_of tasks) estimates) r) same
        (subst (λ m. Checks (board_answer own.test) other (take m order) (take (count_of tasks) estimates) r) x
        (subst (λ m. Checks (board_answer own.test) other (take a order) (take m estimates) r) y given))

    checked : (miss : Option Miss) × (r ≡ Ok miss) × First miss
    checked =
        let on = (checks.1 (omega (arith, case.rows.size))).1 (answer_order, answer_estimates) in
        (on.0, on.1, on.2)

    abbrev ok_of : Result (Option Miss) Fault → Option Miss
    ok_of (Ok miss) = miss
    ok_of (Err fault) = None

    pub not_refused : (fault : Fault) → r ≡ Err fault → ⊥
    not_refused fault is = ok_err checked.0 fault (sym checked.1 ∙ is)

    pub first_of : (miss : Option Miss) → r ≡ Ok miss → First miss
    first_of miss is = subst First (ap ok_of (sym checked.1 ∙ is)) checked.2
