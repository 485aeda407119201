-- An answer has one outcome.
use Rattle.std.proofs.Common.{◌≡◌, ℕ, ◌+◌, ◌-◌, ◌≤◌, ◌<◌, List, length, take, get_or, Some, None, Ok, Option, refl, sym, ap, subst, ◌∙◌, inl, inr, arith}
use Rattle.std.proofs.lemmas.Bool.{cases_lt}
use Rattle.std.proofs.lemmas.List.{ext_get_or, get_or_past, length-take}
use Rattle.table.specs.declared.row.Row.{Row}
use Rattle.table.specs.Places.{nth}
use Rattle.table.proofs.Placed.{nth_at, nth_next}
use Rattle.bounds.specs.declared.miss.Miss.{Miss}
use Rattle.bounds.specs.Orders.{padded, answer_with, FirstMiss}
use Rattle.bounds.proofs.Padded.{padded_length, padded_at}
use Rattle.sheets.specs.declared.form.Column.TheVariants.{Task, Estimate}
use Rattle.sheets.specs.declared.sheet.Sheet.{Sheet}
use Rattle.sheets.specs.Pairs.{count_of, task_of, HasTaskAt, RowsNamed, EachLine}
use Rattle.sheets.proofs.Ordered.{pairs_in_order}
use Rattle.marking.specs.Questions.{IsPaired}
use Rattle.marking.specs.declared.report.Outcome.{Outcome}
use Rattle.marking.specs.declared.report.Outcome.TheVariants as outcome
use Rattle.marking.specs.Reports.{SameOutcome, AnswerOf, OutcomeOf}
use Rattle.study.proofs.Standing.{nth_taken}
use Rattle.marking.proofs.Claimed.{one_row}
use Rattle.marking.proofs.Alike.{Alike, count, field, number}
use Rattle.bounds.specs.Questions.{Meaning}

module _ (meaning : Meaning) (rows : List Row) (order estimates : List ℕ) where
  same_miss : (a b : Miss) → a.task ≡ b.task → a.bound ≡ b.bound → a ≡ b
  same_miss a b p q = λ i. record { task = p i; bound = q i }

  -- there is one first miss
  pub one_miss : (a b : Option Miss) → FirstMiss meaning rows order estimates a → FirstMiss meaning rows order estimates b → a ≡ b
  one_miss None None x y = refl
  one_miss None (Some b) x y = absurd (y.4 (x y.0 y.1))
  one_miss (Some a) None x y = absurd (x.4 (y x.0 x.1))
  one_miss (Some a) (Some b) (p, inside, task, bound, misses, above) (q, inside', task', bound', misses', above') = elim (cases_lt p q) [
    | inl less ↦ absurd (misses (above' p less))
    | inr not_less ↦ elim (cases_lt q p) [
      | inl less ↦ absurd (misses' (above q less))
      | inr not_more ↦
          let same : p ≡ q = omega arith in
          ap Some (same_miss a b (sym task ∙ ap (λ k. get_or order k 0) same ∙ task') (sym bound ∙ ap (λ k. answer_with meaning rows order (padded estimates) k) same ∙ bound'))
    ]
  ]

-- the answer has as many lines as there are tasks
module _ (tasks answer : Sheet) (paired : IsPaired tasks answer) (order : List ℕ) (named : EachLine (λ k. HasTaskAt tasks (task_of answer k) (nth order k 0)) (count_of answer)) (size : length order ≡ count_of tasks) (few : count_of tasks ≤ 32) where
  abbrev n : ℕ
  n = count_of answer

  no_longer : n ≤ length order
  no_longer = elim (cases_lt (length order) n) [
    | inl past ↦ let none : nth order n 0 ≡ 0 = nth_at order n 0 (omega arith) ∙ get_or_past order (n - 1) 0 (omega arith) in absurd (omega (arith, none, (named n (omega arith) (omega arith)).0))
    | inr within ↦ omega arith
  ]

  read_back : (k : ℕ) → 1 ≤ k → k ≤ n → nth (padded (take n order)) k 0 ≡ nth order k 0
  read_back k low high = padded_at (take n order) k low (omega (arith, no_longer, size, few)) ∙ nth_taken n order k low high

  nothing_past : (k : ℕ) → n < k → nth (padded (take n order)) k 0 ≡ 0
  nothing_past k past = elim (cases_lt 32 k) [
    | inl beyond ↦ nth_at (padded (take n order)) k 0 (omega arith) ∙ get_or_past (padded (take n order)) (k - 1) 0 (omega (arith, padded_length (take n order)))
    | inr inside ↦ padded_at (take n order) k (omega arith) (omega arith) ∙ nth_at (take n order) k 0 (omega arith) ∙ get_or_past (take n order) (k - 1) 0 (omega (arith, length-take n order))
  ]

  rows_named : RowsNamed tasks answer (padded (take n order))
  rows_named = record {
    size = padded_length (take n order);
    named = λ k low high. subst (HasTaskAt tasks (task_of answer k)) (sym (read_back k low high)) (named k low high);
    rest = nothing_past;
  }

  pub as_many : count_of answer ≡ count_of tasks
  as_many = (pairs_in_order tasks answer (Ok (padded (take n order))) (paired.0, paired.1, paired.2, rows_named)).0

module _ (tasks other answer another : Sheet) (same : Alike tasks other) (same' : Alike answer another) (paired : IsPaired tasks answer) (few : count_of tasks ≤ 32)
    (order order' estimates estimates' : List ℕ) (one : AnswerOf tasks answer order estimates) (two : AnswerOf other another order' estimates') where
  many : count_of answer ≡ count_of tasks
  many = as_many tasks answer paired order one.named one.size few

  -- the other answer's line names a task of the first sheet
  named_here : (k : ℕ) → 1 ≤ k → k ≤ count_of answer → HasTaskAt tasks (task_of answer k) (nth order' k 0)
  named_here k low high =
      let there = two.named k low (omega (arith, high, count answer another same')) in
      (there.0, omega (arith, there.1, count tasks other same), field tasks other same (nth order' k 0) Task ∙ there.2 ∙ sym (field answer another same' k Task))

  same_place : (k : ℕ) → 1 ≤ k → k ≤ count_of answer → nth order k 0 ≡ nth order' k 0
  same_place k low high = one_row tasks paired.0 (task_of answer k) (nth order k 0) (nth order' k 0) (one.named k low high) (named_here k low high)

  pub one_order : order ≡ order'
  one_order =
      ext_get_or 0 order order' (one.size ∙ count tasks other same ∙ sym two.size)
      (λ j inside. sym (nth_next order j 0) ∙ same_place (j + 1) (omega arith) (omega (arith, one.size, many)) ∙ nth_next order' j 0)

  same_estimate : (k : ℕ) → 1 ≤ k → k ≤ count_of tasks → nth estimates k 0 ≡ nth estimates' k 0
  same_estimate k low high =
      let line = paired.2 k low high in
      let l = line.0 in
      let at = line.1 in
      let here : nth order l 0 ≡ k = one_row tasks paired.0 (task_of answer l) (nth order l 0) k (one.named l at.0 at.1) (low, high, sym at.2) in
      let there : nth order' l 0 ≡ k = sym (same_place l at.0 at.1) ∙ here in
      ap (λ j. nth estimates j 0) (sym here) ∙ one.estimated l at.0 at.1 ∙ number answer another same' l Estimate ∙ sym (two.estimated l at.0 (omega (arith, at.1, count answer another same'))) ∙ ap (λ j. nth estimates' j 0) there

  pub one_estimates : estimates ≡ estimates'
  one_estimates =
      ext_get_or 0 estimates estimates' (one.many ∙ count tasks other same ∙ sym two.many)
      (λ j inside. sym (nth_next estimates j 0) ∙ same_estimate (j + 1) (omega arith) (omega (arith, one.many)) ∙ nth_next estimates' j 0)

-- the same miss has the same outcome
pub outcome_alike : (tasks other : Sheet) → Alike tasks other → (miss : Option Miss) (o p : Outcome) → OutcomeOf tasks miss o → OutcomeOf other miss p → SameOutcome o p
outcome_alike tasks other same None outcome.Passes outcome.Passes a b = tt
outcome_alike tasks other same None outcome.Passes (outcome.Fails task bound) a b = absurd b
outcome_alike tasks other same None (outcome.Fails task bound) p a b = absurd a
outcome_alike tasks other same (Some miss) outcome.Passes p a b = absurd a
outcome_alike tasks other same (Some miss) (outcome.Fails task bound) outcome.Passes a b = absurd b
outcome_alike tasks other same (Some miss) (outcome.Fails task bound) (outcome.Fails task' bound') a b = (a.0 ∙ field tasks other same miss.task Task ∙ sym b.0, a.1 ∙ sym b.1)
