-- The estimates of an answer, by row.
use Rattle.std.proofs.Common.{◌≡◌, ℕ, ◌+◌, ◌-◌, ◌<◌, ◌≤◌, List, length, get_or, set, Ok, sym, ap, subst, ◌∙◌, inl, inr, arith}
use Rattle.std.proofs.lemmas.Bool.{cases_lt}
use Rattle.table.specs.Places.{nth}
use Rattle.table.proofs.Placed.{nth_next}
use Rattle.sheets.specs.declared.form.Column.TheVariants.{Wcet, Deadline, Estimate}
use Rattle.sheets.specs.declared.sheet.Sheet.{Sheet}
use Rattle.sheets.specs.Pairs.{count_of, task_of, IsNewName, HasTaskAt, EachLine, EachRowOnce, Pairs}
use Rattle.sheets.proofs.Paired.{each_more, set_here, set_there}
use Rattle.marking.specs.Questions.{number_under, HasEstimate}
use Rattle.marking.specs.Reports.{EstimatesOf}

-- a name stands in one line of the tasks sheet
pub one_row : (tasks : Sheet) → EachLine (IsNewName tasks) (count_of tasks) → (name : List ℕ) (j k : ℕ) → HasTaskAt tasks name j → HasTaskAt tasks name k → j ≡ k
one_row tasks new name j k a b = elim (cases_lt j k) [
  | inl low ↦ absurd (new k b.0 b.1 j a.0 low (a.2 ∙ sym b.2))
  | inr m ↦ elim (cases_lt k j) [
    | inl low ↦ absurd (new j a.0 a.1 k b.0 low (b.2 ∙ sym a.2))
    | inr n ↦ omega arith
  ]
]

module _ (tasks answer : Sheet) (order : List ℕ) (pairs : Pairs tasks answer (Ok order)) (i : ℕ) (inside : i < count_of answer) where
  -- the row that the line names
  pub row_here : HasTaskAt tasks (task_of answer (i + 1)) (get_or order i 0)
  row_here = subst (HasTaskAt tasks (task_of answer (i + 1))) (nth_next order i 0) (pairs.3.named (i + 1) (omega arith) (omega arith))

  pub row_few : count_of tasks ≤ 32 → get_or order i 0 - 1 < 32
  row_few few = omega (arith, row_here.0, row_here.1)

  module _ (w d e : ℕ) (ws : w ≡ number_under tasks (get_or order i 0) Wcet) (ds : d ≡ number_under tasks (get_or order i 0) Deadline) (es : e ≡ number_under answer (i + 1) Estimate) where
    pub estimate_lies : w ≤ e → e ≤ d → HasEstimate tasks answer (i + 1)
    estimate_lies low high row named =
        let same = one_row tasks pairs.0 _ row (get_or order i 0) named row_here in
        subst (λ r. (number_under tasks r Wcet ≤ number_under answer (i + 1) Estimate) × (number_under answer (i + 1) Estimate ≤ number_under tasks r Deadline)) (sym same) (omega (arith, low), omega (arith, high))

    pub estimate_not : (w ≤ e → e ≤ d → ⊥) → HasEstimate tasks answer (i + 1) → ⊥
    estimate_not none has = let lies = has (get_or order i 0) row_here in none (omega (arith, lies.0)) (omega (arith, lies.1))

    pub held_more : EachRowOnce tasks answer order → (estimates : List ℕ) → length estimates ≡ 32 → count_of tasks ≤ 32 → EstimatesOf answer order estimates i → EstimatesOf answer order (set estimates (get_or order i 0 - 1) e) (i + 1)
    held_more once estimates size few held =
        let row = get_or order i 0 in
        let at : row - 1 + 1 ≡ row = omega (arith, row_here.0) in
        let after = set estimates (row - 1) e in
        each_more (λ k. nth after (nth order k 0) 0 ≡ number_under answer k Estimate) i
        (λ k low high.
        let named = pairs.3.named k low (omega arith) in
        set_there estimates (row - 1) e (nth order k 0) named.0 (λ is. let same = once.1 k (i + 1) low (omega arith) (omega arith) (omega arith) (is ∙ at ∙ sym (nth_next order i 0)) in omega (arith, same)) ∙ held k low high)
        (ap (λ r. nth after r 0) (nth_next order i 0 ∙ sym at) ∙ set_here estimates (row - 1) e (omega (arith, size, row_few few)) ∙ es)
