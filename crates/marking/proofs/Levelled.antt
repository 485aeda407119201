-- The levels of an order that was found, one after another.
use Rattle.std.proofs.Common.{◌≡◌, ℕ, ◌+◌, ◌-◌, ◌<◌, ◌≤◌, List, [], length, get_or, set, sym, subst, ◌∙◌, arith}
use Rattle.std.proofs.lemmas.List.{get_or-set_same, get_or-set_other}
use Rattle.table.specs.Places.{nth}
use Rattle.table.proofs.Placed.{nth_at, nth_next}
use Rattle.study.specs.declared.finding.Finding.{Finding}
use Rattle.sheets.specs.declared.sheet.Sheet.{Sheet}
use Rattle.sheets.specs.Pairs.{count_of, task_of}
use Rattle.sheets.proofs.Paired.{each_more}
use Rattle.marking.specs.Reports.{IsOfLines, LevelsOf, BlankPast}

module _ {A : Type 0} (xs : List A) (i : ℕ) (a d : A) where
  nth_here : i < length xs → nth (set xs i a) (i + 1) d ≡ a
  nth_here inside = nth_next (set xs i a) i d ∙ get_or-set_same xs i a d inside

  nth_there : (k : ℕ) → 1 ≤ k → (k ≡ i + 1 → ⊥) → nth (set xs i a) k d ≡ nth xs k d
  nth_there k low other = nth_at (set xs i a) k d low ∙ get_or-set_other xs i (k - 1) a d (λ e. other (omega arith)) ∙ sym (nth_at xs k d low)

module _ (tasks : Sheet) (f : Finding) (i : ℕ) (names : List (List ℕ)) (estimates : List ℕ) (name : List ℕ) (estimate : ℕ) (many : i < length names) (size : i < length estimates) where
  pub levels_more : LevelsOf tasks f i names estimates → name ≡ task_of tasks (nth f.order (i + 1) 0) → estimate ≡ nth f.estimates (nth f.order (i + 1) 0) 0 → LevelsOf tasks f (i + 1) (set names i name) (set estimates i estimate)
  levels_more levels is own = record {
    named = each_more (λ k. nth (set names i name) k [] ≡ task_of tasks (nth f.order k 0)) i (λ k low high. nth_there names i name [] k low (λ e. omega arith) ∙ levels.named k low high) (nth_here names i name [] many ∙ is);
    estimated = each_more (λ k. nth (set estimates i estimate) k 0 ≡ nth f.estimates (nth f.order k 0) 0) i (λ k low high. nth_there estimates i estimate 0 k low (λ e. omega arith) ∙ levels.estimated k low high) (nth_here estimates i estimate 0 size ∙ own);
  }

  pub blank_more : BlankPast i names estimates → BlankPast (i + 1) (set names i name) (set estimates i estimate)
  blank_more blank k past = (
    nth_there names i name [] k (omega arith) (λ e. omega arith) ∙ (blank k (omega arith)).0,
    nth_there estimates i estimate 0 k (omega arith) (λ e. omega arith) ∙ (blank k (omega arith)).1,
  )

pub no_levels : (tasks : Sheet) (f : Finding) (names : List (List ℕ)) (estimates : List ℕ) → LevelsOf tasks f 0 names estimates
no_levels tasks f names estimates = record { named = λ k low high. absurd (omega arith); estimated = λ k low high. absurd (omega arith) }

-- a task of an order of value lines is one
pub task_row : (tasks : Sheet) (order : List ℕ) → IsOfLines tasks order → (i : ℕ) → i < count_of tasks → (1 ≤ get_or order i 0) × (get_or order i 0 ≤ count_of tasks)
task_row tasks order each i inside = subst (λ k. (1 ≤ k) × (k ≤ count_of tasks)) (nth_next order i 0) (each (i + 1) (omega arith) (omega arith))
