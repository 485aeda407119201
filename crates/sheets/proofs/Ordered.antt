-- The rows that an accepted answer names are each row once.
use Rattle.std.proofs.Common.{◌≡◌, ◌≢◌, ℕ, zero, suc, ◌+◌, ◌-◌, ◌<◌, ◌≤◌, cond, nat_lt, true, false, List, Result, Ok, Err, sym, ap, subst, ◌∙◌, inl, inr, arith}
use Rattle.std.specs.Result.{IfOk}
use Rattle.std.proofs.lemmas.Bool.{cases_lt}
use Rattle.std.proofs.lemmas.Bool.Decides.{nat_tests}
use Rattle.table.specs.declared.fault.Fault.{Fault}
use Rattle.sheets.specs.declared.sheet.Sheet.{Sheet}
use Rattle.sheets.specs.Pairs.{count_of, task_of, IsNewName, Answers, IsAnswered, EachLine, RowsNamed, EachRowOnce, Pairs}

-- the numbers but a, in order
abbrev skip : ℕ → ℕ → ℕ
skip a j = cond (nat_lt j a) j (j + 1)

skip_below : (a j : ℕ) → j < a → skip a j ≡ j
skip_below a j l = let low : nat_lt j a ≡ true = grind (arith, nat_tests) in ap (λ b. cond b j (j + 1)) low

skip_above : (a j : ℕ) → a ≤ j → skip a j ≡ j + 1
skip_above a j l = let high : nat_lt j a ≡ false = grind (arith, nat_tests) in ap (λ b. cond b j (j + 1)) high

skip_onto : (a j m : ℕ) → j ≢ a → j < m → a < m → (i : ℕ) × (i < m - 1) × (skip a i ≡ j)
skip_onto a j m other low in' = elim (cases_lt j a) [
  | inl l ↦ (j, omega arith, skip_below a j l)
  | inr g ↦ let above : a < j = omega arith in (j - 1, omega arith, skip_above a (j - 1) (omega arith) ∙ (let e : j - 1 + 1 ≡ j = omega arith in e))
]

-- where each of n has one of m, and no two have the same, n is at most m
no_more : (n m : ℕ) (has : ℕ → ℕ → Type 0) → ((k : ℕ) → k < n → (j : ℕ) × (j < m) × has k j) → ((k l j : ℕ) → k < n → l < n → has k j → has l j → k ≡ l) → n ≤ m
no_more zero m has each apart = omega arith
no_more (suc n) m has each apart =
    let last = each n (omega arith) in
    let rest = no_more n (m - 1) (λ k j. has k (skip last.0 j))
    (λ k l.
    let own = each k (omega arith) in
    let at = skip_onto last.0 own.0 m (λ e. let same : k ≡ n = apart k n last.0 (omega arith) (omega arith) (subst (has k) e own.2) last.2 in omega arith) own.1 last.1 in
    (at.0, at.1, subst (has k) (sym at.2) own.2))
    (λ k l j a b x y. apart k l (skip last.0 j) (omega arith) (omega arith) x y) in
    omega (arith, rest, last.1)

-- no two lines have the same name
same_line : (s : Sheet) (n : ℕ) → EachLine (IsNewName s) n → (k l : ℕ) → 1 ≤ k → k ≤ n → 1 ≤ l → l ≤ n → task_of s k ≡ task_of s l → k ≡ l
same_line s n new k l a b d e is = elim (cases_lt k l) [
  | inl low ↦ absurd (new l d e k a low is)
  | inr g ↦ elim (cases_lt l k) [ inl low ↦ absurd (new k a b l d low (sym is)) | inr h ↦ omega arith ]
]

module _ (tasks answer : Sheet) (new : EachLine (IsNewName tasks) (count_of tasks)) (answers : EachLine (Answers tasks answer) (count_of answer)) (answered : EachLine (IsAnswered tasks answer) (count_of tasks)) where
  fresh : EachLine (IsNewName answer) (count_of answer)
  fresh k low high = (answers k low high).1

  few_answers : count_of answer ≤ count_of tasks
  few_answers = no_more (count_of answer) (count_of tasks) (λ k j. task_of tasks (j + 1) ≡ task_of answer (k + 1))
      (λ k l. let row = (answers (k + 1) (omega arith) (omega arith)).0 in (row.0 - 1, omega (arith, row.1.0, row.1.1), ap (task_of tasks) (let e : row.0 - 1 + 1 ≡ row.0 = omega (arith, row.1.0) in e) ∙ row.1.2))
      (λ k l j a b x y. let same = same_line answer (count_of answer) fresh (k + 1) (l + 1) (omega arith) (omega arith) (omega arith) (omega arith) (sym x ∙ y) in omega (arith, same))

  few_tasks : count_of tasks ≤ count_of answer
  few_tasks = no_more (count_of tasks) (count_of answer) (λ k j. task_of answer (j + 1) ≡ task_of tasks (k + 1))
      (λ k l. let line = answered (k + 1) (omega arith) (omega arith) in (line.0 - 1, omega (arith, line.1.0, line.1.1), ap (task_of answer) (let e : line.0 - 1 + 1 ≡ line.0 = omega (arith, line.1.0) in e) ∙ line.1.2))
      (λ k l j a b x y. let same = same_line tasks (count_of tasks) new (k + 1) (l + 1) (omega arith) (omega arith) (omega arith) (omega arith) (sym x ∙ y) in omega (arith, same))

  each_row_once : (rows : List ℕ) → RowsNamed tasks answer rows → EachRowOnce tasks answer rows
  each_row_once rows named = (
    omega (arith, few_answers, few_tasks),
    λ k l a b d e is. same_line answer (count_of answer) fresh k l a b d e (sym (named.named k a b).2 ∙ ap (task_of tasks) is ∙ (named.named l d e).2),
    λ k low high. let at = named.named k low high in (at.0, at.1),
  )

-- pairing names each row once
pub pairs_in_order : (tasks answer : Sheet) (r : Result (List ℕ) Fault) → Pairs tasks answer r → IfOk r (EachRowOnce tasks answer)
pairs_in_order tasks answer (Ok rows) h = each_row_once tasks answer h.0 h.1 h.2 rows h.3
pairs_in_order tasks answer (Err fault) h = tt
