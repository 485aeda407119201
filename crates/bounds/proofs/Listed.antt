-- A list of row numbers, gone through from its first on with the rows that were seen.
use Rattle.std.proofs.Common.{◌≡◌, ℕ, ◌+◌, ◌-◌, ◌<◌, ◌≤◌, Bool, true, false, List, length, get_or, set, replicate, sym, ap, ◌∙◌, inl, inr, arith}
use Rattle.std.proofs.lemmas.List.{get_or-set_same, get_or-set_other, get_or-replicate, get_or_past, length-replicate, length-set}
use Rattle.std.proofs.lemmas.Bool.{cases_eq, cases_lt, both_ways, false≢true}
use Rattle.table.specs.declared.row.Row.{Row}
use Rattle.bounds.specs.Orders.{task_at, Order}

-- the first p tasks are rows and apart, and just these are seen
pub record Listed (n : ℕ) (order : List ℕ) (seen : List Bool) (p : ℕ) : Type 0 where
  pub long : length seen ≡ 32
  pub rows : (q : ℕ) → q < p → (1 ≤ task_at order q) × (task_at order q ≤ n)
  pub apart : (q r : ℕ) → q < p → r < p → task_at order q ≡ task_at order r → q ≡ r
  pub marked : (q : ℕ) → q < p → get_or seen (task_at order q - 1) false ≡ true
  pub came : (j : ℕ) → get_or seen j false ≡ true → (q : ℕ) × (q < p) × (task_at order q ≡ j + 1)

pub none_seen : (j : ℕ) → get_or (replicate 32 false) j false ≡ false
none_seen j = elim (cases_lt j 32) [ inl l ↦ get_or-replicate 32 j false false l | inr m ↦ get_or_past (replicate 32 false) j false (omega (arith, length-replicate 32 false)) ]

pub listed_none : (n : ℕ) (order : List ℕ) → Listed n order (replicate 32 false) 0
listed_none n order = record {
  long = length-replicate 32 false;
  rows = λ q l. absurd (omega arith);
  apart = λ q r l m e. absurd (omega arith);
  marked = λ q l. absurd (omega arith);
  came = λ j y. absurd (false≢true (sym (none_seen j) ∙ y));
}

module _ (rows : List Row) (order : List ℕ) (seen : List Bool) (p : ℕ) (few : length rows ≤ 32) (listed : Listed (length rows) order seen p) where
  abbrev task : ℕ
  task = task_at order p

  -- a task that was seen stands in two places
  pub repeated : p < length rows → get_or seen (task - 1) false ≡ true → 1 ≤ task → Order rows order → ⊥
  repeated l y low o =
      let was = listed.came (task - 1) y in
      let same : was.0 ≡ p = o.apart was.0 p (omega (arith, was.1)) l (omega (arith, was.2)) in
      omega (arith, was.1)

  pub listed_more : 1 ≤ task → task ≤ length rows → get_or seen (task - 1) false ≡ false → Listed (length rows) order (set seen (task - 1) true) (p + 1)
  listed_more low high new =
      let other : (q : ℕ) → q < p → task_at order q ≡ task → ⊥ =
      λ q l e. both_ways (get_or seen (task - 1) false) new (ap (λ k. get_or seen (k - 1) false) (sym e) ∙ listed.marked q l) in
      record {
        long = length-set seen (task - 1) true ∙ listed.long;
        rows = λ q l. elim (cases_eq q p) [
          | inl e ↦ (omega (arith, ap (task_at order) e), omega (arith, ap (task_at order) e))
          | inr d ↦ listed.rows q (omega arith)
        ];
        apart = λ q r l m e. elim (cases_eq q p) [
          | inl x ↦ elim (cases_eq r p) [ inl y ↦ omega arith | inr d ↦ absurd (other r (omega arith) (sym e ∙ ap (task_at order) x)) ]
          | inr d ↦ elim (cases_eq r p) [ inl y ↦ absurd (other q (omega arith) (e ∙ ap (task_at order) y)) | inr f ↦ listed.apart q r (omega arith) (omega arith) e ]
        ];
        marked = λ q l. elim (cases_eq (task_at order q) task) [
          | inl e ↦ ap (λ k. get_or (set seen (task - 1) true) (k - 1) false) e ∙ get_or-set_same seen (task - 1) true false (omega (arith, listed.long))
          | inr d ↦ elim (cases_eq q p) [
            | inl x ↦ absurd (d (ap (task_at order) x))
            | inr f ↦ let row = listed.rows q (omega arith) in get_or-set_other seen (task - 1) (task_at order q - 1) true false (λ e. d (omega arith)) ∙ listed.marked q (omega arith)
          ]
        ];
        came = λ j y. elim (cases_eq j (task - 1)) [
          | inl e ↦ (p, omega arith, omega arith)
          | inr d ↦ let was = listed.came j (sym (get_or-set_other seen (task - 1) j true false d) ∙ y) in (was.0, omega (arith, was.1), was.2)
        ];
      }
