-- A list by row of which the first p places are written.
use Rattle.std.proofs.Common.{◌≡◌, ℕ, ◌+◌, ◌-◌, ◌<◌, ◌≤◌, List, length, get_or, set, replicate, sym, ap, ◌∙◌, inl, inr, arith}
use Rattle.std.proofs.lemmas.List.{get_or-set_same, get_or-set_other, get_or-replicate, length-replicate, length-set}
use Rattle.std.proofs.lemmas.Bool.{cases_eq, cases_lt}
use Rattle.table.proofs.Placed.{nth_at}
use Rattle.bounds.specs.Climbs.{Lists}

-- f of the first p rows stands in its place, and 0 behind
pub record Written (f : ℕ → ℕ) (xs : List ℕ) (p : ℕ) : Type 0 where
  pub long : length xs ≡ 32
  pub done : (j : ℕ) → j < p → get_or xs j 0 ≡ f (j + 1)
  pub rest : (j : ℕ) → p ≤ j → j < 32 → get_or xs j 0 ≡ 0

pub written_none : (f : ℕ → ℕ) → Written f (replicate 32 0) 0
written_none f = record {
  long = length-replicate {A = ℕ} 32 0;
  done = λ j l. absurd (omega arith);
  rest = λ j _ l. get_or-replicate 32 j 0 0 l;
}

pub written_more : (f : ℕ → ℕ) (xs : List ℕ) (p : ℕ) → Written f xs p → p < 32 → (x : ℕ) → x ≡ f (p + 1) → Written f (set xs p x) (p + 1)
written_more f xs p w l x is = record {
  long = length-set xs p x ∙ w.long;
  done = λ j m. elim (cases_eq j p) [
    | inl e ↦ ap (λ i. get_or (set xs p x) i 0) e ∙ get_or-set_same xs p x 0 (omega (arith, w.long)) ∙ is ∙ ap (λ i. f (i + 1)) (sym e)
    | inr d ↦ get_or-set_other xs p j x 0 d ∙ w.done j (omega arith)
  ];
  rest = λ j m n. get_or-set_other xs p j x 0 (λ e. omega arith) ∙ w.rest j (omega arith) n;
}

-- past the rows f is 0 too
pub written_all : (f : ℕ → ℕ) (xs : List ℕ) (p n : ℕ) → Written f xs p → p ≡ n → ((k : ℕ) → n < k → k ≤ 32 → f k ≡ 0) → Lists f xs
written_all f xs p n w end past k low high = elim (cases_lt (k - 1) p) [
  | inl l ↦ nth_at xs k 0 low ∙ w.done (k - 1) l ∙ ap f (omega arith)
  | inr m ↦ nth_at xs k 0 low ∙ w.rest (k - 1) (omega arith) (omega arith) ∙ sym (past k (omega arith) high)
]
