-- Lines that are asked one after another.
use Rattle.std.proofs.Common.{◌≡◌, ℕ, zero, suc, ◌+◌, ◌-◌, ◌<◌, ◌≤◌, true, false, Option, Some, None, List, length, replicate, set, sym, subst, ◌∙◌, inl, inr, arith}
use Rattle.std.specs.Option.{MatchOption, is_some}
use Rattle.std.proofs.lemmas.Bool.{cases_lt, false≢true}
use Rattle.std.proofs.lemmas.List.{get_or-set_same, get_or-set_other, get_or-replicate, get_or_past, length-replicate}
use Rattle.table.specs.Places.{nth}
use Rattle.table.proofs.Placed.{nth_at, nth_next, nth_none}
use Rattle.sheets.specs.Pairs.{EachLine, FirstLine}

module _ (question : ℕ → Type 0) (i : ℕ) (each : EachLine question i) where
  pub each_more : question (i + 1) → EachLine question (i + 1)
  each_more here k low high = elim (cases_lt k (i + 1)) [
    | inl l ↦ each k low (omega arith)
    | inr m ↦ subst question (let e : i + 1 ≡ k = omega arith in e) here
  ]

  pub first_line : (n : ℕ) → i < n → (question (i + 1) → ⊥) → FirstLine question n (i + 1)
  first_line n inside bad = (omega arith, omega arith, bad, λ k low high. each k low (omega arith))

-- a list with another number in its (i + 1)-th place
module _ (rows : List ℕ) (i row : ℕ) where
  pub set_here : i < length rows → nth (set rows i row) (i + 1) 0 ≡ row
  set_here inside = nth_next (set rows i row) i 0 ∙ get_or-set_same rows i row 0 inside

  pub set_there : (k : ℕ) → 1 ≤ k → (k ≡ i + 1 → ⊥) → nth (set rows i row) k 0 ≡ nth rows k 0
  set_there k low other = nth_at (set rows i row) k 0 low ∙ get_or-set_other rows i (k - 1) row 0 (λ e. other (omega arith)) ∙ sym (nth_at rows k 0 low)

module _ (P : Type 0) (Q : ℕ → Type 0) where
  pub some_line : (r : Option ℕ) → is_some r ≡ true → MatchOption r P Q → (k : ℕ) × Q k
  some_line None e h = absurd (false≢true e)
  some_line (Some k) e h = (k, h)

  pub no_line : (r : Option ℕ) → is_some r ≡ false → MatchOption r P Q → P
  no_line None e h = h
  no_line (Some k) e h = absurd (false≢true (sym e))

-- a list of zeros
pub all_zero : (n k : ℕ) → nth {A = ℕ} (replicate n 0) k 0 ≡ 0
all_zero n zero = nth_none (replicate n 0) 0
all_zero n (suc k) = nth_at (replicate n 0) (suc k) 0 (omega arith) ∙ elim (cases_lt (suc k - 1) n) [
  | inl l ↦ get_or-replicate n (suc k - 1) 0 0 l
  | inr m ↦ get_or_past (replicate n 0) (suc k - 1) 0 (omega (arith, length-replicate {A = ℕ} n 0))
]
