-- The k-th place of a list, counted from 1, is the place k - 1 counted from 0.
use Rattle.std.proofs.Common.{◌≡◌, ℕ, zero, suc, ◌+◌, ◌-◌, ◌≤◌, List, length, get_or, set, replicate, refl, ap, inl, inr, add-one, arith}
use Rattle.std.proofs.lemmas.Bool.{cases_lt}
use Rattle.std.proofs.lemmas.List.{get_or-set_same, get_or-set_other, get_or-replicate, get_or_past, length-set, length-replicate}
use Rattle.table.specs.Places.{nth, put}

module _ {A : Type 0} (xs : List A) (k : ℕ) where
  pub nth_at : (d : A) → 1 ≤ k → nth xs k d ≡ get_or xs (k - 1) d
  unfolding nth
  nth_at d h = elim k as (λ j. 1 ≤ j → nth xs j d ≡ get_or xs (j - 1) d) [
    | zero ↦ λ no. absurd (omega arith)
    | suc j ↦ λ _. ap (λ i. get_or xs i d) (omega arith)
  ] h

  pub put_at : (a : A) → 1 ≤ k → put xs k a ≡ set xs (k - 1) a
  unfolding put
  put_at a h = elim k as (λ j. 1 ≤ j → put xs j a ≡ set xs (j - 1) a) [
    | zero ↦ λ no. absurd (omega arith)
    | suc j ↦ λ _. ap (λ i. set xs i a) (omega arith)
  ] h

  pub nth_next : (d : A) → nth xs (k + 1) d ≡ get_or xs k d
  unfolding nth
  nth_next d = rw (add-one k) refl

  pub put_next : (a : A) → put xs (k + 1) a ≡ set xs k a
  unfolding put
  put_next a = rw (add-one k) refl

module _ {A : Type 0} (xs : List A) where
  -- the number 0 names no place
  pub nth_none : (d : A) → nth xs 0 d ≡ d
  unfolding nth
  nth_none d = refl

pub nth_put_same : {A : Type 0} (xs : List A) (k : ℕ) (a d : A) → 1 ≤ k → k ≤ length xs → nth (put xs k a) k d ≡ a
unfolding nth put
nth_put_same xs zero a d low high = absurd (omega arith)
nth_put_same xs (suc k) a d low high = get_or-set_same xs k a d (omega arith)

pub nth_put_other : {A : Type 0} (xs : List A) (k j : ℕ) (a d : A) → (j ≡ k → ⊥) → nth (put xs k a) j d ≡ nth xs j d
unfolding nth put
nth_put_other xs zero j a d apart = refl
nth_put_other xs (suc k) zero a d apart = refl
nth_put_other xs (suc k) (suc j) a d apart = get_or-set_other xs k j a d (λ e. apart (ap suc e))

pub length_put : {A : Type 0} (xs : List A) (k : ℕ) (a : A) → length (put xs k a) ≡ length xs
unfolding put
length_put xs zero a = refl
length_put xs (suc k) a = length-set xs k a

pub nth_replicate : {A : Type 0} (n : ℕ) (a : A) (k : ℕ) → nth (replicate n a) k a ≡ a
unfolding nth
nth_replicate n a zero = refl
nth_replicate n a (suc k) = elim (cases_lt k n) [ inl l ↦ get_or-replicate n k a a l | inr m ↦ get_or_past (replicate n a) k a (omega (arith, length-replicate n a)) ]
