-- Places of a list written, counted from 1.
use Rattle.std.proofs.Common.{◌≡◌, ℕ, ◌+◌, ◌-◌, ◌≤◌, List, get_or, set, sym, ap, ◌∙◌, arith}
use Rattle.std.proofs.lemmas.List.{set-set, set-get_or, set_comm}
use Rattle.table.specs.Places.{nth, put}
use Rattle.table.proofs.Placed.{nth_at, put_at, nth_next, put_next}

module _ {A : Type 0} (xs : List A) where
  -- with what stood there
  pub put_same : (k : ℕ) (d : A) → 1 ≤ k → put xs k (nth xs k d) ≡ xs
  put_same k d low = put_at xs k (nth xs k d) low ∙ ap (set xs (k - 1)) (nth_at xs k d low) ∙ set-get_or xs (k - 1) d

  -- twice
  pub put_twice : (k : ℕ) (a b : A) → 1 ≤ k → put (put xs k a) k b ≡ put xs k b
  put_twice k a b low = put_at (put xs k a) k b low ∙ ap (λ ys. set ys (k - 1) b) (put_at xs k a low) ∙ set-set xs (k - 1) a b ∙ sym (put_at xs k b low)

  -- two places, in either order
  pub put_apart : (k p : ℕ) (a b : A) → 1 ≤ k → 1 ≤ p → (k ≡ p → ⊥) → put (put xs k a) p b ≡ put (put xs p b) k a
  put_apart k p a b low low' apart =
      put_at (put xs k a) p b low' ∙ ap (λ ys. set ys (p - 1) b) (put_at xs k a low)
      ∙ set_comm xs (k - 1) (p - 1) a b (λ e. apart (omega arith))
      ∙ sym (put_at (put xs p b) k a low ∙ ap (λ ys. set ys (k - 1) a) (put_at xs p b low'))

  -- by the place, counted from 0
  pub put_written : (place : ℕ) (d : A) (f : A → A) → set xs place (f (get_or xs place d)) ≡ put xs (place + 1) (f (nth xs (place + 1) d))
  put_written place d f = sym (put_next xs place (f (get_or xs place d))) ∙ ap (λ v. put xs (place + 1) (f v)) (sym (nth_next xs place d))
