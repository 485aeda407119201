-- How answers compare: late is greater than every number.
use Rattle.std.specs.Prelude.{◌≡◌, ℕ, ◌≤◌, Bool, true, false, cond, Some, None, Option, nat_le, refl, if◌then◌else◌}
use Rattle.std.proofs.Common.{ap, subst, inl, inr, arith}
use Rattle.std.proofs.lemmas.Bool.{cases_Bool, cond-true, cond-false, leb-true, le-leb}
use Rattle.std.proofs.lemmas.Option.{none-some, cond_some}
use Rattle.bounds.specs.Questions.{NoMore, timely}

-- what is given only where a test holds
pub given_when : {A : Type 0} (test : Bool) (a : Option A) (x : A) → (if test then a else None) ≡ Some x → (test ≡ true) × (a ≡ Some x)
given_when true a x is = (refl, is)
given_when false a x is = absurd (none-some x is)

pub no_more_self : (a : Option ℕ) → NoMore a a
no_more_self None = tt
no_more_self (Some x) = omega arith

pub no_more_same : (a b : Option ℕ) → a ≡ b → NoMore a b
no_more_same a b e = subst (λ c. NoMore a c) e (no_more_self a)

pub no_more_both : (a b : Option ℕ) → NoMore a b → NoMore b a → a ≡ b
no_more_both None None h k = refl
no_more_both None (Some y) h k = absurd h
no_more_both (Some x) None h k = absurd k
no_more_both (Some x) (Some y) h k = ap Some (omega arith)

pub no_more_late : (a : Option ℕ) → NoMore a None
no_more_late None = tt
no_more_late (Some x) = tt

pub timely_mono : (d a b : ℕ) → a ≤ b → NoMore (timely d a) (timely d b)
timely_mono d a b h =
    elim (cases_Bool (nat_le b d)) [
      | inl y ↦ let l = leb-true b d y in rw (cond-true (nat_le a d) (Some a) None (le-leb a d (omega arith)), cond-true (nat_le b d) (Some b) None y) h
      | inr z ↦ rw (cond-false (nat_le b d) (Some b) None z) (no_more_late (timely d a))
    ]

pub timely_some : (d a b : ℕ) → timely d a ≡ Some b → (a ≡ b) × (b ≤ d)
timely_some d a b is = let given = cond_some (nat_le a d) a b is in (given.1, omega (arith, leb-true a d given.0, given.1))
