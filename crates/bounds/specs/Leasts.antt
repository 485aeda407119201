-- The least number of which a test holds, and answers that are the least window that fits a load.
use Rattle.std.specs.Prelude.{◌≡◌, ℕ, zero, suc, ◌+◌, ◌-◌, ◌/◌, ◌<◌, ◌≤◌, Bool, true, List, Some, None, Option, refl}
use Rattle.std.proofs.Common.{sym, ap, ◌∙◌, inl, inr, arith}
use Rattle.std.proofs.lemmas.Bool.{cases_Bool, cond-true, cond-false, leb-true, le-leb}
use Rattle.std.proofs.lemmas.Option.{none-some, same_Some}
use Rattle.table.specs.declared.row.Row.{Row}
use Rattle.table.specs.Places.{nth}
use Rattle.table.specs.Rows.{Names}
use Rattle.bounds.specs.Questions.{Asked, own, Sound, Lies, NoMore, Laws, In, soundb}
use Rattle.bounds.specs.Responses.{least_from, least_fit, answer_by}
use Rattle.bounds.specs.Compared.{given_when, no_more_both}
use Rattle.bounds.specs.Sounds.{sound_from, sound_test}
use Rattle.bounds.specs.Works.{div_mono}

-- what was found is in the range, and the test holds of it
pub least_is : (p : ℕ → Bool) (k n b : ℕ) → least_from p k n ≡ Some b → (k ≤ b) × (b < k + n) × (p b ≡ true)
unfolding least_from
least_is p k zero b is = absurd (none-some b is)
least_is p k (suc n) b is =
    elim (cases_Bool (p k)) [
      | inl y ↦
          let e = same_Some k b (sym (cond-true (p k) (Some k) (least_from p (k + 1) n) y) ∙ is) in
          (omega arith, omega arith, ap p (sym e) ∙ y)
      | inr z ↦
          let rest = least_is p (k + 1) n b (sym (cond-false (p k) (Some k) (least_from p (k + 1) n) z) ∙ is) in
          (omega (arith, rest.0), omega (arith, rest.1), rest.2)
    ]

after : (q : ℕ → Bool) (k n : ℕ) (r : Option ℕ) → least_from q (k + 1) n ≡ r → NoMore (Some k) r
after q k n None is = tt
after q k n (Some b) is = omega (arith, (least_is q (k + 1) n b is).0)

-- a test that holds wherever another does finds no later number
pub least_mono : (p q : ℕ → Bool) (k n : ℕ) → ((l : ℕ) → q l ≡ true → p l ≡ true) → NoMore (least_from p k n) (least_from q k n)
unfolding least_from
least_mono p q k zero h = tt
least_mono p q k (suc n) h =
    elim (cases_Bool (q k)) [
      | inl y ↦ rw (cond-true (q k) (Some k) (least_from q (k + 1) n) y, cond-true (p k) (Some k) (least_from p (k + 1) n) (h k y)) (let le : k ≤ k = omega arith in le)
      | inr z ↦ rw (cond-false (q k) (Some k) (least_from q (k + 1) n) z) (elim (cases_Bool (p k)) [
        | inl y ↦ rw (cond-true (p k) (Some k) (least_from p (k + 1) n) y) (after q k n (least_from q (k + 1) n) refl)
        | inr w ↦ rw (cond-false (p k) (Some k) (least_from p (k + 1) n) w) (least_mono p q (k + 1) n h)
      ])
    ]

module _ (m : ℕ) (pos : 0 < m) (i : Row) where
  pub fit_bound : (load : ℕ → ℕ) (b : ℕ) → least_fit m i load ≡ Some b → Lies i b
  fit_bound load b is = let found = least_is _ i.wcet (i.deadline - i.wcet + 1) b is in (found.0, omega (arith, found.1, i.ok))

  -- a smaller load in each window never gives a greater answer
  pub fit_mono : (load more : ℕ → ℕ) → ((l : ℕ) → load l ≤ more l) → NoMore (least_fit m i load) (least_fit m i more)
  fit_mono load more le =
      least_mono _ _ i.wcet (i.deadline - i.wcet + 1)
      (λ l fits. le-leb (i.wcet + load l / m) l (omega (arith, leb-true (i.wcet + more l / m) l fits, div_mono (load l) (more l) m pos (le l))))

-- more tasks above, and greater estimates of those above, never give less load in a window
abbrev pub LoadGrows : (Asked → ℕ → ℕ) → Type 0
LoadGrows load =
    (q : Asked) (above : List Bool) (estimates : List ℕ) → ((k : ℕ) → In q.above k → In above k) →
    ((k : ℕ) → Names q.rows k → In q.above k → nth q.estimates k 0 ≤ nth estimates k 0) →
    (l : ℕ) → load q l ≤ load (record q { above = above; estimates = estimates }) l

-- A test whose answer is the least window that fits its load keeps the laws, if its load grows so.
module _ (m : ℕ) (pos : 0 < m) (load : Asked → ℕ → ℕ) (mono : LoadGrows load) where
  -- the answer to a sound question
  pub fit_sound : (q : Asked) → Sound q → answer_by m load q ≡ least_fit m (own q) (load q)
  fit_sound q h = cond-true (soundb q) _ None (sound_test q h)

  grows : (q : Asked) (above : List Bool) (estimates : List ℕ) → let other = record q { above = above; estimates = estimates } in Sound q → Sound other → ((k : ℕ) → In q.above k → In above k) → ((k : ℕ) → Names q.rows k → In q.above k → nth q.estimates k 0 ≤ nth estimates k 0) → NoMore (answer_by m load q) (answer_by m load other)
  grows q above estimates h k sub le = rw (fit_sound q h, fit_sound (record q { above = above; estimates = estimates }) k) (fit_mono m pos (own q) _ _ (mono q above estimates sub le))

  pub fit_laws : Laws (answer_by m load)
  fit_laws = record {
    bound = λ q b is.
        let given = given_when (soundb q) _ b is in
        (sound_from q given.0, fit_bound m pos (own q) _ b given.1);
    reads = λ q f h k same.
        no_more_both _ _
        (grows q q.above f h k (λ _ y. y) (λ j _ y. omega (arith, same j y)))
        (grows (record q { estimates = f }) q.above q.estimates k h (λ _ y. y) (λ j _ y. omega (arith, same j y)));
    more = λ q u h k sub. grows q u q.estimates h k sub (λ _ _ _. omega arith);
    greater = λ q f h k le. grows q q.above f h k (λ _ y. y) (λ j names _. le j names);
  }
