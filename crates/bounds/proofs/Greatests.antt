-- The greatest total over a choice: what is computed is what it is, and a choice of the greatest numbers reaches it.
use Rattle.std.proofs.Common.{◌≡◌, ℕ, zero, suc, ◌+◌, ◌-◌, ◌*◌, ◌≤◌, Bool, true, false, cond, ◌&&◌, List, ◌==◌, leb, ltb, refl, sym, ap, ◌∙◌, inl, inr, mul-le-mul_right, arith}
use Rattle.std.proofs.lemmas.Bool.{cases_Bool, cases_lt, cond-true, cond-false, and_parts, and_from, lt-ltb, ltb-true, le-leb, lt-leb, eqb-true, eq-eqb, false≢true}
use Rattle.table.specs.Places.{nth}
use Rattle.bounds.specs.Questions.{In}
use Rattle.bounds.specs.Loads.{sum_to, total_of}
use Rattle.bounds.specs.Responses.{Choice, Greatest, greatest}
use Rattle.bounds.specs.Sums.{sum_mono}
use Rattle.bounds.proofs.Summing.{sum_same, sum_add, total_constant}

-- no choice exceeds what is computed
upper : (set : List Bool) (f : ℕ → ℕ) (c n : ℕ) (chosen : ℕ → Bool) → Choice set c n chosen → total_of chosen f n ≤ greatest set f c n
unfolding greatest sum_to
upper set f c zero chosen h = omega arith
upper set f c (suc n) chosen h =
    elim (cases_Bool (chosen (suc n))) [
      | inl y ↦
          let few = h.few in
          let one = cond-true {A = ℕ} (chosen (suc n)) 1 0 y in
          let rest = upper set f (c - 1) n chosen (record { inside = h.inside; few = omega arith }) in
          let taken = cond-true _ (greatest set f (c - 1) n + f (suc n)) 0 (and_from (nth set (suc n) false) (ltb 0 c) (h.inside (suc n) y) (lt-ltb 0 c (omega arith))) in
          omega (arith, rest, taken, cond-true (chosen (suc n)) (f (suc n)) 0 y)
      | inr z ↦
          let few = h.few in
          let none = cond-false {A = ℕ} (chosen (suc n)) 1 0 z in
          let rest = upper set f c n chosen (record { inside = h.inside; few = omega arith }) in
          omega (arith, rest, cond-false (chosen (suc n)) (f (suc n)) 0 z)
    ]

-- a choice among n rows, with or without the next one
abbrev extended : (ℕ → Bool) → ℕ → Bool → ℕ → Bool
extended p n last k = cond (leb k n) (p k) (last && k == suc n)

last_one : (last : Bool) (n : ℕ) → (last && suc n == suc n) ≡ last
last_one true n = eq-eqb (suc n) (suc n) refl
last_one false n = refl

extended_total : (p : ℕ → Bool) (n : ℕ) (last : Bool) (f : ℕ → ℕ) → total_of (extended p n last) f (suc n) ≡ total_of p f n + cond last (f (suc n)) 0
unfolding sum_to
extended_total p n last f =
    let front = sum_same (λ k. cond (extended p n last k) (f k) 0) (λ k. cond (p k) (f k) 0) n (λ k low high. ap (λ b. cond b (f k) 0) (cond-true (leb k n) (p k) (last && k == suc n) (le-leb k n high))) in
    let back : extended p n last (suc n) ≡ last = cond-false (leb (suc n) n) (p (suc n)) _ (lt-leb (suc n) n (omega arith)) ∙ last_one last n in
    ap (λ x. x + cond (extended p n last (suc n)) (f (suc n)) 0) front ∙ ap (λ b. total_of p f n + cond b (f (suc n)) 0) back

extended_choice : (set : List Bool) (c n : ℕ) (p : ℕ → Bool) (last : Bool) → ((k : ℕ) → p k ≡ true → In set k) → (last ≡ true → In set (suc n)) → total_of p (λ _. 1) n + cond last 1 0 ≤ c → Choice set c (suc n) (extended p n last)
extended_choice set c n p last inside final few = record {
  inside = λ k y. elim (cases_Bool (leb k n)) [
    | inl front ↦ inside k (sym (cond-true (leb k n) (p k) _ front) ∙ y)
    | inr back ↦
        let parts = and_parts last (k == suc n) (sym (cond-false (leb k n) (p k) (last && k == suc n) back) ∙ y) in
        ap (λ j. nth set j false) (eqb-true k (suc n) parts.1) ∙ final parts.0
  ];
  few = omega (arith, extended_total p n last (λ _. 1), few);
}

-- some choice reaches it
lower : (set : List Bool) (f : ℕ → ℕ) (c n : ℕ) → (chosen : ℕ → Bool) × Choice set c n chosen × (total_of chosen f n ≡ greatest set f c n)
unfolding greatest sum_to
lower set f c zero = ((λ _. false), record { inside = λ k no'. absurd (false≢true no'); few = omega arith }, refl)
lower set f c (suc n) =
    let without = lower set f c n in
    let with' = lower set f (c - 1) n in
    let x = greatest set f (c - 1) n + f (suc n) in
    let left' = extended_choice set c n without.0 false without.1.inside (λ no'. absurd (false≢true no')) (omega (arith, without.1.few)) in
    let leave : greatest set f c (suc n) ≡ greatest set f c n → (chosen : ℕ → Bool) × Choice set c (suc n) chosen × (total_of chosen f (suc n) ≡ greatest set f c (suc n)) =
    λ same. (extended without.0 n false, left', omega (arith, extended_total without.0 n false f, without.2, same)) in
    elim (cases_Bool (nth set (suc n) false && ltb 0 c)) [
      | inl y ↦
          let parts = and_parts (nth set (suc n) false) (ltb 0 c) y in
          let some = ltb-true 0 c parts.1 in
          let is = cond-true _ x 0 y in
          elim (cases_lt (greatest set f c n) x) [
            | inl more ↦ (
              extended with'.0 n true,
              extended_choice set c n with'.0 true with'.1.inside (λ _. parts.0) (omega (arith, with'.1.few)),
              omega (arith, extended_total with'.0 n true f, with'.2, is),
            )
            | inr less ↦ leave (omega (arith, is))
          ]
      | inr z ↦ leave (omega (arith, cond-false _ x 0 z))
    ]

pub greatest_is : (set : List Bool) (f : ℕ → ℕ) (c n : ℕ) → Greatest set f c n (greatest set f c n)
greatest_is set f c n = record { reached = lower set f c n; exceeded = upper set f c n }

-- there is one greatest total
pub greatest_one : (set : List Bool) (f : ℕ → ℕ) (c n x y : ℕ) → Greatest set f c n x → Greatest set f c n y → x ≡ y
greatest_one set f c n x y a b =
    omega (arith, a.reached.2, b.reached.2, b.exceeded a.reached.0 a.reached.1, a.exceeded b.reached.0 b.reached.1)

-- A choice p whose numbers are at least an edge, while all others are at most that, has the greatest total, if it has as many as it may or the edge is 0.
pub edge_best : (f : ℕ → ℕ) (c n edge : ℕ) (p : ℕ → Bool) → ((k : ℕ) → 1 ≤ k → k ≤ n → p k ≡ true → edge ≤ f k) → ((k : ℕ) → 1 ≤ k → k ≤ n → p k ≡ false → f k ≤ edge) → c * edge ≤ total_of p (λ _. 1) n * edge → (q : ℕ → Bool) → total_of q (λ _. 1) n ≤ c → total_of q f n ≤ total_of p f n
edge_best f c n edge p inner outer full q few =
    let past : ℕ → ℕ = λ k. f k - edge in
    let up : total_of q f n ≤ sum_to (λ k. cond (q k) edge 0 + past k) n =
    sum_mono _ _ n (λ k low high. elim (cases_Bool (q k)) [
      | inl y ↦ omega (arith, cond-true (q k) (f k) 0 y, cond-true (q k) edge 0 y)
      | inr z ↦ omega (arith, cond-false (q k) (f k) 0 z)
    ]) in
    let down : sum_to (λ k. cond (p k) edge 0 + past k) n ≤ total_of p f n =
    sum_mono _ _ n (λ k low high. elim (cases_Bool (p k)) [
      | inl y ↦ omega (arith, cond-true (p k) (f k) 0 y, cond-true (p k) edge 0 y, inner k low high y)
      | inr z ↦ omega (arith, cond-false (p k) (f k) 0 z, cond-false (p k) edge 0 z, outer k low high z)
    ]) in
    let counts : total_of q (λ _. 1) n * edge ≤ c * edge = mul-le-mul_right edge few in
    omega (arith, up, down, counts, full, sum_add (λ k. cond (q k) edge 0) past n, sum_add (λ k. cond (p k) edge 0) past n, total_constant q edge n, total_constant p edge n)
