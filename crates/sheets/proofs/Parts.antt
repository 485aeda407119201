-- The parts of a text, one after another.
use Rattle.std.proofs.Common.{◌≡◌, ◌==◌, ℕ, zero, suc, ◌+◌, ◌-◌, ◌<◌, ◌≤◌, Bool, true, false, not, cond, List, [], ◌∷◌, map, length, take, drop, get_or, Option, Some, None, nat_lt, nat_le, refl, sym, ap, subst, ◌∙◌, inl, inr, arith}
use Rattle.std.proofs.lemmas.Bool.{cases_lt}
use Rattle.std.proofs.lemmas.Bool.Decides.{nat_tests}
use Rattle.std.proofs.lemmas.List.{drop-drop, get_or-drop, take_all, length-drop}
use Rattle.std.proofs.lemmas.List.Sums.{prefix_len-le-length, fails_before_first}
use Rattle.std.proofs.lemmas.List.Splits.{slice_split_first, slice_split_none}
use Rattle.std.specs.List.{position, position_or_len}
use Rattle.std.specs.Option.{unwrap_or, MatchOption}
use Rattle.sheets.specs.declared.reader.Part.{Part}
use Rattle.sheets.specs.Texts.{parts}

module _ {X : Type 0} (p : X → Bool) (xs : List X) where
  -- the first place that passes, or the length
  pub unwrap_or-position : unwrap_or (position p xs) (length xs) ≡ position_or_len p xs
  unwrap_or-position = elim (cases_lt (position_or_len p xs) (length xs)) [
    | inl l ↦ let low : nat_lt (position_or_len p xs) (length xs) ≡ true = grind (arith, nat_tests) in ap (λ b. unwrap_or (cond b (Some (position_or_len p xs)) None) (length xs)) low
    | inr m ↦
        let high : nat_lt (position_or_len p xs) (length xs) ≡ false = grind (arith, nat_tests) in
        let end : length xs ≡ position_or_len p xs = omega (arith, prefix_len-le-length (λ x. not (p x)) xs) in
        ap (λ b. unwrap_or (cond b (Some (position_or_len p xs)) None) (length xs)) high ∙ end
  ]

module _ (m : ℕ) (text : List ℕ) where
  abbrev is : ℕ → Bool
  is b = b == m

  -- the first part, and those behind its separator
  first_part : position_or_len is text < length text → parts m text ≡ take (position_or_len is text) text ∷ parts m (drop (position_or_len is text + 1) text)
  first_part h = slice_split_first is text 0 h

  -- the only part
  last_part : length text ≤ position_or_len is text → parts m text ≡ text ∷ []
  last_part h = slice_split_none is text (λ k d l. fails_before_first is text k d (omega arith))

-- what a reader that stands at a hands out next, and what is left then
pub next_part : (m a n : ℕ) (t rest : List ℕ) → a ≤ length t → rest ≡ drop a t → n ≡ position_or_len (λ b. b == m) rest → cond (nat_le a (length t)) (parts m (drop a t)) [] ≡ take n rest ∷ cond (nat_le (a + (n + 1)) (length t)) (parts m (drop (a + (n + 1)) t)) []
next_part m a n t rest low whole first =
    let here : nat_le a (length t) ≡ true = grind (arith, nat_tests) in
    let long : length rest ≡ length t - a = ap length whole ∙ length-drop a t in
    ap (λ b. cond b (parts m (drop a t)) []) here ∙ ap (parts m) (sym whole)
    ∙ elim (cases_lt n (length rest)) [
      | inl l ↦
          let more : nat_le (a + (n + 1)) (length t) ≡ true = grind (arith, nat_tests) in
          subst (λ (u : ℕ). parts m rest ≡ take u rest ∷ parts m (drop (u + 1) rest)) (sym first) (first_part m rest (omega arith))
          ∙ ap (λ (l : List ℕ). take n rest ∷ parts m l) (ap (drop (n + 1)) whole ∙ drop-drop (n + 1) a t)
          ∙ ap (λ b. take n rest ∷ cond b (parts m (drop (a + (n + 1)) t)) []) (sym more)
      | inr g ↦
          let over : nat_le (a + (n + 1)) (length t) ≡ false = grind (arith, nat_tests) in
          last_part m rest (omega arith)
          ∙ ap (λ (l : List ℕ). l ∷ []) (sym (take_all n rest g))
          ∙ ap (λ b. take n rest ∷ cond b (parts m (drop (a + (n + 1)) t)) []) (sym over)
    ]

-- the next of what is left of a list
pub next_left : {X : Type 0} (xs : List X) (i : ℕ) (d x : X) (rest : List X) → drop i xs ≡ x ∷ rest → (get_or xs i d ≡ x) × (drop (i + 1) xs ≡ rest)
next_left xs i d x rest e = (
  ap (λ n. get_or xs n d) (omega arith) ∙ sym (get_or-drop i xs 0 d) ∙ ap (λ l. get_or l 0 d) e,
  sym (drop-drop 1 i xs) ∙ ap (drop 1) e,
)

pub none_left : {X : Type 0} (xs : List X) (i : ℕ) → drop i xs ≡ [] → length xs ≤ i
none_left xs i e = omega (arith, ap length e, length-drop i xs)

-- an element of a mapped list
pub get_or-map : {A B : Type 0} (f : A → B) (xs : List A) (i : ℕ) (d : A) → get_or (map f xs) i (f d) ≡ f (get_or xs i d)
get_or-map f [] i d = refl
get_or-map f (x ∷ xs) zero d = refl
get_or-map f (x ∷ xs) (suc i) d = get_or-map f xs i d

-- the part that is handed out after so many
pub part_at : (ps before after : List (List ℕ)) (at n m : ℕ) → drop at ps ≡ before → n ≡ at → (r : Option Part) → MatchOption r (before ≡ []) (λ p. before ≡ p.bytes.now ∷ after) → (Q : Type 0) → MatchOption r Q (λ p. (p.number ≡ n + 1) × (m ≡ n + 1)) → MatchOption r (length ps ≤ at) (λ p. (at < length ps) × (p.bytes.now ≡ get_or ps at []) × (p.number ≡ at + 1))
part_at ps before after at n m e is None here Q count = none_left ps at (e ∙ here)
part_at ps before after at n m e is (Some p) here Q count =
    let next = next_left ps at [] p.bytes.now after (e ∙ here) in
    (omega (arith, ap length (e ∙ here), length-drop at ps), sym next.0, omega (arith, count.0))
