-- Growing a closed range: the ends are those of the rule, and the grown range is maximal.
use Rattle.std.proofs.Common.{◌≡◌, ℕ, suc, ◌+◌, ◌-◌, ◌*◌, ◌^◌, ◌<◌, ◌≤◌, ◌⊎◌, List, length, Some, None, Option, sym, refl, ap, ◌∙◌, subst, inl, inr, arith}
use Rattle.std.proofs.Math.Nat.{pow-succ'}
use Rattle.std.proofs.lemmas.Bool.{cases_eq, cases_lt}
use Rattle.table.specs.declared.row.Row.{Row}
use Rattle.table.specs.Rows.{Names}
use Rattle.bounds.specs.Questions.{Meaning, Laws}
use Rattle.orders.specs.declared.range.Range.{Range}
use Rattle.orders.specs.declared.end.End.{End}
use Rattle.orders.specs.declared.end.End.TheVariants.{Low, High}
use Rattle.orders.specs.Ranges.{Within, Contains, Open, Closed}
use Rattle.orders.specs.Assigner.{assigned}
use Rattle.orders.specs.Growth.{moved, reach, EndGrown, GrownTo, start, next, Maximal}
use Rattle.orders.proofs.Audsley.{decided}
use Rattle.orders.proofs.Moves.{moved_within, moved_wider, moved_inside, moved_contains, moved_none, moved_twice, reach_moved, reach_short, reach_wider}
use Rattle.orders.proofs.Narrows.{narrowing}

-- what is left after round n of 20 that each halve it
pub halved : (n a b : ℕ) → n < 20 → a < 2 ^ (20 - n) → 2 * b ≤ a → b < 2 ^ (20 - (n + 1))
halved n a b l h le =
    let next : 20 - n ≡ suc (20 - (n + 1)) = omega arith in
    omega (arith, h, le, ap (λ j. 2 ^ j) next ∙ pow-succ' 2 (20 - (n + 1)))

-- the same after three rounds that may leave all: what is left after what was tried in a round, moved or not
pub narrowed : (round left tried rest : ℕ) → round < 23 → left < 2 ^ (20 - (round - 3)) → 1 ≤ tried → tried ≤ left → (3 ≤ round → (left ≤ 2 * tried) × (2 * tried ≤ left + 1)) → (rest ≡ left - tried) ⊎ (rest ≡ tried - 1) → rest < 2 ^ (20 - (round + 1 - 3))
narrowed round left tried rest l few some le halves one = elim (cases_lt round 3) [
  | inl early ↦
      let now : 20 - (round - 3) ≡ 20 - (round + 1 - 3) = omega arith in
      let less : rest ≤ left = elim one [ inl a ↦ omega arith | inr b ↦ omega arith ] in
      omega (arith, ap (λ n. 2 ^ n) now)
  | inr late ↦
      let half = halves late in
      let less : 2 * rest ≤ left = elim one [ inl a ↦ omega (arith, half.0) | inr b ↦ omega (arith, half.1) ] in
      let on : 20 - (round - 3 + 1) ≡ 20 - (round + 1 - 3) = omega arith in
      subst (λ n. rest < 2 ^ n) on (halved (round - 3) left rest (omega arith) few less)
]

-- An end of row k has been moved out, and this much is left to move it: any farther leaves the range open.
pub record MovedOut (meaning : Meaning) (rows : List Row) (end : End) (r : Range) (k left : ℕ) (q : Range) : Type 0 where
  by : ℕ
  is : q ≡ moved end r k by
  inside : by + left ≤ reach end rows r k
  opens : (b : ℕ) → by + left < b → b ≤ reach end rows r k → Closed meaning rows (moved end r k b) → ⊥

module _ {meaning : Meaning} (laws : Laws meaning) (rows : List Row) (few : length rows ≤ 32) where
  abbrev Shut : Range → Type 0
  Shut r = Closed meaning rows r

  by_answer : (r : Range) → (found : Option (List ℕ)) → assigned meaning rows r ≡ found → Open meaning rows r ⊎ Shut r
  by_answer r None is = inr (decided laws rows r few None is)
  by_answer r (Some order) is = inl (order, decided laws rows r few (Some order) is)

  -- a range is open or closed
  pub open_or_closed : (r : Range) → Open meaning rows r ⊎ Shut r
  open_or_closed r = by_answer r (assigned meaning rows r) refl

  -- the halving
  module _ (end : End) (r : Range) (within : Within rows r) (place : ℕ) (inside : place < length rows) where
    abbrev k : ℕ
    k = place + 1

    abbrev names : Names rows k
    names = (omega arith, omega arith)

    pub out_none : MovedOut meaning rows end r k (reach end rows r k) r
    out_none = record { by = 0; is = sym (moved_none end r k names.0); inside = omega arith; opens = λ b far near. absurd (omega arith) }

    pub short : reach end rows r k < 1000000
    short = reach_short rows r within k names end

    -- what is left of the reach
    pub left_in_reach : (left : ℕ) (q : Range) → MovedOut meaning rows end r k left q → left ≤ reach end rows q k
    left_in_reach left q out = omega (arith, out.inside, ap (λ x. reach end rows x k) out.is ∙ reach_moved rows r within k names end out.by)

    pub out_more : (left tried : ℕ) (q wider : Range) → MovedOut meaning rows end r k left q → tried ≤ left → wider ≡ moved end q k tried → MovedOut meaning rows end r k (left - tried) wider
    out_more left tried q wider out le is = record {
      by = out.by + tried;
      is = is ∙ ap (λ x. moved end x k tried) out.is ∙ moved_twice rows r within k names end out.by tried;
      inside = omega (arith, out.inside);
      opens = λ b far near. out.opens b (omega arith) near;
    }

    -- what is open stays open farther out
    pub out_less : (left tried : ℕ) (q : Range) → MovedOut meaning rows end r k left q → 1 ≤ tried → tried ≤ left → (Shut (moved end q k tried) → ⊥) → MovedOut meaning rows end r k (tried - 1) q
    out_less left tried q out pos le opened = record {
      by = out.by;
      is = out.is;
      inside = omega (arith, out.inside);
      opens = λ b far near closed.
          let here : moved end q k tried ≡ moved end r k (out.by + tried) = ap (λ x. moved end x k tried) out.is ∙ moved_twice rows r within k names end out.by tried in
          let lies = moved_within rows r within k names end (out.by + tried) (omega (arith, out.inside)) in
          opened (subst Shut (sym here) (narrowing laws rows few (moved end r k b) (moved end r k (out.by + tried)) (moved_within rows r within k names end b near) lies (moved_contains rows r within k names end (out.by + tried) b (omega arith) near) closed));
    }

    -- the end is grown once nothing is left
    pub end_grown : (left : ℕ) (q : Range) → MovedOut meaning rows end r k left q → left ≡ 0 → Shut q → EndGrown meaning rows end r k q
    end_grown left q out none shut = record {
      by = out.by;
      is = out.is;
      inside = omega (arith, out.inside);
      closed = shut;
      farther = λ more past near. out.opens more (omega arith) near;
    }

  -- a row more is grown, counted from 0
  pub grown_next : (r : Range) (place : ℕ) (before lower after : Range) → GrownTo meaning rows r place before → EndGrown meaning rows Low before (place + 1) lower → EndGrown meaning rows High lower (place + 1) after → GrownTo meaning rows r (place + 1) after
  grown_next r place before lower after = subst (λ k. GrownTo meaning rows r place before → EndGrown meaning rows Low before k lower → EndGrown meaning rows High lower k after → GrownTo meaning rows r k after) (omega arith) (λ g l h. next g l h)

  -- these ends are grown: where one of them is moved farther out, the range is no longer closed
  record State (r : Range) (grown : ℕ → End → Type 0) (q : Range) : Type 0 where
    within : Within rows q
    closed : Shut q
    contains : Contains rows q r
    maximal : (v : Range) → Within rows v → Contains rows v q → (j : ℕ) → Names rows j → (e : End) → grown j e → reach e rows v j < reach e rows q j → Shut v → ⊥

  contains_join : (a b c : Range) → Contains rows a b → Contains rows b c → Contains rows a c
  contains_join a b c f g k names = (omega (arith, (f k names).0, (g k names).0), omega (arith, (f k names).1, (g k names).1))

  -- an end more is grown
  state_next : (r : Range) (grown more : ℕ → End → Type 0) (q q' : Range) → State r grown q → (k : ℕ) → Names rows k → (end : End) → EndGrown meaning rows end q k q' → ((j : ℕ) (e : End) → more j e → grown j e ⊎ ((j ≡ k) × (e ≡ end))) → State r more q'
  state_next r grown more q q' s k names end g which =
      let over : Contains rows q' q = subst (λ x. Contains rows x q) (sym g.is) (moved_wider rows q s.within k names end g.by) in
      let room : reach end rows q' k ≡ reach end rows q k - g.by = ap (λ x. reach end rows x k) g.is ∙ reach_moved rows q s.within k names end g.by in
      record {
        within = subst (Within rows) (sym g.is) (moved_within rows q s.within k names end g.by g.inside);
        closed = g.closed;
        contains = contains_join q' q r over s.contains;
        maximal = λ v hv c j nj e one less shut.
            let wide = contains_join v q' q c over in
            elim (which j e one) [
              | inl old ↦ s.maximal v hv wide j nj e old (omega (arith, less, reach_wider rows q' q over j nj e)) shut
              | inr new ↦
                  let far = reach end rows q k - reach end rows v k in
                  let here : reach end rows v k < reach end rows q' k = subst (λ i. reach end rows v i < reach end rows q' i) new.0 (subst (λ d. reach d rows v j < reach d rows q' j) new.1 less) in
                  let near : far ≤ reach end rows q k = omega arith in
                  g.farther far (omega (arith, here, room)) near
                  (narrowing laws rows few v (moved end q k far) hv (moved_within rows q s.within k names end far near) (moved_inside rows q s.within k names end v hv wide far (omega (arith, here, room))) shut)
            ];
      }

  -- the ends of the first k rows, and with them the next row's low
  abbrev Rows : ℕ → ℕ → End → Type 0
  Rows k j e = j ≤ k

  abbrev AndLow : ℕ → ℕ → End → Type 0
  AndLow k j e = (j ≤ k) ⊎ ((j ≡ suc k) × (e ≡ Low))

  and_high : (k j : ℕ) (e : End) → j ≤ suc k → AndLow k j e ⊎ ((j ≡ suc k) × (e ≡ High))
  and_high k j Low h = inl (elim (cases_eq j (suc k)) [ inl is ↦ inr (is, refl) | inr d ↦ inl (omega arith) ])
  and_high k j High h = elim (cases_eq j (suc k)) [ inl is ↦ inr (is, refl) | inr d ↦ inl (inl (omega arith)) ]

  state_of : (r : Range) → Within rows r → Shut r → {k : ℕ} {q : Range} → GrownTo meaning rows r k q → k ≤ length rows → State r (Rows k) q
  state_of r within closed start le = record { within = within; closed = closed; contains = λ k h. (omega arith, omega arith); maximal = λ v hv c j nj e none. absurd (omega (arith, nj.0)) }
  state_of r within closed (next {k} {before} {lower} {after} g gl gh) le =
      let names : Names rows (suc k) = (omega arith, omega arith) in
      let low' = state_next r (Rows k) (AndLow k) before lower (state_of r within closed g (omega arith)) (suc k) names Low gl (λ j e one. one) in
      state_next r (AndLow k) (Rows (suc k)) lower after low' (suc k) names High gh (and_high k)

  -- the grown range is maximal
  pub grown_maximal : (r q : Range) → Within rows r → Shut r → GrownTo meaning rows r (length rows) q → Maximal meaning rows r q
  grown_maximal r q within closed g =
      let s = state_of r within closed g (omega arith) in (
        s.contains,
        record {
          within = s.within;
          closed = s.closed;
          wider = λ v hv (c, (k, names, differs)). elim (open_or_closed v) [
            | inl o ↦ o
            | inr shut ↦ absurd (elim differs [
              | inl l ↦ s.maximal v hv c k names Low names.1 (omega (arith, l, (hv k names).0)) shut
              | inr l ↦ s.maximal v hv c k names High names.1 (omega (arith, l, (hv k names).2)) shut
            ])
          ];
        },
      )
