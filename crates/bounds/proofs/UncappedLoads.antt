-- The uncapped loads of a window stand for its load, and for no more than that of a longer one.
use Rattle.std.proofs.Common.{◌≡◌, ℕ, zero, suc, ◌+◌, ◌-◌, ◌<◌, ◌≤◌, min, Bool, true, false, cond, List, Some, None, Option, length, get_or, sym, refl, ap, ◌∙◌, inl, inr, arith}
use Rattle.std.proofs.lemmas.Bool.{cases_Bool, cases_eq, cond-true, cond-false, both_ways}
use Rattle.std.proofs.lemmas.List.{get_or_default}
use Rattle.table.specs.declared.row.Row.{Row}
use Rattle.table.specs.Places.{nth}
use Rattle.table.specs.Rows.{row, filler, Names}
use Rattle.table.proofs.Placed.{nth_next}
use Rattle.bounds.specs.Questions.{Asked, own, Sound, Lies, In}
use Rattle.bounds.specs.Loads.{work, cap_of, carried, plain, sum_to, total_of, sum_over}
use Rattle.bounds.specs.Responses.{Choice, Greatest, carried_loads, plain_loads, extra, limited_load}
use Rattle.bounds.specs.Climbs.{loads, Lists, ZeroPast, work_at, Picked, Uncapped, NeverFalls}
use Rattle.bounds.specs.Sums.{sum_mono, over_mono}
use Rattle.bounds.specs.Works.{work_mono}
use Rattle.bounds.proofs.Summing.{sum_same, sum_add, sum_past}
use Rattle.bounds.proofs.Greatests.{greatest_is, greatest_one}

module _ (q : Asked) (sound : Sound q) where
  -- the works of a task above, carried and plain, before the cap
  abbrev full : ℕ → ℕ → ℕ
  full l k = work (row q.rows k) (l + nth q.estimates k 0 - (row q.rows k).wcet)

  abbrev bare : ℕ → ℕ → ℕ
  bare l k = work (row q.rows k) l

  -- what is read at a place that is above; d is what would be read past the last row
  module _ (place : ℕ) (h : place < 32) (y : get_or q.above place false ≡ true) where
    pub above_row : place < length q.rows
    above_row = let named = sound.inside (place + 1) (omega arith) (nth_next q.above place false ∙ y) in omega arith

    module _ (d : Row) where
      read : row q.rows (place + 1) ≡ get_or q.rows place d
      read = nth_next q.rows place filler ∙ get_or_default q.rows place filler d above_row

      pub estimate_read : Lies (get_or q.rows place d) (get_or q.estimates place 0)
      estimate_read =
          let names : Names q.rows (place + 1) = (omega arith, omega (arith, above_row)) in
          let x = nth_next q.estimates place 0 in
          (omega (arith, (sound.lies (place + 1) names).0, ap (λ (j : Row). j.wcet) read), omega (arith, (sound.lies (place + 1) names).1, ap (λ (j : Row). j.deadline) read))

      pub work_carried : (l : ℕ) (carries : Bool) → carries ≡ true → work (get_or q.rows place d) (l + get_or q.estimates place 0 - (get_or q.rows place d).wcet) ≡ work_at q l carries (place + 1)
      work_carried l carries c =
          ap (λ (j : Row). work j (l + get_or q.estimates place 0 - j.wcet)) (sym read)
          ∙ ap (λ n. work (row q.rows (place + 1)) (l + n - (row q.rows (place + 1)).wcet)) (sym (nth_next q.estimates place 0))
          ∙ sym (cond-true carries (full l (place + 1)) (bare l (place + 1)) c)
          ∙ sym (cond-true (nth q.above (place + 1) false) _ 0 (nth_next q.above place false ∙ y))

      pub work_plain : (l : ℕ) (carries : Bool) → carries ≡ false → work (get_or q.rows place d) l ≡ work_at q l carries (place + 1)
      work_plain l carries c =
          ap (λ (j : Row). work j l) (sym read)
          ∙ sym (cond-false carries (full l (place + 1)) (bare l (place + 1)) c)
          ∙ sym (cond-true (nth q.above (place + 1) false) _ 0 (nth_next q.above place false ∙ y))

  pub work_not_above : (l : ℕ) (carries : Bool) (place : ℕ) → get_or q.above place false ≡ false → work_at q l carries (place + 1) ≡ 0
  work_not_above l carries place z = cond-false (nth q.above (place + 1) false) _ 0 (nth_next q.above place false ∙ z)

  -- nothing past the rows is above
  pub work_past : (l : ℕ) (carries : Bool) (k : ℕ) → length q.rows < k → k ≤ 32 → work_at q l carries k ≡ 0
  work_past l carries k low high = elim (cases_Bool (nth q.above k false)) [
    | inl y ↦ absurd (omega (arith, sound.inside k high y))
    | inr z ↦ cond-false (nth q.above k false) _ 0 z
  ]

  pub works_past : (l : ℕ) (carries : Bool) (works : List ℕ) → Lists (work_at q l carries) works → ZeroPast (length q.rows) works
  works_past l carries works lists k low high = lists k (omega arith) high ∙ work_past l carries k low high

  -- a sum over all places of the tasks above is that over the rows
  sum_rows : (f : ℕ → ℕ) → sum_over q.above f 32 ≡ sum_over q.above f (length q.rows)
  sum_rows f = sum_past _ (length q.rows) 32 sound.few (λ k low high. elim (cases_Bool (nth q.above k false)) [
    | inl y ↦ absurd (omega (arith, sound.inside k high y))
    | inr z ↦ cond-false _ (f k) 0 z
  ])

  module _ (l : ℕ) (loads : List ℕ) (lists : Lists (work_at q l true) loads) where
    pub uncapped_all : Uncapped (carried_loads q) (own q) l loads
    uncapped_all =
        let carry : ℕ → ℕ → ℕ = λ l' k. carried (own q) l' (row q.rows k) (nth q.estimates k 0) in
        record {
          here =
              sum_same _ _ 32 (λ k low high. elim (cases_Bool (nth q.above k false)) [
                | inl y ↦ omega (arith, lists k low high, cond-true (nth q.above k false) (full l k) 0 y, cond-true (nth q.above k false) (carry l k) 0 y)
                | inr z ↦ omega (arith, lists k low high, cond-false (nth q.above k false) (full l k) 0 z, cond-false (nth q.above k false) (carry l k) 0 z)
              ])
              ∙ sum_rows (carry l);
          later = λ l' h.
              let le = sum_mono (λ k. min (nth loads k 0) (cap_of (own q) l')) (λ k. cond (nth q.above k false) (carry l' k) 0) 32 (λ k low high. elim (cases_Bool (nth q.above k false)) [
                | inl y ↦ omega (arith, lists k low high, cond-true (nth q.above k false) (full l k) 0 y, cond-true (nth q.above k false) (carry l' k) 0 y, work_mono (row q.rows k) (l + nth q.estimates k 0 - (row q.rows k).wcet) (l' + nth q.estimates k 0 - (row q.rows k).wcet) (omega arith))
                | inr z ↦ omega (arith, lists k low high, cond-false (nth q.above k false) (full l k) 0 z)
              ]) in
              omega (arith, le, sum_rows (carry l'));
        }

-- At most c tasks carry load in: the chosen ones.
module _ (q : Asked) (sound : Sound q) (c l : ℕ)
    (with' without extras : List ℕ) (chosen : List Bool) (loads : List ℕ)
    (carries : Lists (work_at q l true) with')
    (plains : Lists (work_at q l false) without)
    (cap : ℕ) (cap_is : cap ≡ cap_of (own q) l)
    (gains : Lists (λ k. min (nth with' k 0) cap - min (nth without k 0) cap) extras)
    (picked : Picked extras c chosen)
    (mixes : Lists (λ k. cond (nth chosen k false) (nth with' k 0) (nth without k 0)) loads) where
  abbrev is_chosen : ℕ → Bool
  is_chosen k = nth chosen k false

  abbrev above : ℕ → Bool
  above k = nth q.above k false

  abbrev plain_part : ℕ → ℕ → ℕ
  plain_part l' k = plain (own q) l' (row q.rows k)

  abbrev gain : ℕ → ℕ → ℕ
  gain = extra q

  carry_at : (k : ℕ) → 1 ≤ k → k ≤ 32 → In q.above k → nth with' k 0 ≡ full q sound l k
  carry_at k a b y = carries k a b ∙ cond-true (above k) (full q sound l k) 0 y

  plain_at : (k : ℕ) → 1 ≤ k → k ≤ 32 → In q.above k → nth without k 0 ≡ bare q sound l k
  plain_at k a b y = plains k a b ∙ cond-true (above k) (bare q sound l k) 0 y

  -- a task that is not above has no load
  carry_out : (k : ℕ) → 1 ≤ k → k ≤ 32 → above k ≡ false → nth with' k 0 ≡ 0
  carry_out k a b z = carries k a b ∙ cond-false (above k) (full q sound l k) 0 z

  plain_out : (k : ℕ) → 1 ≤ k → k ≤ 32 → above k ≡ false → nth without k 0 ≡ 0
  plain_out k a b z = plains k a b ∙ cond-false (above k) (bare q sound l k) 0 z

  -- to carry load in is never less
  more_carried : (l' k : ℕ) → k ≤ 32 → In q.above k → bare q sound l' k ≤ full q sound l' k
  more_carried l' k b y = work_mono (row q.rows k) l' (l' + nth q.estimates k 0 - (row q.rows k).wcet) (omega (arith, (sound.lies k (sound.inside k b y)).0))

  chosen_above : (k : ℕ) → is_chosen k ≡ true → (1 ≤ k) × (k ≤ 32) × In q.above k
  chosen_above k y =
      let is = picked.positive k y in
      (is.0, is.1, elim (cases_Bool (above k)) [ inl yes' ↦ yes' | inr z ↦ absurd (omega (arith, is.2, gains k is.0 is.1, carry_out k is.0 is.1 z)) ])

  -- a total over tasks above is that over the rows
  total_rows : (p : ℕ → Bool) → ((k : ℕ) → p k ≡ true → In q.above k) → (f : ℕ → ℕ) → total_of p f 32 ≡ total_of p f (length q.rows)
  total_rows p inside f = sum_past _ (length q.rows) 32 sound.few (λ k a b. elim (cases_Bool (p k)) [
    | inl y ↦ absurd (omega (arith, sound.inside k b (inside k y)))
    | inr z ↦ cond-false (p k) (f k) 0 z
  ])

  choice : Choice q.above c (length q.rows) is_chosen
  choice = record { inside = λ k y. (chosen_above k y).2; few = omega (arith, picked.few, total_rows is_chosen (λ k y. (chosen_above k y).2) (λ _. 1)) }

  gain_at : (k : ℕ) → 1 ≤ k → k ≤ 32 → In q.above k → nth extras k 0 ≡ gain l k
  gain_at k a b y = omega (arith, cap_is, gains k a b, carry_at k a b y, plain_at k a b y)

  -- the chosen tasks gain the most
  gain_same : (p : ℕ → Bool) → ((k : ℕ) → p k ≡ true → In q.above k) → total_of p (λ k. nth extras k 0) 32 ≡ total_of p (gain l) (length q.rows)
  gain_same p inside =
      sum_same _ _ 32 (λ k a b. elim (cases_Bool (p k)) [
        | inl y ↦ cond-true (p k) (nth extras k 0) 0 y ∙ gain_at k a b (inside k y) ∙ sym (cond-true (p k) (gain l k) 0 y)
        | inr z ↦ cond-false (p k) (nth extras k 0) 0 z ∙ sym (cond-false (p k) (gain l k) 0 z)
      ])
      ∙ total_rows p inside (gain l)

  gain_greatest : Greatest q.above (gain l) c (length q.rows) (total_of is_chosen (gain l) (length q.rows))
  gain_greatest = record {
    reached = (is_chosen, choice, refl);
    exceeded = λ p h. omega (arith, picked.best p (omega (arith, h.few, total_rows p h.inside (λ _. 1))), gain_same p h.inside, gain_same is_chosen choice.inside);
  }

  -- a task's part of the load in a window, and in a longer one
  part : (l' k : ℕ) → ℕ
  part l' k = cond (above k) (plain_part l' k) 0 + cond (is_chosen k) (gain l' k) 0

  part_later : (l' : ℕ) → l ≤ l' → (k : ℕ) → 1 ≤ k → k ≤ 32 → min (nth loads k 0) (cap_of (own q) l') ≤ part l' k
  unfolding part
  part_later l' h k a b =
      elim (cases_Bool (is_chosen k)) [
        | inl y ↦
            let up = (chosen_above k y).2 in
            omega (arith, mixes k a b, cond-true (is_chosen k) (nth with' k 0) (nth without k 0) y, carry_at k a b up, cond-true (above k) (plain_part l' k) 0 up, cond-true (is_chosen k) (gain l' k) 0 y, work_mono (row q.rows k) (l + nth q.estimates k 0 - (row q.rows k).wcet) (l' + nth q.estimates k 0 - (row q.rows k).wcet) (omega arith), more_carried l' k b up)
        | inr z ↦ elim (cases_Bool (above k)) [
          | inl up ↦ omega (arith, mixes k a b, cond-false (is_chosen k) (nth with' k 0) (nth without k 0) z, plain_at k a b up, cond-true (above k) (plain_part l' k) 0 up, work_mono (row q.rows k) l l' h)
          | inr out ↦ omega (arith, mixes k a b, cond-false (is_chosen k) (nth with' k 0) (nth without k 0) z, plain_out k a b out)
        ]
      ]

  part_here : (k : ℕ) → 1 ≤ k → k ≤ 32 → part l k ≤ min (nth loads k 0) (cap_of (own q) l)
  unfolding part
  part_here k a b =
      elim (cases_Bool (is_chosen k)) [
        | inl y ↦
            let up = (chosen_above k y).2 in
            omega (arith, mixes k a b, cond-true (is_chosen k) (nth with' k 0) (nth without k 0) y, carry_at k a b up, cond-true (above k) (plain_part l k) 0 up, cond-true (is_chosen k) (gain l k) 0 y, more_carried l k b up)
        | inr z ↦ elim (cases_Bool (above k)) [
          | inl up ↦ omega (arith, mixes k a b, cond-false (is_chosen k) (nth with' k 0) (nth without k 0) z, plain_at k a b up, cond-true (above k) (plain_part l k) 0 up, cond-false (is_chosen k) (gain l k) 0 z)
          | inr out ↦ omega (arith, cond-false (above k) (plain_part l k) 0 out, cond-false (is_chosen k) (gain l k) 0 z)
        ]
      ]

  parts : (l' : ℕ) → sum_to (part l') 32 ≡ plain_loads q l' + total_of is_chosen (gain l') (length q.rows)
  unfolding part
  parts l' = omega (arith, sum_add (λ k. cond (above k) (plain_part l' k) 0) (λ k. cond (is_chosen k) (gain l' k) 0) 32, sum_rows q sound (plain_part l'), total_rows is_chosen choice.inside (gain l'))

  -- mixed loads are 0 past the rows
  pub mixed_past : ZeroPast (length q.rows) loads
  mixed_past k low high =
      let with_past = works_past q sound l true with' carries k low high in
      let without_past = works_past q sound l false without plains k low high in
      elim (cases_Bool (is_chosen k)) [
        | inl y ↦ mixes k (omega arith) high ∙ cond-true (is_chosen k) (nth with' k 0) (nth without k 0) y ∙ with_past
        | inr z ↦ mixes k (omega arith) high ∙ cond-false (is_chosen k) (nth with' k 0) (nth without k 0) z ∙ without_past
      ]

  pub uncapped_limited : Uncapped (limited_load c q) (own q) l loads
  uncapped_limited = record {
    here =
        let most = greatest_one q.above (gain l) c (length q.rows) _ _ gain_greatest (greatest_is q.above (gain l) c (length q.rows)) in
        omega (arith, sum_mono (λ k. min (nth loads k 0) (cap_of (own q) l)) (part l) 32 (part_later l (omega arith)), sum_mono (part l) (λ k. min (nth loads k 0) (cap_of (own q) l)) 32 part_here, parts l, most);
    later = λ l' h.
        omega (arith, sum_mono (λ k. min (nth loads k 0) (cap_of (own q) l')) (part l') 32 (part_later l' h), parts l', (greatest_is q.above (gain l') c (length q.rows)).exceeded is_chosen choice);
  }

-- a longer window has no less load, whoever carries load in
pub never_falls : (limit : Option ℕ) (q : Asked) → Sound q → NeverFalls (loads limit q)
never_falls None q sound l l' h =
    over_mono q.above q.above _ _ (length q.rows) (λ k y. y) (λ k low high y. omega (arith, work_mono (row q.rows k) (l + nth q.estimates k 0 - (row q.rows k).wcet) (l' + nth q.estimates k 0 - (row q.rows k).wcet) (omega arith)))
never_falls (Some c) q sound l l' h =
    let rows = q.rows in
    let above : ℕ → Bool = λ k. nth q.above k false in
    let plains : ℕ → ℕ → ℕ = λ x k. plain (own q) x (row rows k) in
    let gains = extra q in
    let most = (greatest_is q.above (gains l) c (length rows)).reached in
    let chosen = most.0 in
    let longer = sum_mono (λ k. cond (above k) (plains l k) 0 + cond (chosen k) (gains l k) 0) (λ k. cond (above k) (plains l' k) 0 + cond (chosen k) (gains l' k) 0) (length rows) (λ k low high. elim (cases_Bool (above k)) [
      | inl y ↦
          let bare = work_mono (row rows k) l l' h in
          let full = work_mono (row rows k) (l + nth q.estimates k 0 - (row rows k).wcet) (l' + nth q.estimates k 0 - (row rows k).wcet) (omega arith) in
          elim (cases_Bool (chosen k)) [
            | inl c ↦ omega (arith, bare, full, cond-true (above k) (plains l k) 0 y, cond-true (above k) (plains l' k) 0 y, cond-true (chosen k) (gains l k) 0 c, cond-true (chosen k) (gains l' k) 0 c)
            | inr z ↦ omega (arith, bare, cond-true (above k) (plains l k) 0 y, cond-true (above k) (plains l' k) 0 y, cond-false (chosen k) (gains l k) 0 z, cond-false (chosen k) (gains l' k) 0 z)
          ]
      | inr out ↦ elim (cases_Bool (chosen k)) [
        | inl c ↦ absurd (both_ways (above k) out (most.1.inside k c))
        | inr z ↦ omega (arith, cond-false (above k) (plains l k) 0 out, cond-false (chosen k) (gains l k) 0 z)
      ]
    ]) in
    omega (arith, most.2, longer, sum_add (λ k. cond (above k) (plains l k) 0) (λ k. cond (chosen k) (gains l k) 0) (length rows), sum_add (λ k. cond (above k) (plains l' k) 0) (λ k. cond (chosen k) (gains l' k) 0) (length rows), (greatest_is q.above (gains l') c (length rows)).exceeded chosen most.1)
