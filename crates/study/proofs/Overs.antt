-- Numbers of a list written over others, and read back.
use Rattle.std.proofs.Common.{◌≡◌, ℕ, ◌+◌, ◌-◌, ◌*◌, ◌≤◌, ◌<◌, List, ◌++◌, ◌⊎◌, length, get_or, take, drop, min, ap, ap₂, sym, ◌∙◌, inl, inr, arith}
use Rattle.std.proofs.lemmas.List.{append_assoc, drop-drop, length-append, ext_get_or, get_or-take, get_or-drop, length-take, length-drop, take_at, drop_at, take_all}
use Rattle.std.proofs.lemmas.Bool.{cases_lt}
use Rattle.std.proofs.lemmas.Grind.{elements}
use Rattle.orders.specs.declared.range.Range.{Range}
use Rattle.study.specs.Slots.{written_over, slot, put_slot}

module _ (xs : List ℕ) (a : ℕ) (ys : List ℕ) (le : a + length ys ≤ length xs) where
  front : length (take a xs ++ ys) ≡ a + length ys
  front = grind (arith, elements)

  regrouped : (rest : List ℕ) → take a xs ++ (ys ++ rest) ≡ (take a xs ++ ys) ++ rest
  regrouped rest = sym (append_assoc (take a xs) ys rest)

  -- a part written just past another is both written at once
  pub over_over : (zs : List ℕ) → written_over (written_over xs a ys) (a + length ys) zs ≡ written_over xs a (ys ++ zs)
  over_over zs =
      let n = a + length ys in
      let rest = drop n xs in
      let before : take n (written_over xs a ys) ≡ take a xs ++ ys = ap (take n) (regrouped rest) ∙ take_at (take a xs ++ ys) rest n front in
      let after : drop n (written_over xs a ys) ≡ rest = ap (drop n) (regrouped rest) ∙ drop_at (take a xs ++ ys) rest n front in
      let count : n + length zs ≡ a + length (ys ++ zs) = omega (arith, length-append ys zs) in
      let past : drop (n + length zs) (written_over xs a ys) ≡ drop (a + length (ys ++ zs)) xs = sym (drop-drop (length zs) n (written_over xs a ys)) ∙ ap (drop (length zs)) after ∙ drop-drop (length zs) n xs ∙ ap (λ m. drop m xs) count in
      ap₂ (λ u v. u ++ (zs ++ v)) before past ∙ append_assoc (take a xs) ys _ ∙ ap (λ l. take a xs ++ l) (sym (append_assoc ys zs _))

module _ (xs : List ℕ) (a : ℕ) (ys : List ℕ) (le : a + length ys ≤ length xs) where
  pub length_over : length (written_over xs a ys) ≡ length xs
  length_over = grind (arith, elements)

  pub over_below : (j d : ℕ) → j < a → get_or (written_over xs a ys) j d ≡ get_or xs j d
  over_below j d h = grind (arith, elements)

  pub over_in : (j d : ℕ) → a ≤ j → j < a + length ys → get_or (written_over xs a ys) j d ≡ get_or ys (j - a) d
  over_in j d h l = grind (arith, elements)

  pub over_past : (j d : ℕ) → a + length ys ≤ j → get_or (written_over xs a ys) j d ≡ get_or xs j d
  over_past j d h = grind (arith, elements)

pub same_range : (a b : Range) → a.lows ≡ b.lows → a.highs ≡ b.highs → a ≡ b
same_range a b p q = ap (λ (l : List ℕ). let r : Range = record { lows = l; highs = a.highs } in r) p ∙ ap (λ (h : List ℕ). let r : Range = record { lows = b.lows; highs = h } in r) q

-- a part of a list
part_at : (n b : ℕ) (zs : List ℕ) (j d : ℕ) → j < n → get_or (take n (drop b zs)) j d ≡ get_or zs (b + j) d
part_at n b zs j d h = get_or-take n (drop b zs) j d h ∙ get_or-drop b zs j d

part_length : (n b : ℕ) (zs : List ℕ) → length (take n (drop b zs)) ≡ min n (length zs - b)
part_length n b zs = length-take n (drop b zs) ∙ ap (min n) (length-drop b zs)

module _ (xs : List ℕ) (a : ℕ) (ys : List ℕ) (le : a + length ys ≤ length xs) where
  -- a part of what was written
  pub part_in : (i n : ℕ) → i + n ≤ length ys → take n (drop (a + i) (written_over xs a ys)) ≡ take n (drop i ys)
  part_in i n h = ext_get_or 0 _ _
      (omega (arith, part_length n (a + i) (written_over xs a ys), part_length n i ys, length_over xs a ys le))
      (λ j l.
      let lt : j < n = omega (arith, part_length n (a + i) (written_over xs a ys)) in
      let e : a + i + j - a ≡ i + j = omega arith in
      part_at n (a + i) (written_over xs a ys) j 0 lt ∙ over_in xs a ys le (a + i + j) 0 (omega arith) (omega arith) ∙ ap (λ k. get_or ys k 0) e ∙ sym (part_at n i ys j 0 lt))

  -- a part beside it
  pub part_out : (b n : ℕ) → (b + n ≤ a) ⊎ (a + length ys ≤ b) → take n (drop b (written_over xs a ys)) ≡ take n (drop b xs)
  part_out b n h = ext_get_or 0 _ _
      (omega (arith, part_length n b (written_over xs a ys), part_length n b xs, length_over xs a ys le))
      (λ j l.
      let lt : j < n = omega (arith, part_length n b (written_over xs a ys)) in
      let at : get_or (written_over xs a ys) (b + j) 0 ≡ get_or xs (b + j) 0 = elim h [ inl below ↦ over_below xs a ys le (b + j) 0 (omega arith) | inr past ↦ over_past xs a ys le (b + j) 0 (omega arith) ] in
      part_at n b (written_over xs a ys) j 0 lt ∙ at ∙ sym (part_at n b xs j 0 lt))

-- a range of 32 rows
pub record Full (r : Range) : Type 0 where
  pub lows : length r.lows ≡ 32
  pub highs : length r.highs ≡ 32

module _ (list : List ℕ) (k : ℕ) (r : Range) (full : Full r) (low : 1 ≤ k) (room : 64 * k ≤ length list) where
  numbers : length (r.lows ++ r.highs) ≡ 64
  numbers = omega (arith, length-append r.lows r.highs, full.lows, full.highs)

  fits : 64 * (k - 1) + length (r.lows ++ r.highs) ≤ length list
  fits = omega (arith, numbers)

  pub put_slot_length : length (put_slot list k r) ≡ length list
  put_slot_length = length_over list (64 * (k - 1)) (r.lows ++ r.highs) fits

  -- what was written is read back
  pub put_slot_back : slot (put_slot list k r) k ≡ r
  put_slot_back =
      let at = 64 * (k - 1) in
      let e : at ≡ at + 0 = omega arith in
      same_range _ _
      (ap (λ b. take 32 (drop b (put_slot list k r))) e ∙ part_in list at (r.lows ++ r.highs) fits 0 32 (omega (arith, numbers)) ∙ take_at r.lows r.highs 32 full.lows)
      (part_in list at (r.lows ++ r.highs) fits 32 32 (omega (arith, numbers)) ∙ ap (take 32) (drop_at r.lows r.highs 32 full.lows) ∙ take_all 32 r.highs (omega (arith, full.highs)))

  -- a part of a slot other than this one lies beside it
  part_beside : (j b : ℕ) → 1 ≤ j → (j ≡ k → ⊥) → 64 * (j - 1) ≤ b → b + 32 ≤ 64 * j → take 32 (drop b (put_slot list k r)) ≡ take 32 (drop b list)
  part_beside j b some apart from to =
      part_out list (64 * (k - 1)) (r.lows ++ r.highs) fits b 32
      (elim (cases_lt j k) [ inl before ↦ inl (omega arith) | inr past ↦ inr (omega (arith, numbers)) ])

  -- and every other slot is as it was
  pub put_slot_other : (j : ℕ) → 1 ≤ j → (j ≡ k → ⊥) → slot (put_slot list k r) j ≡ slot list j
  put_slot_other j some apart = same_range _ _ (part_beside j (64 * (j - 1)) some apart (omega arith) (omega arith)) (part_beside j (64 * (j - 1) + 32) some apart (omega arith) (omega arith))
