-- What a running search keeps, and how a step keeps it.
use Rattle.std.proofs.Common.{◌≡◌, ℕ, suc, ◌+◌, ◌-◌, ◌*◌, ◌≤◌, ◌<◌, ◌⊎◌, List, length, drop, get_or, sym, ap, subst, ◌∙◌, inl, inr, arith}
use Rattle.std.proofs.lemmas.Bool.{cases_lt, cases_eq}
use Rattle.std.proofs.lemmas.List.{length-take, length-drop}
use Rattle.table.specs.declared.row.Row.{Row}
use Rattle.table.proofs.Placed.{length_put}
use Rattle.bounds.specs.Questions.{Meaning, Laws}
use Rattle.bounds.specs.Orders.{Estimates}
use Rattle.orders.specs.declared.range.Range.{Range}
use Rattle.orders.specs.Ranges.{low, high, LiesIn, Closed}
use Rattle.orders.specs.Growth.{GrownTo, start, next, Barred, Maximal}
use Rattle.orders.proofs.Grows.{grown_maximal}
use Rattle.study.specs.declared.room.Room.{Room}
use Rattle.study.specs.Slots.{slot, put_slot}
use Rattle.study.specs.Pieces.{piece, pieces, put_slots}
use Rattle.study.specs.Deeds.{lows_of, GrowsTo}
use Rattle.study.specs.Steps.{IsSlot}
use Rattle.study.proofs.Overs.{Full, put_slot_length, put_slot_back, put_slot_other}
use Rattle.study.proofs.Pieced.{piece_full}
use Rattle.study.proofs.Turned.{lows_within}
use Rattle.study.proofs.Covers.{piece_of, place_of, piece_slot, covered}
use Rattle.study.proofs.Runs.{EachFull, put_slots_length, put_slots_other, put_slots_back}

-- a slot of a list holds a range of 32 rows
pub slot_full : (list : List ℕ) (k : ℕ) → 1 ≤ k → 64 * k ≤ length list → Full (slot list k)
slot_full list k some room = record {
  lows = length-take 32 (drop (64 * (k - 1)) list) ∙ omega (arith, length-drop (64 * (k - 1)) list);
  highs = length-take 32 (drop (64 * (k - 1) + 32) list) ∙ omega (arith, length-drop (64 * (k - 1) + 32) list);
}

-- some counted slot of a list holds these estimates
abbrev pub Holding : List Row → List ℕ → ℕ → List ℕ → Type 0
Holding rows list n estimates = (i : ℕ) × (1 ≤ i) × (i ≤ n) × LiesIn rows estimates (slot list i)

module _ (meaning : Meaning) (rows : List Row) where
  -- growing keeps the 32 rows
  pub grown_full : (r : Range) → Full r → {k : ℕ} {q : Range} → GrownTo meaning rows r k q → Full q
  grown_full r full start = full
  grown_full r full (next {k} {before} {lower} {after} g gl gh) =
      let was = grown_full r full g in
      record {
        lows = ap (λ (x : Range). length x.lows) gh.is ∙ ap (λ (x : Range). length x.lows) gl.is ∙ length_put before.lows (suc k) _ ∙ was.lows;
        highs = ap (λ (x : Range). length x.highs) gh.is ∙ length_put lower.highs (suc k) _ ∙ ap (λ (x : Range). length x.highs) gl.is ∙ was.highs;
      }

  -- each of the first n ledger slots is barred
  abbrev pub AllBarred : ℕ → List ℕ → Type 0
  AllBarred n l = (i : ℕ) → 1 ≤ i → i ≤ n → Barred meaning rows (slot l i)

  -- A running search on lists with this room: n ledger slots and m pending slots are counted.
  pub record Sought (room : Room) (n m : ℕ) (l p : List ℕ) : Type 0 where
    pub long_ledger : length l ≡ 64 * room.ledger
    pub long_pending : length p ≡ 64 * room.pending
    pub few_kept : n ≤ room.ledger
    pub few_waiting : m ≤ room.pending
    pub barred : AllBarred n l
    pub waiting : (i : ℕ) → 1 ≤ i → i ≤ m → IsSlot rows (slot p i)
    pub cover : (e : List ℕ) → Estimates rows e → Holding rows l n e ⊎ Holding rows p m e

  module _ (room : Room) (n m : ℕ) (l p : List ℕ) (sought : Sought room n m l p) (some : 1 ≤ m) where
    abbrev taken : Range
    taken = slot p m

    taken_full : Full taken
    taken_full = slot_full p m some (omega (arith, sought.long_pending, sought.few_waiting))

    -- a barred range goes to the next ledger slot
    module _ (room_left : n < room.ledger) (r : Range) (full : Full r) (barred : Barred meaning rows r) where
      abbrev l' : List ℕ
      l' = put_slot l (n + 1) r

      fits : 64 * (n + 1) ≤ length l
      fits = omega (arith, sought.long_ledger)

      long_next : length l' ≡ 64 * room.ledger
      long_next = put_slot_length l (n + 1) r full (omega arith) fits ∙ sought.long_ledger

      here : slot l' (n + 1) ≡ r
      here = put_slot_back l (n + 1) r full (omega arith) fits

      there : (i : ℕ) → 1 ≤ i → i ≤ n → slot l' i ≡ slot l i
      there i some le = put_slot_other l (n + 1) r full (omega arith) fits i some (λ e. omega arith)

      barred_next : AllBarred (n + 1) l'
      barred_next i low high = elim (cases_eq i (n + 1)) [
        | inl e ↦ subst (λ j. Barred meaning rows (slot l' j)) (sym e) (subst (Barred meaning rows) (sym here) barred)
        | inr apart ↦ subst (Barred meaning rows) (sym (there i low (omega arith))) (sought.barred i low (omega arith))
      ]

      -- what lay in the ledger still does
      still : (e : List ℕ) → Holding rows l n e → Holding rows l' (n + 1) e
      still e (i, low, high, lies) = (i, low, omega arith, subst (LiesIn rows e) (sym (there i low high)) lies)

      -- and so does what lies in the range
      now_in : (e : List ℕ) → LiesIn rows e r → Holding rows l' (n + 1) e
      now_in e lies = (n + 1, omega arith, omega arith, subst (LiesIn rows e) (sym here) lies)

module _ {meaning : Meaning} (laws : Laws meaning) (rows : List Row) (few : length rows ≤ 32)
    (room : Room) (n m : ℕ) (l p : List ℕ) (sought : Sought meaning rows room n m l p) (some : 1 ≤ m) (room_left : n < room.ledger) where
  within_taken : IsSlot rows (slot p m)
  within_taken = sought.waiting m some (omega arith)

  full_taken : Full (slot p m)
  full_taken = taken_full meaning rows room n m l p sought some

  -- the range that is taken is closed: its grown form goes to the ledger, and it leaves the list
  module _ (grown : Range) (closed : Closed meaning rows (slot p m)) (grows : GrowsTo meaning rows (slot p m) grown) where
    maximal : Maximal meaning rows (slot p m) grown
    maximal = grown_maximal laws rows few (slot p m) grown within_taken.0 closed grows

    full_grown : Full grown
    full_grown = grown_full meaning rows (slot p m) full_taken grows

    abbrev barred_grown : Barred meaning rows grown
    barred_grown = maximal.1

    lies_grown : (e : List ℕ) → LiesIn rows e (slot p m) → LiesIn rows e grown
    lies_grown e lies k names = let c = maximal.0 k names in let h = lies k names in (omega (arith, c.0, h.0), omega (arith, c.1, h.1))

    pub sought_kept : Sought meaning rows room (n + 1) (m - 1) (put_slot l (n + 1) grown) p
    sought_kept = record {
      long_ledger = long_next meaning rows room n m l p sought some room_left grown full_grown barred_grown;
      long_pending = sought.long_pending;
      few_kept = omega arith;
      few_waiting = omega (arith, sought.few_waiting);
      barred = barred_next meaning rows room n m l p sought some room_left grown full_grown barred_grown;
      waiting = λ i low le. sought.waiting i low (omega arith);
      cover = λ e est. elim (sought.cover e est) [
        | inl kept ↦ inl (still meaning rows room n m l p sought some room_left grown full_grown barred_grown e kept)
        | inr waits ↦ elim (cases_eq waits.0 m) [
          | inl is ↦ inl (now_in meaning rows room n m l p sought some room_left grown full_grown barred_grown e (lies_grown e (subst (λ i. LiesIn rows e (slot p i)) is waits.3)))
          | inr apart ↦ inr (waits.0, waits.1, omega (arith, waits.2), waits.3)
        ]
      ];
    }

  -- the list of its lows is closed: grown, it goes to the ledger, and the range is replaced by its pieces
  module _ (u : Range) (closed : Closed meaning rows (lows_of (slot p m))) (grows : GrowsTo meaning rows (lows_of (slot p m)) u) (enough : m - 1 + length (pieces (slot p m) u (length rows)) ≤ room.pending) where
    maximal_lows : Maximal meaning rows (lows_of (slot p m)) u
    maximal_lows = grown_maximal laws rows few (lows_of (slot p m)) u (lows_within rows (slot p m) within_taken.0) closed grows

    full_u : Full u
    full_u = grown_full meaning rows (lows_of (slot p m)) (record { lows = full_taken.lows; highs = full_taken.lows }) grows

    abbrev barred_u : Barred meaning rows u
    barred_u = maximal_lows.1

    abbrev ps : List Range
    ps = pieces (slot p m) u (length rows)

    -- each piece is that of a row
    full_pieces : EachFull ps
    full_pieces i d inside =
        let of = piece_of (slot p m) u (length rows) i d inside in
        let on : of.0 - 1 + 1 ≡ of.0 = omega (arith, of.1) in
        subst Full (sym of.4) (subst (λ k. Full (piece (slot p m) u k)) on (piece_full (slot p m) u full_taken (of.0 - 1)))

    piece_is_slot : (i : ℕ) (d : Range) → i < length ps → IsSlot rows (get_or ps i d)
    piece_is_slot i d inside =
        let of = piece_of (slot p m) u (length rows) i d inside in
        subst (IsSlot rows) (sym of.4) (piece_slot rows few (slot p m) u full_taken within_taken (λ k names. (maximal_lows.0 k names).1) of.0 (of.1, of.2) of.3)

    fits_pieces : 64 * (m - 1 + length ps) ≤ length p
    fits_pieces = omega (arith, sought.long_pending, enough)

    before_pieces : (i : ℕ) → 1 ≤ i → i < m → slot (put_slots p m ps) i ≡ slot p i
    before_pieces i low l = put_slots_other ps p m full_pieces some fits_pieces i low (inl l)

    at_pieces : (i : ℕ) (d : Range) → i < length ps → slot (put_slots p m ps) (m + i) ≡ get_or ps i d
    at_pieces i d inside = put_slots_back ps p m full_pieces some fits_pieces i d inside

    waits_in : (e : List ℕ) → LiesIn rows e (slot p m) → Holding rows (put_slot l (n + 1) u) (n + 1) e ⊎ Holding rows (put_slots p m ps) (m - 1 + length ps) e
    waits_in e lies = elim (covered rows few (slot p m) u full_taken e lies (λ k names. (maximal_lows.0 k names).0)) [
      | inl inside ↦ inl (now_in meaning rows room n m l p sought some room_left u full_u barred_u e inside)
      | inr piece_k ↦
          let at = place_of (slot p m) u (length rows) piece_k.0 u piece_k.1.0 piece_k.1.1 piece_k.2 in
          inr (m + at.0, omega arith, omega (arith, at.1), subst (LiesIn rows e) (sym (at_pieces at.0 u at.1 ∙ at.2)) piece_k.3)
    ]

    pub sought_split : Sought meaning rows room (n + 1) (m - 1 + length ps) (put_slot l (n + 1) u) (put_slots p m ps)
    sought_split = record {
      long_ledger = long_next meaning rows room n m l p sought some room_left u full_u barred_u;
      long_pending = put_slots_length ps p m full_pieces some fits_pieces ∙ sought.long_pending;
      few_kept = omega arith;
      few_waiting = enough;
      barred = barred_next meaning rows room n m l p sought some room_left u full_u barred_u;
      waiting = λ i low le. elim (cases_lt i m) [
        | inl before ↦ subst (IsSlot rows) (sym (before_pieces i low before)) (sought.waiting i low (omega arith))
        | inr past ↦
            let on : m + (i - m) ≡ i = omega arith in
            subst (λ j. IsSlot rows (slot (put_slots p m ps) j)) on (subst (IsSlot rows) (sym (at_pieces (i - m) u (omega arith))) (piece_is_slot (i - m) u (omega arith)))
      ];
      cover = λ e est. elim (sought.cover e est) [
        | inl kept ↦ inl (still meaning rows room n m l p sought some room_left u full_u barred_u e kept)
        | inr waits ↦ elim (cases_eq waits.0 m) [
          | inl is ↦ waits_in e (subst (λ i. LiesIn rows e (slot p i)) is waits.3)
          | inr apart ↦ inr (waits.0, waits.1, omega (arith, waits.2), subst (LiesIn rows e) (sym (before_pieces waits.0 waits.1 (omega (arith, waits.2)))) waits.3)
        ]
      ];
    }
