-- What a search keeps when it has begun.
use Rattle.std.proofs.Common.{◌≡◌, ℕ, ◌-◌, ◌*◌, ◌≤◌, List, map, length, sym, subst, ◌∙◌, inl, inr, arith}
use Rattle.std.proofs.lemmas.Bool.{cases_lt}
use Rattle.std.proofs.lemmas.List.{get_or_past, length-map}
use Rattle.table.specs.declared.row.Row.{Row}
use Rattle.table.specs.Places.{nth}
use Rattle.table.specs.Rows.{row, Names}
use Rattle.table.proofs.Placed.{nth_at}
use Rattle.bounds.specs.Orders.{padded, Estimates}
use Rattle.bounds.proofs.Padded.{padded_length, padded_read, padded_at}
use Rattle.bounds.proofs.Wcets.{column_at}
use Rattle.orders.specs.Ranges.{LiesIn}
use Rattle.study.specs.declared.room.Room.{Room}
use Rattle.study.specs.Slots.{slot, put_slot}
use Rattle.study.specs.Whole.{whole}
use Rattle.study.specs.Steps.{ZeroPast, IsSlot}
use Rattle.study.proofs.Overs.{Full, put_slot_length, put_slot_back}
use Rattle.study.proofs.Sought.{Sought}
use Rattle.bounds.specs.Questions.{Meaning}

-- a list by row, filled up, has 0 past its end
padded_past : (n : ℕ) (xs : List ℕ) → length xs ≡ n → ZeroPast n (padded xs)
padded_past n xs long k past = nth_at (padded xs) k 0 (omega arith) ∙ elim (cases_lt (k - 1) 32) [
  | inl inside ↦ padded_read xs (k - 1) inside ∙ get_or_past xs (k - 1) 0 (omega arith)
  | inr beyond ↦ get_or_past (padded xs) (k - 1) 0 (omega (arith, padded_length xs))
]

module _ (rows : List Row) (few : length rows ≤ 32) where
  whole_full : Full (whole rows)
  whole_full = record { lows = padded_length _; highs = padded_length _ }

  low_at : (k : ℕ) → Names rows k → nth (whole rows).lows k 0 ≡ (row rows k).wcet
  low_at k names = column_at (λ r. r.wcet) rows k few names

  high_at : (k : ℕ) → Names rows k → nth (whole rows).highs k 0 ≡ (row rows k).deadline
  high_at k names = column_at (λ r. r.deadline) rows k few names

  whole_slot : IsSlot rows (whole rows)
  whole_slot = (
    λ k names. (omega (arith, low_at k names), omega (arith, low_at k names, high_at k names, (row rows k).ok), omega (arith, high_at k names)),
    padded_past (length rows) (map (λ (r : Row). r.wcet) rows) (length-map rows _),
    padded_past (length rows) (map (λ (r : Row). r.deadline) rows) (length-map rows _),
  )

  all_lie : (es : List ℕ) → Estimates rows es → LiesIn rows es (whole rows)
  all_lie es est k names =
      let same = padded_at es k names.0 (omega (arith, names.1)) in
      let at = est.within k names in
      (omega (arith, low_at k names, same, at.0), omega (arith, high_at k names, same, at.1))

  module _ (meaning : Meaning) where
    pub sought_begun : (room : Room) (l p : List ℕ) → 1 ≤ room.pending → length l ≡ 64 * room.ledger → length p ≡ 64 * room.pending → Sought meaning rows room 0 1 l (put_slot p 1 (whole rows))
    sought_begun room l p some long_ledger long_pending =
        let fits : 64 * 1 ≤ length p = omega arith in
        let back = put_slot_back p 1 (whole rows) whole_full (omega arith) fits in
        record {
          long_ledger = long_ledger;
          long_pending = put_slot_length p 1 (whole rows) whole_full (omega arith) fits ∙ long_pending;
          few_kept = omega arith;
          few_waiting = some;
          barred = λ i low high. absurd (omega arith);
          waiting = λ i low high. let one : 1 ≡ i = omega arith in subst (λ j. IsSlot rows (slot (put_slot p 1 (whole rows)) j)) one (subst (IsSlot rows) (sym back) whole_slot);
          cover = λ es est. inr (1, omega arith, omega arith, subst (LiesIn rows es) (sym back) (all_lie es est));
        }
