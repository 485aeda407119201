-- Moments that are alike stay alike: steps from alike moments lead to alike ones.
use Rattle.std.proofs.Common.{◌≡◌, ℕ, ◌+◌, ◌-◌, ◌*◌, ◌≤◌, ◌↔◌, List, length, sym, refl, ap, ap₂, subst, ◌∙◌, inl, inr, arith}
use Rattle.std.proofs.lemmas.Bool.{cases_lt, cases_eq}
use Rattle.table.specs.declared.row.Row.{Row}
use Rattle.table.specs.Rows.{view}
use Rattle.bounds.specs.Questions.{Meaning}
use Rattle.bounds.proofs.Padded.{padded_length}
use Rattle.orders.specs.declared.range.Range.{Range}
use Rattle.study.specs.declared.finding.Finding.{Finding}
use Rattle.study.specs.declared.room.Room.{Room}
use Rattle.study.specs.declared.state.State.{State}
use Rattle.study.specs.declared.state.State.TheVariants as state
use Rattle.study.specs.declared.deed.Deed.{Deed}
use Rattle.study.specs.declared.deed.Deed.TheVariants.{End, Keep, Split}
use Rattle.study.specs.Counts.{verdicts}
use Rattle.study.specs.Slots.{slot, put_slot}
use Rattle.study.specs.Pieces.{piece, pieces, put_slots}
use Rattle.study.specs.Moments.{Moment, rows_of}
use Rattle.study.specs.Deeds.{lows_of, Due}
use Rattle.study.specs.Whole.{whole}
use Rattle.study.specs.Begins.{HasRoom, WholePending}
use Rattle.study.specs.Steps.{Runs, Left, Leaves, taken_of, pieces_of, left_by, Fits, Does, OneDeed, none, does, stops}
use Rattle.study.proofs.Overs.{Full, put_slot_back, put_slot_other}
use Rattle.study.proofs.Pieced.{piece_full}
use Rattle.study.proofs.Covers.{piece_of}
use Rattle.study.proofs.Runs.{EachFull, put_slots_other, put_slots_back}
use Rattle.study.proofs.Sought.{Sought, slot_full, grown_full}
use Rattle.study.proofs.Lawful.{KeepsAt}
use Rattle.study.proofs.OneDeed.{SameFinding, SameDeed, same_deed, other_places, one_deed}

-- two states are alike on n rows: the same, or found with alike findings
pub data SameState (n : ℕ) : State → State → Type 0 where
  same_state : (s : State) → SameState n s s
  same_found : (f g : Finding) → SameFinding n f g → SameState n (state.Found f) (state.Found g)

pub same_verdicts : (n : ℕ) (s u : State) → SameState n s u → verdicts s ≡ verdicts u
same_verdicts n s u (same_state v) = refl
same_verdicts n s u (same_found f g both) = refl

pub same_running : (n : ℕ) (s u : State) → SameState n s u → (room : Room) → s ≡ state.Running room → u ≡ state.Running room
same_running n s u (same_state v) room is = is
same_running n s u (same_found f g both) room is = absurd (omega (arith, ap verdicts is))

-- the first n slots of two lists are the same
abbrev pub SameSlots : ℕ → List ℕ → List ℕ → Type 0
SameSlots n l k = (i : ℕ) → 1 ≤ i → i ≤ n → slot l i ≡ slot k i

-- two moments are alike: in their rows, their states, their counts and their counted slots
pub record Alike (a b : Moment) : Type 0 where
  pub rows : rows_of a ≡ rows_of b
  pub state : SameState (length (rows_of a)) a.study.state b.study.state
  pub ledger_count : a.study.ledger_count ≡ b.study.ledger_count
  pub pending_count : a.study.pending_count ≡ b.study.pending_count
  pub steps : a.study.steps ≡ b.study.steps
  pub kept : SameSlots a.study.ledger_count a.ledger b.ledger
  pub waiting : SameSlots a.study.pending_count a.pending b.pending

-- one range more in both
slot_alike : (l k : List ℕ) (n m : ℕ) (r : Range) → Full r → n ≡ m → 64 * (n + 1) ≤ length l → 64 * (m + 1) ≤ length k → SameSlots n l k → SameSlots (n + 1) (put_slot l (n + 1) r) (put_slot k (m + 1) r)
slot_alike l k n m r full is fits fits' both i low high = elim (cases_eq i (n + 1)) [
  | inl here ↦
      let there : m + 1 ≡ i = omega arith in
      ap (slot (put_slot l (n + 1) r)) here ∙ put_slot_back l (n + 1) r full (omega arith) fits ∙ sym (put_slot_back k (m + 1) r full (omega arith) fits') ∙ ap (slot (put_slot k (m + 1) r)) there
  | inr apart ↦ put_slot_other l (n + 1) r full (omega arith) fits i low apart ∙ both i low (omega arith) ∙ sym (put_slot_other k (m + 1) r full (omega arith) fits' i low (λ e. omega arith))
]

-- the same ranges in place of the last one of both
slots_alike : (ps : List Range) (l k : List ℕ) (n m : ℕ) → EachFull ps → 1 ≤ n → n ≡ m → 64 * (n - 1 + length ps) ≤ length l → 64 * (m - 1 + length ps) ≤ length k → SameSlots n l k → SameSlots (n - 1 + length ps) (put_slots l n ps) (put_slots k m ps)
slots_alike ps l k n m full some is fits fits' both i low high = elim (cases_lt i n) [
  | inl before ↦ put_slots_other ps l n full some fits i low (inl before) ∙ both i low (omega arith) ∙ sym (put_slots_other ps k m full (omega arith) fits' i low (inl (omega arith)))
  | inr past ↦
      let here : i ≡ n + (i - n) = omega arith in
      let there : m + (i - n) ≡ i = omega arith in
      let none : Range = slot l 0 in
      ap (slot (put_slots l n ps)) here ∙ put_slots_back ps l n full some fits (i - n) none (omega arith) ∙ sym (put_slots_back ps k m full (omega arith) fits' (i - n) none (omega arith)) ∙ ap (slot (put_slots k m ps)) there
]

-- the pieces of a range of 32 rows are such ranges
full_pieces : (taken u : Range) (n : ℕ) → Full taken → EachFull (pieces taken u n)
full_pieces taken u n full i d inside =
    let of = piece_of taken u n i d inside in
    let on : of.0 - 1 + 1 ≡ of.0 = omega (arith, of.1) in
    subst Full (sym of.4) (subst (λ k. Full (piece taken u k)) on (piece_full taken u full (of.0 - 1)))

-- what is left is alike, on n rows
record LeftAlike (n : ℕ) (a b : Left) : Type 0 where
  state : SameState n a.state b.state
  ledger_count : a.ledger_count ≡ b.ledger_count
  pending_count : a.pending_count ≡ b.pending_count
  kept : SameSlots a.ledger_count a.ledger b.ledger
  waiting : SameSlots a.pending_count a.pending b.pending

-- so what two steps lead to is alike
leaves_alike : (before before' after after' : Moment) (left left' : Left) → Alike before before' → Leaves before left after → Leaves before' left' after' → LeftAlike (length (rows_of before)) left left' → Alike after after'
leaves_alike before before' after after' left left' was a b alike =
    let as_rows : rows_of after ≡ rows_of before = ap view a.table in
    let both : SameState (length (rows_of before)) after.study.state after'.study.state =
    subst (λ x. SameState (length (rows_of before)) x after'.study.state) (sym a.state) (subst (λ x. SameState (length (rows_of before)) left.state x) (sym b.state) alike.state) in
    record {
      rows = as_rows ∙ was.rows ∙ sym (ap view b.table);
      state = subst (λ r. SameState (length r) after.study.state after'.study.state) (sym as_rows) both;
      ledger_count = a.ledger_count ∙ alike.ledger_count ∙ sym b.ledger_count;
      pending_count = a.pending_count ∙ alike.pending_count ∙ sym b.pending_count;
      steps = omega (arith, a.steps, b.steps, was.steps);
      kept = λ i low high. ap (λ x. slot x i) a.ledger ∙ alike.kept i low (omega (arith, a.ledger_count)) ∙ sym (ap (λ x. slot x i) b.ledger);
      waiting = λ i low high. ap (λ x. slot x i) a.pending ∙ alike.waiting i low (omega (arith, a.pending_count)) ∙ sym (ap (λ x. slot x i) b.pending);
    }

module _ (meaning : Meaning) (room : Room) (before before' : Moment) (at : KeepsAt meaning before) (at' : KeepsAt meaning before') (runs : Runs room before) (runs' : Runs room before') (was : Alike before before') where
  abbrev rows : List Row
  rows = rows_of before

  abbrev n : ℕ
  n = before.study.ledger_count

  abbrev m : ℕ
  m = before.study.pending_count

  abbrev taken : Range
  taken = taken_of before

  sought : Sought meaning rows room n m before.ledger before.pending
  sought = at.runs room runs

  sought' : Sought meaning (rows_of before') room before'.study.ledger_count before'.study.pending_count before'.ledger before'.pending
  sought' = at'.runs room runs'

  same_taken : 1 ≤ m → taken_of before' ≡ taken
  same_taken some = ap (slot before'.pending) (sym was.pending_count) ∙ sym (was.waiting m some (omega arith))

  -- what is due of the range of the second is due of that of the first
  called : 1 ≤ m → (deed : Deed) → Due meaning (rows_of before') (taken_of before') deed → Due meaning rows taken deed
  called some deed calls = subst (λ r. Due meaning rows r deed) (same_taken some) (subst (λ x. Due meaning x (taken_of before') deed) (sym was.rows) calls)

  same_pieces : 1 ≤ m → (u : Range) → pieces_of before u ≡ pieces_of before' u
  same_pieces some u = ap₂ (λ r (x : List Row). pieces r u (length x)) (sym (same_taken some)) was.rows

  same_ledger_count : (deed : Deed) → (left_by room before deed).ledger_count ≡ (left_by room before' deed).ledger_count
  same_ledger_count (End verdict) = was.ledger_count
  same_ledger_count (Keep grown) = ap (λ x. x + 1) was.ledger_count
  same_ledger_count (Split u) = ap (λ x. x + 1) was.ledger_count

  same_pending_count : 1 ≤ m → (deed : Deed) → (left_by room before deed).pending_count ≡ (left_by room before' deed).pending_count
  same_pending_count some (End verdict) = was.pending_count
  same_pending_count some (Keep grown) = ap (λ x. x - 1) was.pending_count
  same_pending_count some (Split u) = ap₂ (λ x (ps : List Range). x - 1 + length ps) was.pending_count (same_pieces some u)

  -- where the first has the slots the second has, and the other way round
  fits_alike : 1 ≤ m → (d e : Deed) → SameDeed (length rows) d e → Fits room (left_by room before d) ↔ Fits room (left_by room before' e)
  fits_alike some d e (same_deed x) =
      let ledger = same_ledger_count x in
      let pending = same_pending_count some x in
      (λ fits. (omega (arith, ledger, fits.0), omega (arith, pending, fits.1)), λ fits. (omega (arith, ledger, fits.0), omega (arith, pending, fits.1)))
  fits_alike some d e (other_places f g both) =
      (λ fits. (omega (arith, was.ledger_count, fits.0), omega (arith, was.pending_count, fits.1)), λ fits. (omega (arith, was.ledger_count, fits.0), omega (arith, was.pending_count, fits.1)))

  taken_full : 1 ≤ m → Full taken
  taken_full some = slot_full before.pending m some (omega (arith, sought.long_pending, sought.few_waiting))

  ledger_alike : (r : Range) → Full r → n + 1 ≤ room.ledger → SameSlots (n + 1) (put_slot before.ledger (n + 1) r) (put_slot before'.ledger (before'.study.ledger_count + 1) r)
  ledger_alike r full has = slot_alike before.ledger before'.ledger n before'.study.ledger_count r full was.ledger_count (omega (arith, sought.long_ledger)) (omega (arith, was.ledger_count, sought'.long_ledger)) was.kept

  ended_alike : (s u : State) → SameState (length rows) s u → LeftAlike (length rows) (left_by room before (End s)) (left_by room before' (End u))
  ended_alike s u both = record { state = both; ledger_count = was.ledger_count; pending_count = was.pending_count; kept = was.kept; waiting = was.waiting }

  one_left : (deed : Deed) → 1 ≤ m → Due meaning rows taken deed → Fits room (left_by room before deed) → LeftAlike (length rows) (left_by room before deed) (left_by room before' deed)
  one_left (End verdict) some calls fits = ended_alike verdict verdict (same_state verdict)
  one_left (Keep grown) some calls fits = record {
    state = same_state (state.Running room);
    ledger_count = same_ledger_count (Keep grown);
    pending_count = same_pending_count some (Keep grown);
    kept = ledger_alike grown (grown_full meaning rows taken (taken_full some) calls.1) fits.0;
    waiting = λ i low high. was.waiting i low (omega arith);
  }
  one_left (Split u) some calls fits =
      let full = taken_full some in
      let lows : Full (lows_of taken) = record { lows = full.lows; highs = full.lows } in
      let ps = pieces_of before u in
      let waits = slots_alike ps before.pending before'.pending m before'.study.pending_count (full_pieces taken u (length rows) full) some was.pending_count (omega (arith, sought.long_pending, fits.1)) (omega (arith, was.pending_count, sought'.long_pending, fits.1)) was.waiting in
      record {
        state = same_state (state.Running room);
        ledger_count = same_ledger_count (Split u);
        pending_count = same_pending_count some (Split u);
        kept = ledger_alike u (grown_full meaning rows (lows_of taken) lows calls.2) fits.0;
        waiting = subst (λ x. SameSlots (m - 1 + length ps) (put_slots before.pending m ps) (put_slots before'.pending before'.study.pending_count x)) (same_pieces some u) waits;
      }

  left_alike : (d e : Deed) → SameDeed (length rows) d e → 1 ≤ m → Due meaning rows taken d → Fits room (left_by room before d) → LeftAlike (length rows) (left_by room before d) (left_by room before' e)
  left_alike d e (same_deed x) some calls fits = one_left x some calls fits
  left_alike d e (other_places f g both) some calls fits = ended_alike (state.Found f) (state.Found g) (same_found f g both)

  one : 1 ≤ m → (d e : Deed) → Due meaning rows taken d → Due meaning (rows_of before') (taken_of before') e → SameDeed (length rows) d e
  one some d e a b = one_deed meaning rows taken (sought.waiting m some (omega arith)).0 d e a (called some e b)

  does_alike : (d e : Deed) → Does meaning room before d → Does meaning room before' e → LeftAlike (length rows) (left_by room before d) (left_by room before' e)
  does_alike d e (none a) (none b) = ended_alike state.None state.None (same_state state.None)
  does_alike d e (none a) (does x some calls fits) = absurd (omega (arith, a, some, was.pending_count))
  does_alike d e (none a) (stops x some calls lacks) = absurd (omega (arith, a, some, was.pending_count))
  does_alike d e (does x some calls fits) (none b) = absurd (omega (arith, b, some, was.pending_count))
  does_alike d e (does x some calls fits) (does y some' calls' fits') = left_alike x y (one some x y calls calls') some calls fits
  does_alike d e (does x some calls fits) (stops y some' calls' lacks) = absurd (lacks ((fits_alike some x y (one some x y calls calls')).0 fits))
  does_alike d e (stops x some calls lacks) (none b) = absurd (omega (arith, b, some, was.pending_count))
  does_alike d e (stops x some calls lacks) (does y some' calls' fits') = absurd (lacks ((fits_alike some x y (one some x y calls calls')).1 fits'))
  does_alike d e (stops x some calls lacks) (stops y some' calls' lacks') = ended_alike state.Stopped state.Stopped (same_state state.Stopped)

  -- steps from alike moments lead to alike ones
  pub step_alike : (after after' : Moment) → OneDeed meaning room before after → OneDeed meaning room before' after' → Alike after after'
  step_alike after after' a b = leaves_alike before before' after after' _ _ was a.leaves b.leaves (does_alike a.deed b.deed a.done b.done)

same_room : (a b : Room) → a.ledger ≡ b.ledger → a.pending ≡ b.pending → a ≡ b
same_room a b p q = λ i. record { ledger = p i; pending = q i }

-- the room of two lists is one
pub one_room : (m : Moment) (a b : Room) → HasRoom a m → HasRoom b m → a ≡ b
one_room m a b p q = same_room a b (omega (arith, p.0.2, q.0.2)) (omega (arith, p.1.2, q.1.2))

-- searches of the same rows, with the same room, begin alike
pub begun_alike : (room : Room) (before before' after after' : Moment) → HasRoom room before → HasRoom room before' → rows_of before ≡ rows_of before' → WholePending room before after → WholePending room before' after' → Alike after after'
begun_alike room before before' after after' has has' is a b =
    let own : (m : Moment) → HasRoom room m → slot (put_slot m.pending 1 (whole (rows_of m))) 1 ≡ whole (rows_of m) = λ m given. put_slot_back m.pending 1 (whole (rows_of m)) (record { lows = padded_length _; highs = padded_length _ }) (omega arith) (omega (arith, given.1)) in
    record {
      rows = ap view a.table ∙ is ∙ sym (ap view b.table);
      state = subst (SameState (length (rows_of after)) after.study.state) (a.state ∙ sym b.state) (same_state after.study.state);
      ledger_count = a.ledger_count ∙ sym b.ledger_count;
      pending_count = a.pending_count ∙ sym b.pending_count;
      steps = a.steps ∙ sym b.steps;
      kept = λ i low high. absurd (omega (arith, a.ledger_count));
      waiting = λ i low high.
          let one : i ≡ 1 = omega (arith, a.pending_count) in
          ap (slot after.pending) one ∙ ap (λ x. slot x 1) a.pending ∙ own before has ∙ ap whole is ∙ sym (own before' has') ∙ sym (ap (λ x. slot x 1) b.pending) ∙ ap (slot after'.pending) (sym one);
    }
