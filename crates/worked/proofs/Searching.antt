-- What begin and a step of a search do, where the range that it takes is known.
use Rattle.std.proofs.Common.{◌≡◌, ℕ, ◌+◌, ◌-◌, ◌*◌, ◌<◌, ◌≤◌, List, length, get_or, take, Some, Ok, Result, sym, refl, ap, ap₂, subst, ◌∙◌, inl, inr, arith}
use Rattle.std.proofs.lemmas.Option.{same_Some}
use Rattle.table.specs.declared.row.Row.{Row}
use Rattle.table.specs.declared.fault.Fault.{Fault}
use Rattle.table.specs.Rows.{view}
use Rattle.bounds.specs.Questions.{Meaning, Laws}
use Rattle.bounds.proofs.Padded.{padded_length}
use Rattle.orders.specs.declared.range.Range.{Range}
use Rattle.orders.specs.Ranges.{Within, Open, Closed}
use Rattle.orders.specs.Assigner.{assigned}
use Rattle.study.specs.declared.finding.Finding.{Finding}
use Rattle.study.specs.declared.room.Room.{Room}
use Rattle.study.specs.declared.state.State.TheVariants as state
use Rattle.study.specs.Slots.{slot, put_slot}
use Rattle.study.specs.Pieces.{pieces, put_slots}
use Rattle.study.specs.Moments.{Moment, rows_of}
use Rattle.study.specs.Whole.{whole}
use Rattle.study.specs.Begins.{HasRoom, Begins}
use Rattle.study.specs.declared.deed.Deed.{Deed}
use Rattle.study.specs.declared.deed.Deed.TheVariants.{End, Keep, Split}
use Rattle.study.specs.Deeds.{lows_of, GrowsTo, Finds, Due}
use Rattle.study.specs.Steps.{Runs, taken_of, pieces_of, left_by, Fits, Leaves, Does, OneDeed, Steps, none, does, stops}
use Rattle.study.proofs.Stepping.{counted_fits}
use Rattle.study.proofs.OneDeed.{goes_on, same_on, called_done}
use Rattle.study.proofs.Overs.{Full, put_slot_back}
use Rattle.study.proofs.Runs.{EachFull, put_slots_back}
use Rattle.study.proofs.Lawful.{room_of, KeepsAt, begun_keeps, stepped_keeps, ready}

module _ (meaning : Meaning) where
  -- a moment of a running search: its rows, its counts and the last pending range
  pub record On (rows : List Row) (room : Room) (n m : ℕ) (taken : Range) (at : Moment) : Type 0 where
    pub rows_are : rows_of at ≡ rows
    pub runs : Runs room at
    pub ledger_count : at.study.ledger_count ≡ n
    pub pending_count : at.study.pending_count ≡ m
    pub taken_is : taken_of at ≡ taken
    pub kept : KeepsAt meaning at

  -- begin is accepted, and a search runs on the range of all C to D
  pub begun_on : (rows : List Row) (before after : Moment) (room : Room) (r : Result (Unit {0}) Fault) → 1 ≤ length rows → rows_of before ≡ rows → HasRoom room before → Begins before r after
      → (r ≡ Ok tt) × ((own : Room) × (own.ledger ≡ room.ledger) × (own.pending ≡ room.pending) × On rows own 0 1 (whole rows) after)
  begun_on rows before after room r some is has begins =
      let had : 1 ≤ length (rows_of before) = omega (arith, ap length is) in
      let did = (begins.1 had).1 (room, has) in
      let begun = did.3 in
      let wide : Full (whole rows) = record { lows = padded_length _; highs = padded_length _ } in (
        did.2,
        (
          did.0,
          omega (arith, has.0.2, did.1.0.2),
          omega (arith, has.1.2, did.1.1.2),
          record {
            rows_are = ap view begun.table ∙ is;
            runs = begun.state;
            ledger_count = begun.ledger_count;
            pending_count = begun.pending_count;
            taken_is = ap₂ slot begun.pending begun.pending_count ∙ ap (λ rs. slot (put_slot before.pending 1 (whole rs)) 1) is ∙ put_slot_back before.pending 1 (whole rows) wide (omega arith) (omega (arith, has.1.0, has.1.2));
            kept = begun_keeps meaning did.0 before after did.1 begun;
          },
        ),
      )

  -- a step of a running search is accepted
  pub stepped_on : (room : Room) (at after : Moment) (r : Result (Unit {0}) Fault) → Runs room at → KeepsAt meaning at → Steps meaning at r after → (r ≡ Ok tt) × OneDeed meaning room at after
  stepped_on room at after r runs kept steps =
      let on = steps.1 (room, runs) in
      let did = on.2.1 (ready meaning at kept on.0 on.1) in
      (did.0, subst (λ x. OneDeed meaning x at after) (ap (room_of room) (sym on.1 ∙ runs)) did.1)

  module _ {rows : List Row} {room : Room} {n m : ℕ} {taken : Range} {at : Moment} (on : On rows room n m taken at) where
    -- what is so of the moment is so of the rows and the range that are known, and the other way round
    known : (P : List Row → Range → Type 0) → P (rows_of at) (taken_of at) → P rows taken
    known P p = subst (P rows) on.taken_is (subst (λ x. P x (taken_of at)) on.rows_are p)

    here : (P : List Row → Range → Type 0) → P rows taken → P (rows_of at) (taken_of at)
    here P p = subst (λ x. P x (taken_of at)) (sym on.rows_are) (subst (P rows) (sym on.taken_is) p)

  module _ (rows : List Row) (room : Room) (n m : ℕ) (taken : Range) (at after : Moment) (on : On rows room n m taken at) (did : OneDeed meaning room at after) where
    empty_ends : (deed : Deed) → m ≡ 0 → Does meaning room at deed → (left_by room at deed).state ≡ state.None
    empty_ends deed empty (none nothing) = refl
    empty_ends deed empty (does x some calls fits) = absurd (omega (arith, some, on.pending_count, empty))
    empty_ends deed empty (stops x some calls lacks) = absurd (omega (arith, some, on.pending_count, empty))

    -- nothing is pending: the search says none
    pub ends_none : m ≡ 0 → after.study.state ≡ state.None
    ends_none empty = did.leaves.state ∙ empty_ends did.deed empty did.done

    -- a step that finds an order for the list of the lows
    Found : Deed → Type 0
    Found deed = (f : Finding) × (deed ≡ End (state.Found f)) × Finds meaning rows taken f

    module _ (opens : Open meaning rows taken) (below : Open meaning rows (lows_of taken)) where
      calls_found : (deed : Deed) → Due meaning rows taken deed → Found deed
      unfolding Found
      calls_found (End verdict) calls = (calls.2.0, ap End calls.2.1, calls.2.2)
      calls_found (Keep grown) calls = absurd (calls.0 opens.0 opens.1)
      calls_found (Split u) calls = absurd (calls.1 below.0 below.1)

      found_fits : (deed : Deed) → Found deed → Fits room (left_by room at deed)
      unfolding Found
      found_fits deed found = subst (λ x. Fits room (left_by room at x)) (sym found.1) (counted_fits room at on.runs)

      finds : (deed : Deed) → 1 ≤ m → Does meaning room at deed → Found deed
      finds deed waits (none nothing) = absurd (omega (arith, nothing, on.pending_count, waits))
      finds deed waits (does x some calls fits) = calls_found x (known on (λ rs r. Due meaning rs r x) calls)
      finds deed waits (stops x some calls lacks) = absurd (lacks (found_fits x (calls_found x (known on (λ rs r. Due meaning rs r x) calls))))

      -- the list of the lows is open: its order is found
      pub does_find : 1 ≤ m → Within rows (lows_of taken) → (order : List ℕ) → assigned meaning rows (lows_of taken) ≡ Some order
          → (f : Finding) × (after.study.state ≡ state.Found f) × (take (length rows) f.order ≡ order) × (f.estimates ≡ taken.lows) × (after.study.ledger_count ≡ n)
      unfolding Found
      does_find waits within order is =
          let found = finds did.deed waits did.done in
          let leaves : Leaves at (left_by room at (End (state.Found found.0))) after = subst (λ x. Leaves at (left_by room at x) after) found.1 did.leaves in
          (found.0, leaves.state, same_Some _ _ (sym (found.2.0.1 within).0 ∙ is), found.2.1, leaves.ledger_count ∙ on.ledger_count)

    module _ (laws : Laws meaning) (waits : 1 ≤ m) (left : n < room.ledger) where
      next_kept : KeepsAt meaning after
      next_kept = stepped_keeps meaning laws room at on.kept on.runs after did

      some : 1 ≤ at.study.pending_count
      some = omega (arith, on.pending_count, waits)

      -- what is written to the ledger is read back
      written : (q : Range) → Full q → after.ledger ≡ put_slot at.ledger (at.study.ledger_count + 1) q → slot after.ledger (n + 1) ≡ q
      written q wide is =
          ap (λ l. slot l (n + 1)) (is ∙ ap (λ i. put_slot at.ledger (i + 1) q) on.ledger_count)
          ∙ put_slot_back at.ledger (n + 1) q wide (omega arith) (omega (arith, left, (on.kept.runs room on.runs).long_ledger))

      -- a deed is due after which the search goes on, and both lists have the slots: it is done
      goes : (deed : Deed) → 1 ≤ goes_on deed → Due meaning rows taken deed → Fits room (left_by room at deed) → Leaves at (left_by room at deed) after
      goes deed on_it calls fits =
          let within = ((on.kept.runs room on.runs).waiting at.study.pending_count some (omega arith)).0 in
          let done = called_done meaning room at within some did.deed deed (here on (λ rs r. Due meaning rs r deed) calls) fits did.done in
          subst (λ x. Leaves at (left_by room at x) after) (same_on _ did.deed deed done on_it) did.leaves

      -- the range is closed: its grown form goes to the ledger
      pub does_keep : (q : Range) → Full q → Closed meaning rows taken → GrowsTo meaning rows taken q
          → (after.study.ledger_count ≡ n + 1) × (slot after.ledger (n + 1) ≡ q) × On rows room (n + 1) (m - 1) (taken_of after) after
      does_keep q wide closed grows =
          let leaves = goes (Keep q) (omega arith) (closed, grows) (omega (arith, left, on.ledger_count), omega (arith, (counted_fits room at on.runs).1)) in
          let count : after.study.ledger_count ≡ n + 1 = leaves.ledger_count ∙ ap (λ i. i + 1) on.ledger_count in (
            count,
            written q wide leaves.ledger,
            record {
              rows_are = ap view leaves.table ∙ on.rows_are;
              runs = leaves.state;
              ledger_count = count;
              pending_count = leaves.pending_count ∙ ap (λ i. i - 1) on.pending_count;
              taken_is = refl;
              kept = next_kept;
            },
          )

      -- it is open, and the list of its lows closed: the grown list goes to the ledger, and the pieces replace the range
      pub does_split : (u : Range) (ps : List Range) → Full u → EachFull ps → 1 ≤ length ps → Open meaning rows taken → Closed meaning rows (lows_of taken) → GrowsTo meaning rows (lows_of taken) u
          → pieces taken u (length rows) ≡ ps → m - 1 + length ps ≤ room.pending
          → (after.study.ledger_count ≡ n + 1) × (slot after.ledger (n + 1) ≡ u) × On rows room (n + 1) (m - 1 + length ps) (get_or ps (length ps - 1) u) after
      does_split u ps wide each any opens closed grows cut enough =
          let is : pieces_of at u ≡ ps = ap₂ (λ r (x : List Row). pieces r u (length x)) on.taken_is on.rows_are ∙ cut in
          let pieced = ap length is in
          let leaves = goes (Split u) (omega arith) (opens, closed, grows) (omega (arith, left, on.ledger_count), omega (arith, pieced, on.pending_count, enough)) in
          let count : after.study.ledger_count ≡ n + 1 = leaves.ledger_count ∙ ap (λ i. i + 1) on.ledger_count in
          let waiting : after.study.pending_count ≡ m - 1 + length ps = leaves.pending_count ∙ ap₂ (λ i l. i - 1 + l) on.pending_count pieced in
          let last : after.study.pending_count ≡ m + (length ps - 1) = omega arith in
          let fits : 64 * (m - 1 + length ps) ≤ length at.pending = omega (arith, (on.kept.runs room on.runs).long_pending) in
          let list : after.pending ≡ put_slots at.pending m ps = leaves.pending ∙ ap₂ (put_slots at.pending) on.pending_count is in (
            count,
            written u wide leaves.ledger,
            record {
              rows_are = ap view leaves.table ∙ on.rows_are;
              runs = leaves.state;
              ledger_count = count;
              pending_count = waiting;
              taken_is = ap₂ slot list last ∙ put_slots_back ps at.pending m each waits fits (length ps - 1) u (omega arith);
              kept = next_kept;
            },
          )
