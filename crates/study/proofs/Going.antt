-- A search on its way: what it keeps between its steps.
use Rattle.std.proofs.Common.{◌≡◌, ℕ, ◌+◌, ◌*◌, ◌/◌, ◌≤◌, Bool, true, false, ◌⊎◌, List, length, Ok, Err, Result, IsErr, sym, refl, ap, subst, ◌∙◌, inl, inr, arith}
use Rattle.std.proofs.lemmas.Bool.{cases_lt, cases_eq, false≢true}
use Rattle.table.specs.declared.fault.Fault.{Fault}
use Rattle.table.specs.declared.fault.Fault.TheVariants.{Empty, BadSlots}
use Rattle.bounds.specs.Questions.{Meaning, Laws}
use Rattle.study.specs.declared.room.Room.{Room}
use Rattle.study.specs.Counts.{verdicts}
use Rattle.study.specs.Slots.{HasSlots}
use Rattle.study.specs.Moments.{Moment, moment, rows_of}
use Rattle.study.specs.Begins.{HasRoom, Begins}
use Rattle.study.specs.Steps.{Runs, OneDeed, Steps}
use Rattle.study.specs.Histories.{Tally, no_more, Promise, History, accepted_begin, refused_begin, accepted_step}
use Rattle.study.specs.Searches.{Leads, at_begin, one_on, Searches, SearchPromise}
use Rattle.study.proofs.Lawful.{room_of, KeepsAt, Told, begun_keeps, told_begun, stepped_keeps, told_stepped, begin_accepted, step_accepted, counted_running, after_step, ok≢err, ready, law}

abbrev since_at : Room → ℕ → Bool → Tally
since_at room n stepped = record { ledger_slots = room.ledger; accepted_steps = n; last_was_step = stepped }

module _ (meaning : Meaning) where
  -- n accepted steps after the accepted begin: what is kept, and that every history to the beginning leads here
  pub record Going (room : Room) (before m : Moment) : Type 0 where
    pub count : ℕ
    pub stepped : Bool
    pub leads : Leads meaning room before count m
    pub at : KeepsAt meaning m
    pub told : Told m (since_at room count stepped)
    pub same : count ≡ m.study.steps
    pub alive : (Runs room m) ⊎ ((verdicts m.study.state ≡ 1) × (stepped ≡ true))
    pub past : (l p : List ℕ) (c : Tally) → History meaning (moment before.study l p) c → History meaning m (since_at room count stepped)

  pub going_begun : (room : Room) (before after : Moment) → HasRoom room before → Begins before (Ok tt) after → (r : Room) × HasRoom r before × Going r before after
  going_begun room before after has begun =
      let on = begin_accepted before after room has begun in (
        on.0,
        on.1,
        record {
          count = 0;
          stepped = false;
          leads = at_begin begun;
          at = begun_keeps meaning on.0 before after on.1 on.2;
          told = told_begun on.0 after on.0.ledger refl on.2.state on.2.steps;
          same = sym on.2.steps;
          alive = inl on.2.state;
          past = λ l p c h. accepted_begin h before.ledger before.pending after on.0 on.1 begun;
        },
      )

  -- while a search is running, it is this one
  pub going_runs : (room : Room) (before m : Moment) → Going room before m → ((r : Room) × Runs r m) → Runs room m
  going_runs room before m going some = elim going.alive [ inl runs ↦ runs | inr verdict ↦ absurd (omega (arith, verdict.0, ap verdicts some.1)) ]

  module _ (laws : Laws meaning) (room : Room) (before m after : Moment) (going : Going room before m) (runs : Runs room m) where
    -- a step is never refused
    pub not_refused : (e : Fault) → Steps meaning m (Err e) after → ⊥
    not_refused e asked = let on = asked.1 (room, runs) in ok≢err e (sym (on.2.1 (ready meaning m going.at on.0 on.1)).0)

    did_step : Steps meaning m (Ok tt) after → OneDeed meaning room m after
    did_step took =
        let on = step_accepted meaning m after (ready meaning m going.at) took in
        let room_is : on.0 ≡ room = ap (room_of room) (sym on.1 ∙ runs) in
        subst (λ r. OneDeed meaning r m after) room_is on.2

    -- a step counts one more, of at most 4,097
    pub step_counts : Steps meaning m (Ok tt) after → (after.study.steps ≡ m.study.steps + 1) × (m.study.steps ≤ 4096)
    step_counts took = let few = counted_running m.study room runs in ((did_step took).leaves.steps, omega (arith, few.0, few.1, few.2))

    pub going_stepped : Steps meaning m (Ok tt) after → Going room before after
    going_stepped took =
        let did = did_step took in
        record {
          count = going.count + 1;
          stepped = true;
          leads = one_on going.leads (ap verdicts runs) took;
          at = stepped_keeps meaning laws room m going.at runs after did;
          told = told_stepped room m after (since_at room going.count going.stepped) going.told runs did;
          same = omega (arith, going.same, did.leaves.steps);
          alive = elim (after_step did) [ inl on_it ↦ inl on_it | inr verdict ↦ inr (verdict, refl) ];
          past = λ l p c h. accepted_step (going.past l p c h) after took;
        }

  module _ (room : Room) (before m : Moment) (going : Going room before m) (over : ((r : Room) × Runs r m) → ⊥) where
    -- the search has ended
    ended : (verdicts m.study.state ≡ 1) × (going.stepped ≡ true)
    ended = elim going.alive [ inl runs ↦ absurd (over (room, runs)) | inr verdict ↦ verdict ]

    pub searches_ended : 1 ≤ length (rows_of before) → HasRoom room before → Searches meaning before (Ok tt) m
    searches_ended some has = (
      λ empty. absurd (empty some),
      λ _. (λ bad. absurd (bad (room, has)), λ _. (room, has, refl, record { count = going.count; leads = going.leads; bounded = going.told.bounded; ends = ended.0 })),
    )

    pub promise_ended : (laws : Laws meaning) → HasRoom room before → (l p : List ℕ) (c : Tally) → History meaning (moment before.study l p) c → SearchPromise meaning before (Ok tt) m l p c
    promise_ended laws has l p c h =
        let slots : room.ledger ≡ length before.ledger / 64 = omega (arith, has.0.2) in
        let promise = law meaning laws m (since_at room going.count going.stepped) (going.past l p c h) in (
          subst (λ n. Promise meaning m (record { ledger_slots = n; accepted_steps = m.study.steps; last_was_step = true })) slots
              (subst (λ n. Promise meaning m (record { ledger_slots = room.ledger; accepted_steps = n; last_was_step = true })) going.same
              (subst (λ b. Promise meaning m (record { ledger_slots = room.ledger; accepted_steps = going.count; last_was_step = b })) ended.1 promise)),
          tt,
        )

  -- refused as begin is
  pub searches_refused : (before after : Moment) (e : Fault) → Begins before (Err e) after → Searches meaning before (Err e) after
  searches_refused before after e refused = (
    refused.0,
    λ some. ((refused.1 some).0, λ q. absurd (ok≢err e (sym ((refused.1 some).1 q).2))),
  )

  pub promise_refused : (laws : Laws meaning) (before after : Moment) (e : Fault) → Begins before (Err e) after → (l p : List ℕ) (c : Tally) → History meaning (moment before.study l p) c → (r : Result (Unit {0}) Fault) → IsErr r → SearchPromise meaning before r after l p c
  promise_refused laws before after e refused l p c h (Ok x) err = absurd (false≢true err)
  promise_refused laws before after e refused l p c h (Err x) err =
      (tt, law meaning laws (moment after.study l p) (no_more c) (refused_begin h before.ledger before.pending after e refused))

-- whether a list has whole slots
has_slots : (list : List ℕ) → ((n : ℕ) × HasSlots list n) ⊎ (((n : ℕ) × HasSlots list n) → ⊥)
has_slots list =
    let n = length list / 64 in
    elim (cases_eq (length list) (64 * n)) [
      | inl exact ↦ elim (cases_lt 0 n) [
        | inl some ↦ elim (cases_lt 4096 n) [
          | inl many ↦ inr (λ q. omega (arith, q.1.1, q.1.2))
          | inr few ↦ inl (n, (omega arith, few, exact))
        ]
        | inr zero ↦ inr (λ q. omega (arith, q.1.0, q.1.2))
      ]
      | inr over ↦ inr (λ q. over (omega (arith, q.1.2)))
    ]

-- an accepted begin had a row and room
pub begin_had : (before after : Moment) → Begins before (Ok tt) after → (1 ≤ length (rows_of before)) × ((room : Room) × HasRoom room before)
begin_had before after begun = elim (cases_lt 0 (length (rows_of before))) [
  | inl some ↦ (
    omega arith,
    elim (has_slots before.ledger) [
      | inl l ↦ elim (has_slots before.pending) [
        | inl p ↦ (record { ledger = l.0; pending = p.0 }, (l.1, p.1))
        | inr other ↦ absurd (ok≢err BadSlots ((begun.1 (omega arith)).0 (λ q. other (q.0.pending, q.1.1))).0)
      ]
      | inr other ↦ absurd (ok≢err BadSlots ((begun.1 (omega arith)).0 (λ q. other (q.0.ledger, q.1.0))).0)
    ],
  )
  | inr few ↦ absurd (ok≢err Empty (begun.0 (λ one. omega arith)).0)
]
