-- The law over all histories, by one induction.
use Rattle.std.proofs.Common.{◌≡◌, ℕ, ◌+◌, ◌≤◌, true, false, ◌⊎◌, List, length, Ok, Err, Result, IfOk, IfErr, is_ok, sym, refl, ap, subst, ◌∙◌, inl, inr, arith}
use Rattle.std.proofs.lemmas.Bool.{false≢true, cases_lt}
use Rattle.table.specs.declared.row.Row.{Row}
use Rattle.table.specs.declared.fault.Fault.{Fault}
use Rattle.table.specs.declared.fault.Fault.TheVariants.{Empty, NotRunning}
use Rattle.table.specs.Rows.{view}
use Rattle.table.proofs.View.{few_rows}
use Rattle.bounds.specs.Questions.{Meaning, Laws}
use Rattle.bounds.specs.Orders.{Order, Estimates, HasLate}
use Rattle.study.specs.declared.study.Study.{Study}
use Rattle.study.specs.declared.edit.Edit.{Edit}
use Rattle.study.specs.declared.edit.Edit.TheVariants.{Add, Alter, Remove}
use Rattle.study.specs.declared.room.Room.{Room}
use Rattle.study.specs.declared.finding.Finding.{Finding}
use Rattle.study.specs.declared.state.State.{State}
use Rattle.study.specs.declared.state.State.TheVariants as state
use Rattle.study.specs.Counts.{verdicts, Counted}
use Rattle.study.specs.Calls.{IsDraft, EditsBy}
use Rattle.study.specs.Moments.{Moment, moment, rows_of}
use Rattle.study.specs.Begins.{HasRoom, WholePending, Begins}
use Rattle.study.specs.declared.deed.Deed.{Deed}
use Rattle.study.specs.declared.deed.Deed.TheVariants.{End, Keep, Split}
use Rattle.study.specs.Deeds.{Due}
use Rattle.study.specs.Steps.{Runs, AsLeft, taken_of, Left, left_by, Fits, Leaves, Does, OneDeed, Steps, none, does, stops}
use Rattle.study.specs.Histories.{Tally, counted_from, one_more, no_more, Means, StepPromise, History, Law, Shown, new_study, any_edit, accepted_begin, refused_begin, accepted_step, refused_step}
use Rattle.study.proofs.Sought.{Holding, AllBarred, Sought, sought_kept, sought_split, slot_full}
use Rattle.study.proofs.Standing.{finding_shows, every_late}
use Rattle.study.proofs.Started.{sought_begun}

-- which state it is
abbrev kind : State → ℕ
kind state.Draft = 0
kind (state.Running room) = 1
kind (state.Found finding) = 2
kind state.None = 3
kind state.Stopped = 4

abbrev pub room_of : Room → State → Room
room_of d state.Draft = d
room_of d (state.Running room) = room
room_of d (state.Found finding) = d
room_of d state.None = d
room_of d state.Stopped = d

abbrev finding_of : Finding → State → Finding
finding_of d state.Draft = d
finding_of d (state.Running room) = d
finding_of d (state.Found finding) = finding
finding_of d state.None = d
finding_of d state.Stopped = d

module _ (meaning : Meaning) where
  -- what a moment's verdict and ledger say, on these rows, in this state, with n ledger slots counted
  pub record Stands (rows : List Row) (s : State) (n : ℕ) (l : List ℕ) : Type 0 where
    pub found : (f : Finding) → s ≡ state.Found f → Shown meaning rows f
    pub none : s ≡ state.None → (order : List ℕ) → Order rows order → HasLate meaning rows order
    pub barred : AllBarred meaning rows n l
    pub covered : s ≡ state.None → (es : List ℕ) → Estimates rows es → Holding rows l n es

  -- and, if a search is running, what it keeps
  pub record Keeps (rows : List Row) (s : State) (n m : ℕ) (l p : List ℕ) : Type 0 where
    pub stands : Stands rows s n l
    pub runs : (room : Room) → s ≡ state.Running room → Sought meaning rows room n m l p

  -- in a state that is no verdict on orders, only the ledger speaks
  quiet : (rows : List Row) (s : State) (n : ℕ) (l : List ℕ) → ((f : Finding) → s ≡ state.Found f → ⊥) → (s ≡ state.None → ⊥) → AllBarred meaning rows n l → Stands rows s n l
  quiet rows s n l not_found not_none barred = record {
    found = λ f is. absurd (not_found f is);
    none = λ is. absurd (not_none is);
    barred = barred;
    covered = λ is. absurd (not_none is);
  }

  running : (rows : List Row) (room : Room) (n m : ℕ) (l p : List ℕ) → Sought meaning rows room n m l p → Keeps rows (state.Running room) n m l p
  running rows room n m l p sought = record {
    stands = quiet rows (state.Running room) n l (λ f is. absurd (omega (arith, ap kind is))) (λ is. absurd (omega (arith, ap kind is))) sought.barred;
    runs = λ r is. subst (λ x. Sought meaning rows x n m l p) (ap (room_of room) is) sought;
  }

  stopped : (rows : List Row) (n m : ℕ) (l p : List ℕ) → AllBarred meaning rows n l → Keeps rows state.Stopped n m l p
  stopped rows n m l p barred = record {
    stands = quiet rows state.Stopped n l (λ f is. absurd (omega (arith, ap kind is))) (λ is. absurd (omega (arith, ap kind is))) barred;
    runs = λ r is. absurd (omega (arith, ap kind is));
  }

  drafted : (rows : List Row) (l p : List ℕ) → Keeps rows state.Draft 0 0 l p
  drafted rows l p = record {
    stands = quiet rows state.Draft 0 l (λ f is. absurd (omega (arith, ap kind is))) (λ is. absurd (omega (arith, ap kind is))) (λ i low high. absurd (omega arith));
    runs = λ r is. absurd (omega (arith, ap kind is));
  }

  ended_none : (rows : List Row) (n m : ℕ) (l p : List ℕ) → AllBarred meaning rows n l → ((es : List ℕ) → Estimates rows es → Holding rows l n es) → ((order : List ℕ) → Order rows order → HasLate meaning rows order) → Keeps rows state.None n m l p
  ended_none rows n m l p barred cover late = record {
    stands = record { found = λ f is. absurd (omega (arith, ap kind is)); none = λ is. late; barred = barred; covered = λ is. cover };
    runs = λ r is. absurd (omega (arith, ap kind is));
  }

  ended_found : (rows : List Row) (f : Finding) (n m : ℕ) (l p : List ℕ) → AllBarred meaning rows n l → Shown meaning rows f → Keeps rows (state.Found f) n m l p
  ended_found rows f n m l p barred shows = record {
    stands = record {
      found = λ g is. subst (Shown meaning rows) (ap (finding_of f) is) shows;
      none = λ is. absurd (omega (arith, ap kind is));
      barred = barred;
      covered = λ is. absurd (omega (arith, ap kind is));
    };
    runs = λ r is. absurd (omega (arith, ap kind is));
  }

  -- the same of a moment
  abbrev pub KeepsAt : Moment → Type 0
  KeepsAt m = Keeps (rows_of m) m.study.state m.study.ledger_count m.study.pending_count m.ledger m.pending

  keeps_at : (after : Moment) (rows : List Row) (s : State) (n m : ℕ) (l p : List ℕ) → rows_of after ≡ rows → after.study.state ≡ s → after.study.ledger_count ≡ n → after.study.pending_count ≡ m → after.ledger ≡ l → after.pending ≡ p → Keeps rows s n m l p → KeepsAt after
  keeps_at after rows s n m l p r a b c d e was =
      subst (λ x. Keeps x after.study.state after.study.ledger_count after.study.pending_count after.ledger after.pending) (sym r)
      (subst (λ x. Keeps rows x after.study.ledger_count after.study.pending_count after.ledger after.pending) (sym a)
      (subst (λ x. Keeps rows s x after.study.pending_count after.ledger after.pending) (sym b)
      (subst (λ x. Keeps rows s n x after.ledger after.pending) (sym c)
      (subst (λ x. Keeps rows s n m x after.pending) (sym d)
      (subst (λ x. Keeps rows s n m l x) (sym e) was)))))

  -- after a step
  leaves_keeps : (before after : Moment) (left : Left) → Leaves before left after → Keeps (rows_of before) left.state left.ledger_count left.pending_count left.ledger left.pending → KeepsAt after
  leaves_keeps before after left leaves = keeps_at after (rows_of before) _ _ _ _ _ (ap view leaves.table) leaves.state leaves.ledger_count leaves.pending_count leaves.ledger leaves.pending

  draft_keeps : (s : Study) (l p : List ℕ) → IsDraft s → KeepsAt (moment s l p)
  draft_keeps s l p draft = keeps_at (moment s l p) (view s.table) state.Draft 0 0 l p refl draft.state draft.ledger_count draft.pending_count refl refl (drafted (view s.table) l p)

  pub begun_keeps : (room : Room) (before after : Moment) → HasRoom room before → WholePending room before after → KeepsAt after
  begun_keeps room before after has begins =
      let few = few_rows before.study.table in
      keeps_at after (rows_of before) (state.Running room) 0 1 _ _ (ap view begins.table) begins.state begins.ledger_count begins.pending_count begins.ledger begins.pending
      (running (rows_of before) room 0 1 _ _ (sought_begun (rows_of before) few meaning room before.ledger before.pending has.1.0 has.0.2 has.1.2))

  module _ (laws : Laws meaning) where
    -- what is kept of a running search is kept of what a step leaves
    module _ (room : Room) (before : Moment) (at : KeepsAt before) (runs : Runs room before) where
      abbrev rows : List Row
      rows = rows_of before

      sought : Sought meaning rows room before.study.ledger_count before.study.pending_count before.ledger before.pending
      sought = at.runs room runs

      abbrev LeftKept : Deed → Type 0
      LeftKept deed =
          let left = left_by room before deed in
          Keeps rows left.state left.ledger_count left.pending_count left.ledger left.pending

      called_kept : (deed : Deed) → 1 ≤ before.study.pending_count → Due meaning rows (taken_of before) deed → Fits room (left_by room before deed) → LeftKept deed
      called_kept (End verdict) some calls fits =
          let found = calls.2 in
          let whole = slot_full before.pending before.study.pending_count some (omega (arith, sought.long_pending, sought.few_waiting)) in
          let shows = finding_shows laws rows (few_rows before.study.table) (taken_of before) found.0 whole (sought.waiting before.study.pending_count some (omega arith)) found.2 in
          subst (λ s. Keeps rows s before.study.ledger_count before.study.pending_count before.ledger before.pending) (sym found.1)
          (ended_found rows found.0 _ _ _ _ sought.barred shows)
      called_kept (Keep grown) some calls fits = running rows room _ _ _ _ (sought_kept laws rows (few_rows before.study.table) room _ _ _ _ sought some (omega (arith, fits.0)) grown calls.0 calls.1)
      called_kept (Split u) some calls fits = running rows room _ _ _ _ (sought_split laws rows (few_rows before.study.table) room _ _ _ _ sought some (omega (arith, fits.0)) u calls.1 calls.2 fits.1)

      left_kept : (deed : Deed) → Does meaning room before deed → LeftKept deed
      left_kept deed (none nothing) =
          let cover : (es : List ℕ) → Estimates rows es → Holding rows before.ledger before.study.ledger_count es = λ es est. elim (sought.cover es est) [ inl kept ↦ kept | inr waits ↦ absurd (omega (arith, waits.1, waits.2, nothing)) ] in
          ended_none rows _ _ _ _ sought.barred cover (every_late laws rows (few_rows before.study.table) before.study.ledger_count before.ledger sought.barred cover)
      left_kept deed (does d some calls fits) = called_kept d some calls fits
      left_kept deed (stops d some calls lacks) = stopped rows _ _ _ _ sought.barred

      pub stepped_keeps : (after : Moment) → OneDeed meaning room before after → KeepsAt after
      stepped_keeps after stepped = leaves_keeps before after _ stepped.leaves (left_kept stepped.deed stepped.done)

-- what a running study's counts say
pub counted_running : (s : Study) (room : Room) → s.state ≡ state.Running room → (s.ledger_count ≤ room.ledger) × (s.steps ≡ s.ledger_count) × (room.ledger ≤ 4096)
counted_running s room is = let c = subst (λ x. Counted x s.ledger_count s.pending_count s.steps) is s.counted in (c.0, omega (arith, c.4), c.1)

-- A moment's tally: while a search is running, it is that of the search.
pub record Told (m : Moment) (c : Tally) : Type 0 where
  pub bounded : c.accepted_steps ≤ c.ledger_slots + 1
  pub last : c.last_was_step ≡ true → c.accepted_steps ≡ c.ledger_slots + 1 → verdicts m.study.state ≡ 1
  pub runs : (room : Room) → Runs room m → (c.ledger_slots ≡ room.ledger) × (c.accepted_steps ≡ m.study.steps)

-- a refused call, or an edit
told_other : (m after : Moment) (c : Tally) → Told m c → after.study ≡ m.study → Told after (no_more c)
told_other m after c told same = record {
  bounded = told.bounded;
  last = λ no. absurd (false≢true no);
  runs = λ room runs. let is = told.runs room (ap (λ (s : Study). s.state) (sym same) ∙ runs) in (is.0, is.1 ∙ ap (λ (s : Study). s.steps) (sym same));
}

told_draft : (after : Moment) (slots steps : ℕ) → steps ≤ slots + 1 → after.study.state ≡ state.Draft → Told after (record { ledger_slots = slots; accepted_steps = steps; last_was_step = false })
told_draft after slots steps le draft = record {
  bounded = le;
  last = λ no. absurd (false≢true no);
  runs = λ room runs. absurd (omega (arith, ap kind (sym draft ∙ runs)));
}

-- an accepted begin
pub told_begun : (room : Room) (after : Moment) (slots : ℕ) → slots ≡ room.ledger → after.study.state ≡ state.Running room → after.study.steps ≡ 0 → Told after (counted_from slots)
told_begun room after slots same is steps = record {
  bounded = omega arith;
  last = λ no. absurd (false≢true no);
  runs = λ r runs. (same ∙ ap (λ (x : Room). x.ledger) (ap (room_of room) (sym is ∙ runs)), sym steps);
}

-- a step goes on, or leaves a verdict
state_left : {meaning : Meaning} {room : Room} {before : Moment} (deed : Deed) → Does meaning room before deed → ((left_by room before deed).state ≡ state.Running room) ⊎ (verdicts (left_by room before deed).state ≡ 1)
state_left deed (none nothing) = inr refl
state_left deed (does (End verdict) some calls fits) = inr (ap verdicts calls.2.1)
state_left deed (does (Keep grown) some calls fits) = inl refl
state_left deed (does (Split u) some calls fits) = inl refl
state_left deed (stops d some calls lacks) = inr refl

pub after_step : {meaning : Meaning} {room : Room} {before after : Moment} → OneDeed meaning room before after → (Runs room after) ⊎ (verdicts after.study.state ≡ 1)
after_step stepped = elim (state_left stepped.deed stepped.done) [
  | inl on ↦ inl (stepped.leaves.state ∙ on)
  | inr verdict ↦ inr (ap verdicts stepped.leaves.state ∙ verdict)
]

module _ (room : Room) (before after : Moment) (c : Tally) (told : Told before c) (runs : Runs room before) where
  step_bounded : c.accepted_steps + 1 ≤ c.ledger_slots + 1
  step_bounded = let was = told.runs room runs in let few = counted_running before.study room runs in omega (arith, was.0, was.1, few.0, few.1)

  -- a step that ends the search
  told_ended : (s : State) → after.study.state ≡ s → verdicts s ≡ 1 → Told after (one_more c)
  told_ended s is verdict = record {
    bounded = step_bounded;
    last = λ _ _. ap verdicts is ∙ verdict;
    runs = λ r runs'. absurd (omega (arith, ap verdicts (sym is ∙ runs'), verdict));
  }

  -- a step after which it still runs
  told_running : after.study.state ≡ state.Running room → after.study.steps ≡ before.study.steps + 1 → Told after (one_more c)
  told_running is steps =
      let was = told.runs room runs in
      let few = counted_running after.study room is in
      record {
        bounded = step_bounded;
        last = λ _ full. absurd (omega (arith, was.0, was.1, few.0, few.1, steps, full));
        runs = λ r runs'. (was.0 ∙ ap (λ (x : Room). x.ledger) (ap (room_of room) (sym is ∙ runs')), omega (arith, was.1, steps));
      }

  pub told_stepped : {meaning : Meaning} → OneDeed meaning room before after → Told after (one_more c)
  told_stepped stepped = elim (after_step stepped) [
    | inl on ↦ told_running on stepped.leaves.steps
    | inr verdict ↦ told_ended after.study.state refl verdict
  ]

-- an accepted call is not a refused one
pub ok≢err : (e : Fault) → ◌≡◌ {A = Result (Unit {0}) Fault} (Ok tt) (Err e) → ⊥
ok≢err e is = false≢true (sym (ap is_ok is))

edit_parts : (e : Edit) (s : Study) (r : Result (Unit {0}) Fault) (after : Study) → EditsBy e s r after → IfOk r (λ _. IsDraft after) × IfErr r (λ _. after ≡ s)
edit_parts (Add n) s r after edits = (edits.1, edits.2)
edit_parts (Alter k n) s r after edits = (edits.1, edits.2)
edit_parts (Remove k) s r after edits = (edits.1, edits.2)

-- an accepted begin had a row, and its search has begun
pub begin_accepted : (before after : Moment) (room : Room) → HasRoom room before → Begins before (Ok tt) after → (r : Room) × HasRoom r before × WholePending r before after
begin_accepted before after room has begins = elim (cases_lt 0 (length (rows_of before))) [
  | inl some ↦ let on = (begins.1 (omega arith)).1 (room, has) in (on.0, on.1, on.3)
  | inr few ↦ absurd (ok≢err Empty (begins.0 (λ one. omega arith)).0)
]

-- a refused begin alters nothing
pub begin_refused : (before after : Moment) (e : Fault) → Begins before (Err e) after → after ≡ before
begin_refused before after e begins = elim (cases_lt 0 (length (rows_of before))) [
  | inl some ↦ let asks = begins.1 (omega arith) in (asks.0 (λ q. ok≢err e (sym (asks.1 q).2))).1
  | inr few ↦ (begins.0 (λ one. omega arith)).1
]

pub running_or_not : (s : State) → ((room : Room) × (s ≡ state.Running room)) ⊎ (((room : Room) × (s ≡ state.Running room)) → ⊥)
running_or_not state.Draft = inr (λ q. omega (arith, ap kind q.1))
running_or_not (state.Running room) = inl (room, refl)
running_or_not (state.Found f) = inr (λ q. omega (arith, ap kind q.1))
running_or_not state.None = inr (λ q. omega (arith, ap kind q.1))
running_or_not state.Stopped = inr (λ q. omega (arith, ap kind q.1))

module _ (meaning : Meaning) where
  -- an accepted step does a step's work
  pub step_accepted : (before after : Moment) → ((room : Room) → Runs room before → AsLeft room before) → Steps meaning before (Ok tt) after → (room : Room) × Runs room before × OneDeed meaning room before after
  step_accepted before after ready steps = elim (running_or_not before.study.state) [
    | inl runs ↦ let on = steps.1 runs in (on.0, on.1, (on.2.1 (ready on.0 on.1)).1)
    | inr other ↦ absurd (ok≢err NotRunning (steps.0 other).0)
  ]

  -- a refused step alters nothing
  pub step_refused : (before after : Moment) (e : Fault) → Steps meaning before (Err e) after → after ≡ before
  step_refused before after e steps = elim (running_or_not before.study.state) [
    | inl runs ↦ let on = steps.1 runs in (on.2.0 (λ left. ok≢err e (sym (on.2.1 left).0))).1
    | inr other ↦ (steps.0 other).1
  ]

  -- while a search is running, the lists are as it left them
  pub ready : (m : Moment) → KeepsAt meaning m → (room : Room) → Runs room m → AsLeft room m
  ready m at room runs =
      let sought = at.runs room runs in
      (sought.long_ledger, sought.long_pending, λ some. sought.waiting m.study.pending_count some (omega arith))

  -- what is kept of a moment is what it means
  pub means : (m : Moment) → KeepsAt meaning m → Means meaning m
  means m at = record { found = at.stands.found; none = at.stands.none; ledger = at.stands.barred; covered = at.stands.covered }

  -- a call that leaves the study as it was
  as_it_was : (m : Moment) (c : Tally) (s : Study) → s ≡ m.study → KeepsAt meaning m × Told m c → KeepsAt meaning (moment s m.ledger m.pending) × Told (moment s m.ledger m.pending) (no_more c)
  as_it_was m c s same was = (subst (λ x. KeepsAt meaning (moment x m.ledger m.pending)) (sym same) was.0, told_other m (moment s m.ledger m.pending) c was.1 same)

  edited : (m : Moment) (c : Tally) (s : Study) (r : Result (Unit {0}) Fault) → IfOk r (λ _. IsDraft s) × IfErr r (λ _. s ≡ m.study) → KeepsAt meaning m × Told m c → KeepsAt meaning (moment s m.ledger m.pending) × Told (moment s m.ledger m.pending) (no_more c)
  edited m c s (Ok x) parts was = (draft_keeps meaning s m.ledger m.pending parts.0, told_draft (moment s m.ledger m.pending) c.ledger_slots c.accepted_steps was.1.bounded parts.0.state)
  edited m c s (Err e) parts was = as_it_was m c s parts.1 was

  module _ (laws : Laws meaning) where
    along : {m : Moment} {c : Tally} → History meaning m c → KeepsAt meaning m × Told m c
    along (new_study s l p new) = (draft_keeps meaning s l p new.1, told_draft (moment s l p) 0 0 (omega arith) new.1.state)
    along (any_edit {now = m} {tally = c} h e r s edits) = edited m c s r (edit_parts e m.study r s edits) (along h)
    along (accepted_begin {now = m} {tally = c} h l p after room has begins) =
        let on = begin_accepted (moment m.study l p) after room has begins in
        (begun_keeps meaning on.0 (moment m.study l p) after on.1 on.2, told_begun on.0 after room.ledger (omega (arith, has.0.2, on.1.0.2)) on.2.state on.2.steps)
    along (refused_begin {now = m} {tally = c} h l p after e begins) = as_it_was m c after.study (ap (λ (x : Moment). x.study) (begin_refused (moment m.study l p) after e begins)) (along h)
    along (accepted_step {now = m} {tally = c} h after steps) =
        let was = along h in
        let on = step_accepted m after (ready m was.0) steps in
        (stepped_keeps meaning laws on.0 m was.0 on.1 after on.2, told_stepped on.0 m after c was.1 on.1 on.2)
    along (refused_step {now = m} {tally = c} h l p after e steps) = as_it_was m c after.study (ap (λ (x : Moment). x.study) (step_refused (moment m.study l p) after e steps)) (along h)

    pub law : Law meaning
    law m c h =
        let at = along h in
        record {
          means = means m at.0;
          counted = m.study.counted.4;
          bounded = at.1.bounded;
          last = at.1.last;
          ready = ready m at.0;
        }

    -- the promise after a step from the end of a history
    pub step_promise : (lent after : Moment) (l p : List ℕ) (c : Tally) (r : Result (Unit {0}) Fault) → Steps meaning lent r after → History meaning (moment lent.study l p) c → StepPromise meaning lent r after l p c
    step_promise lent after l p c (Ok x) steps h = (
      λ same_ledger same_pending. law after (one_more c)
          (accepted_step (subst (λ x. History meaning (moment lent.study x lent.pending) c) same_ledger (subst (λ x. History meaning (moment lent.study l x) c) same_pending h)) after steps),
      tt,
    )
    step_promise lent after l p c (Err e) steps h =
        (tt, law (moment after.study l p) (no_more c) (refused_step h lent.ledger lent.pending after e steps))
