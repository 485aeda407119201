-- An edit that its table's call accepts.
use Rattle.std.proofs.Common.{List, [], ◌∷◌, ◌++◌, MatchResult, ◌≡◌, ℕ, length, Ok, Err, Result, is_ok, ap, subst, sym, inl, inr, arith}
use Rattle.std.proofs.Props.{props}
use Rattle.std.proofs.lemmas.Bool.{cases_lt, false≢true}
use Rattle.table.specs.declared.row.Row.{Row}
use Rattle.table.specs.declared.numbers.Numbers.{Numbers}
use Rattle.table.specs.declared.fault.Fault.{Fault}
use Rattle.table.specs.Asking.{Refuses}
use Rattle.table.specs.Places.{put}
use Rattle.table.specs.Rows.{Table, view, Adds, Alters, Removes}
use Rattle.study.specs.declared.state.State.{State}
use Rattle.study.specs.declared.study.Study.{Study}
use Rattle.study.specs.Counts.{Counted}
use Rattle.study.specs.Calls.{IsDraft, Edits}

pub edited : (call : Table → Result (Unit {0}) Fault → Table → Type 0) (s after : Study) (t : Table) (r : Result (Unit {0}) Fault) → call s.table r t → r ≡ Ok tt → after.table ≡ t → IsDraft after → Edits call s (Ok tt) after
edited call s after t r called accepted same draft =
    let on : call s.table (Ok tt) t = subst (λ x. call s.table x t) accepted called in
    (subst (λ u. call s.table (Ok tt) u) (sym same) on, draft, tt)

-- a call that made no row altered nothing
unmade : (t after : Table) (e : Fault) (made : Result Row Fault) (on : Row → List Row) → MatchResult made (λ row. (◌≡◌ {A = Result (Unit {0}) Fault} (Err e) (Ok tt)) × (view after ≡ on row)) (λ fault. Refuses {A = Unit {0}} fault t (Err e) after) → after ≡ t
unmade t after e (Ok row) on goes = absurd (false≢true (ap is_ok goes.0))
unmade t after e (Err fault) on refused = refused.1

-- an addition that is refused leaves the table as it was
pub adds_refused : (t after : Table) (n : Numbers) (e : Fault) → Adds t n (Err e) after → after ≡ t
adds_refused t after n e adds = elim (cases_lt (length (view t)) 32) [
  | inl room ↦ let makes = adds.1 room in unmade t after e makes.0 (λ row. view t ++ row ∷ []) makes.2
  | inr full ↦ (adds.0 (λ l. omega arith)).1
]

-- a removal that is refused leaves the table as it was
pub removes_refused : (t after : Table) (k : ℕ) (e : Fault) → Removes t k (Err e) after → after ≡ t
removes_refused t after k e removes = elim (cases_lt 0 k) [
  | inl some ↦ elim (cases_lt (length (view t)) k) [
    | inl past ↦ (removes.0 (λ names. omega (arith, names.1, past))).1
    | inr inside ↦ absurd (false≢true (ap is_ok (removes.1 (omega arith, inside)).0))
  ]
  | inr zero ↦ (removes.0 (λ names. omega (arith, names.0))).1
]

-- an alteration that is refused leaves the table as it was
pub alters_refused : (t after : Table) (k : ℕ) (n : Numbers) (e : Fault) → Alters t k n (Err e) after → after ≡ t
alters_refused t after k n e alters = elim (cases_lt 0 k) [
  | inl some ↦ elim (cases_lt (length (view t)) k) [
    | inl past ↦ (alters.0 (λ names. omega (arith, names.1, past))).1
    | inr inside ↦ let makes = alters.1 (omega arith, inside) in unmade t after e makes.0 (λ row. put (view t) k row) makes.2
  ]
  | inr zero ↦ (alters.0 (λ names. omega (arith, names.0))).1
]

-- an edit that is refused
pub edit_refused : (call : Table → Result (Unit {0}) Fault → Table → Type 0) (s after : Study) (r : Result (Unit {0}) Fault) (e : Fault) → call s.table (Err e) after.table → r ≡ Err e → after ≡ s → Edits call s r after
edit_refused call s after r e called is same = subst (λ x. Edits call s x after) (sym is) (called, tt, same)

counted_prop : (st : State) (l p n : ℕ) → IsProp (Counted st l p n)
counted_prop st l p n = Prim.hlevel props

-- a study with the same table is the same
pub same_study : (s : Study) (t : Table) (counted : Counted s.state s.ledger_count s.pending_count s.steps) → t ≡ s.table → ◌≡◌ {A = Study} (record { table = t; state = s.state; ledger_count = s.ledger_count; pending_count = s.pending_count; steps = s.steps; counted = counted }) s
same_study s t counted same = λ i. record { table = same i; state = s.state; ledger_count = s.ledger_count; pending_count = s.pending_count; steps = s.steps; counted = counted_prop s.state s.ledger_count s.pending_count s.steps counted s.counted i }
