-- A step's work, from what is due of the range that it takes.
use Rattle.std.proofs.Common.{◌≡◌, ℕ, ◌≤◌, ◌⊎◌, length, ap₂, subst, inl, inr, arith}
use Rattle.std.proofs.lemmas.Bool.{cases_lt}
use Rattle.bounds.specs.Questions.{Meaning}
use Rattle.orders.specs.declared.range.Range.{Range}
use Rattle.study.specs.declared.room.Room.{Room}
use Rattle.study.specs.declared.state.State.{State}
use Rattle.study.specs.declared.deed.Deed.{Deed}
use Rattle.study.specs.declared.deed.Deed.TheVariants.{End}
use Rattle.study.specs.Counts.{Counted}
use Rattle.study.specs.Moments.{Moment, rows_of}
use Rattle.study.specs.Pieces.{pieces}
use Rattle.study.specs.Deeds.{Due}
use Rattle.study.specs.Steps.{Runs, Left, Leaves, taken_of, pieces_of, left_by, Fits, CarriesOut, OneDeed, does, stops}

fits_or_not : (room : Room) (left : Left) → Fits room left ⊎ (¬ Fits room left)
fits_or_not room left = elim (cases_lt room.ledger left.ledger_count) [
  | inl past ↦ inr (λ fits. omega (arith, past, fits.0))
  | inr ledger ↦ elim (cases_lt room.pending left.pending_count) [
    | inl past ↦ inr (λ fits. omega (arith, past, fits.1))
    | inr pending ↦ inl (omega (arith, ledger), omega (arith, pending))
  ]
]

-- while a search is running, its lists have the slots that are counted
pub counted_fits : (room : Room) (before : Moment) → Runs room before → (before.study.ledger_count ≤ room.ledger) × (before.study.pending_count ≤ room.pending)
counted_fits room before runs =
    let s = before.study in
    let counted = subst (λ x. Counted x s.ledger_count s.pending_count s.steps) runs s.counted in
    (counted.0, counted.2)

-- the pieces of the range that was taken, for as many rows as there are
pub pieces_at : (before : Moment) (taken u : Range) (n : ℕ) → taken ≡ taken_of before → n ≡ length (rows_of before) → pieces taken u n ≡ pieces_of before u
pieces_at before taken u n is rows = ap₂ (λ r k. pieces r u k) is rows

module _ (meaning : Meaning) (room : Room) (before after : Moment) (some : 1 ≤ before.study.pending_count) (taken : Range) (is : taken ≡ taken_of before) where
  called : (deed : Deed) → Due meaning (rows_of before) taken deed → Due meaning (rows_of before) (taken_of before) deed
  called deed calls = subst (λ r. Due meaning (rows_of before) r deed) is calls

  pub stepped_end : Runs room before → (verdict : State) → Due meaning (rows_of before) taken (End verdict) → Leaves before (left_by room before (End verdict)) after → OneDeed meaning room before after
  stepped_end runs verdict calls leaves = record {
    deed = End verdict;
    done = does (End verdict) some (called (End verdict) calls) (counted_fits room before runs);
    leaves = leaves;
  }

  pub stepped_by : (deed : Deed) → Due meaning (rows_of before) taken deed → CarriesOut room before deed after → OneDeed meaning room before after
  stepped_by deed calls carried = elim (fits_or_not room (left_by room before deed)) [
    | inl fits ↦ record { deed = deed; done = does deed some (called deed calls) fits; leaves = carried.1 fits }
    | inr lacks ↦ record { deed = End _; done = stops deed some (called deed calls) lacks; leaves = carried.0 lacks }
  ]
