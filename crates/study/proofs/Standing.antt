-- What a verdict rests on: the order that is found passes, and ranges that cover every list of estimates leave no order that holds.
use Rattle.std.proofs.Common.{◌≡◌, ℕ, ◌+◌, ◌-◌, ◌≤◌, ◌<◌, List, length, take, Some, sym, ap, subst, ◌∙◌, inl, inr, arith}
use Rattle.std.proofs.lemmas.Bool.{cases_lt}
use Rattle.std.proofs.lemmas.List.{ext_get_or, length-take, get_or-take, get_or_past}
use Rattle.table.specs.declared.row.Row.{Row}
use Rattle.table.specs.Places.{nth}
use Rattle.table.proofs.Placed.{nth_at, nth_next}
use Rattle.bounds.specs.Questions.{Meaning, Laws}
use Rattle.bounds.specs.Orders.{Order, Estimates, HasLate, padded}
use Rattle.bounds.proofs.Padded.{padded_length, padded_read, padded_at}
use Rattle.orders.specs.declared.range.Range.{Range}
use Rattle.orders.specs.Ranges.{as_range, Within, Passes}
use Rattle.orders.proofs.Audsley.{finds_if_open}
use Rattle.orders.proofs.Narrows.{narrowing}
use Rattle.orders.proofs.Related.{related, own_estimates}
use Rattle.study.specs.declared.finding.Finding.{Finding}
use Rattle.study.specs.Slots.{slot}
use Rattle.study.specs.Deeds.{lows_of, Finds}
use Rattle.study.specs.Histories.{Shown}
use Rattle.study.specs.Steps.{ZeroPast, IsSlot}
use Rattle.study.proofs.Overs.{Full}
use Rattle.study.proofs.Turned.{lows_within}
use Rattle.study.proofs.Sought.{Holding, AllBarred}

-- the first n of a list, read at one of them
pub nth_taken : (n : ℕ) (xs : List ℕ) (k : ℕ) → 1 ≤ k → k ≤ n → nth (take n xs) k 0 ≡ nth xs k 0
nth_taken n xs k low high = nth_at (take n xs) k 0 low ∙ get_or-take n xs (k - 1) 0 (omega arith) ∙ sym (nth_at xs k 0 low)

-- lows with 0 past the last row are the first n of them, filled up
lows_padded : (n : ℕ) (xs : List ℕ) → n ≤ 32 → length xs ≡ 32 → ZeroPast n xs → padded (take n xs) ≡ xs
lows_padded n xs few long past = ext_get_or 0 _ _ (padded_length (take n xs) ∙ sym long) (λ j l.
    let inside : j < 32 = omega (arith, l, padded_length (take n xs)) in
    padded_read (take n xs) j inside ∙ elim (cases_lt j n) [
      | inl before ↦ get_or-take n xs j 0 before
      | inr after ↦ get_or_past (take n xs) j 0 (omega (arith, length-take n xs)) ∙ sym (past (j + 1) (omega arith)) ∙ nth_next xs j 0
    ])

-- they are estimates of the rows
lows_estimates : (rows : List Row) (r : Range) → length rows ≤ 32 → Full r → Within rows r → Estimates rows (take (length rows) r.lows)
lows_estimates rows r few full within = record {
  size = length-take (length rows) r.lows ∙ omega (arith, full.lows);
  within = λ k names.
      let same = nth_taken (length rows) r.lows k names.0 names.1 in
      let at = within k names in
      (omega (arith, same, at.0), omega (arith, same, at.1, at.2));
}

-- estimates as a range of the rows
estimates_within : (rows : List Row) (es : List ℕ) → length rows ≤ 32 → Estimates rows es → Within rows (as_range es)
estimates_within rows es few est k names =
    let same = padded_at es k names.0 (omega (arith, names.1)) in
    let at = est.within k names in
    (omega (arith, same, at.0), omega arith, omega (arith, same, at.1))

module _ {meaning : Meaning} (laws : Laws meaning) (rows : List Row) (few : length rows ≤ 32) where
  -- the order that is found for the list of a range's lows lists every row once, holds and passes them; they are estimates of the rows
  pub finding_shows : (taken : Range) (f : Finding) → Full taken → IsSlot rows taken → Finds meaning rows taken f → Shown meaning rows f
  finding_shows taken f full slot finds =
      let order = take (length rows) f.order in
      let lows = take (length rows) taken.lows in
      let admits = finds_if_open laws rows (lows_of taken) few (Some f.order) finds.0 (lows_within rows taken slot.0) in
      let is : lows_of taken ≡ as_range lows =
      ap (λ (xs : List ℕ). let r : Range = record { lows = xs; highs = xs } in r) (sym (lows_padded (length rows) taken.lows few full.lows slot.1)) in
      let passes : Passes meaning rows (as_range lows) order = subst (λ r. Passes meaning rows r order) is admits.1 in
      let holds = (related laws rows few).below order lows admits.0 (lows_estimates rows taken few full slot.0) passes in
      let shown = subst (λ es. Estimates rows (take (length rows) es) × Passes meaning rows (as_range (take (length rows) es)) order) (sym finds.1) (lows_estimates rows taken few full slot.0, passes) in
      (admits.0, (holds.0, holds.1), shown.0, shown.1)

  -- where barred ranges hold every list of estimates, every order has a late task
  pub every_late : (n : ℕ) (l : List ℕ) → AllBarred meaning rows n l → ((es : List ℕ) → Estimates rows es → Holding rows l n es) → (order : List ℕ) → Order rows order → HasLate meaning rows order
  every_late n l barred cover order o = elim ((related laws rows few).either order o).0 [
    | inl holds ↦
        let own = own_estimates laws rows few order o holds in
        let at = cover own.0 own.1 in
        let bar = barred at.0 at.1 at.2 in
        absurd (narrowing laws rows few (slot l at.0) (as_range own.0) bar.within (estimates_within rows own.0 few own.1) at.3 bar.closed order (o, own.2))
    | inr late ↦ late
  ]
