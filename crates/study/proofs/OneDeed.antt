-- One deed is due of a range.
use Rattle.std.proofs.Common.{◌≡◌, ℕ, ◌≤◌, List, length, take, sym, refl, ap, subst, ◌∙◌, arith}
use Rattle.std.proofs.lemmas.Option.{same_Some}
use Rattle.table.specs.declared.row.Row.{Row}
use Rattle.table.specs.Places.{nth}
use Rattle.bounds.specs.Questions.{Meaning}
use Rattle.orders.specs.declared.range.Range.{Range}
use Rattle.orders.specs.Ranges.{Within, Open, Closed}
use Rattle.orders.proofs.OneGrowth.{one_growth}
use Rattle.study.specs.declared.room.Room.{Room}
use Rattle.study.specs.declared.finding.Finding.{Finding}
use Rattle.study.specs.declared.state.State.TheVariants as state
use Rattle.study.specs.declared.deed.Deed.{Deed}
use Rattle.study.specs.declared.deed.Deed.TheVariants.{End, Keep, Split}
use Rattle.study.specs.Deeds.{lows_of, Finds, Due}
use Rattle.study.specs.Moments.{Moment, rows_of}
use Rattle.study.specs.Steps.{taken_of, left_by, Fits, Does, none, does, stops}
use Rattle.study.proofs.Standing.{nth_taken}
use Rattle.study.proofs.Turned.{lows_within}

-- two findings are alike on n rows: the same order of them, and the same estimates
pub record SameFinding (n : ℕ) (f g : Finding) : Type 0 where
  pub order : (k : ℕ) → 1 ≤ k → k ≤ n → nth f.order k 0 ≡ nth g.order k 0
  pub estimates : f.estimates ≡ g.estimates

-- two deeds are alike on n rows: the same, or the same but for places of no row
pub data SameDeed (n : ℕ) : Deed → Deed → Type 0 where
  same_deed : (deed : Deed) → SameDeed n deed deed
  other_places : (f g : Finding) → SameFinding n f g → SameDeed n (End (state.Found f)) (End (state.Found g))

-- whether a deed lets the search go on
abbrev pub goes_on : Deed → ℕ
goes_on (End verdict) = 0
goes_on (Keep grown) = 1
goes_on (Split u) = 1

pub same_on : (n : ℕ) (d e : Deed) → SameDeed n d e → 1 ≤ goes_on e → d ≡ e
same_on n d e (same_deed x) on = refl
same_on n d e (other_places f g both) on = absurd (omega (arith, on))

module _ (meaning : Meaning) (rows : List Row) (taken : Range) (within : Within rows taken) where
  clash : (r : Range) → Closed meaning rows r → Open meaning rows r → ⊥
  clash r closed (order, admits) = closed order admits

  one_finding : (f g : Finding) → Finds meaning rows taken f → Finds meaning rows taken g → SameFinding (length rows) f g
  one_finding f g a b =
      let lies = lows_within rows taken within in
      let is : take (length rows) f.order ≡ take (length rows) g.order = same_Some _ _ (sym (a.0.1 lies).0 ∙ (b.0.1 lies).0) in
      record {
        order = λ k low high. sym (nth_taken (length rows) f.order k low high) ∙ ap (λ xs. nth xs k 0) is ∙ nth_taken (length rows) g.order k low high;
        estimates = a.1 ∙ sym b.1;
      }

  pub one_deed : (d e : Deed) → Due meaning rows taken d → Due meaning rows taken e → SameDeed (length rows) d e
  one_deed (End s) (End u) a b =
      let f = a.2.0 in
      let g = b.2.0 in
      subst (λ x. SameDeed (length rows) (End x) (End u)) (sym a.2.1)
      (subst (λ x. SameDeed (length rows) (End (state.Found f)) (End x)) (sym b.2.1) (other_places f g (one_finding f g a.2.2 b.2.2)))
  one_deed (End s) (Keep q) a b = absurd (clash taken b.0 a.0)
  one_deed (End s) (Split v) a b = absurd (clash (lows_of taken) b.1 a.1)
  one_deed (Keep r) (End u) a b = absurd (clash taken a.0 b.0)
  one_deed (Keep r) (Keep q) a b = subst (λ x. SameDeed (length rows) (Keep r) (Keep x)) (one_growth meaning rows taken a.1 b.1) (same_deed (Keep r))
  one_deed (Keep r) (Split v) a b = absurd (clash taken a.0 b.0)
  one_deed (Split u) (End s) a b = absurd (clash (lows_of taken) a.1 b.1)
  one_deed (Split u) (Keep q) a b = absurd (clash taken b.0 a.0)
  one_deed (Split u) (Split v) a b = subst (λ x. SameDeed (length rows) (Split u) (Split x)) (one_growth meaning rows (lows_of taken) a.2 b.2) (same_deed (Split u))

module _ (meaning : Meaning) (room : Room) (before : Moment) (within : Within (rows_of before) (taken_of before)) (some : 1 ≤ before.study.pending_count) where
  fits_too : (d e : Deed) → SameDeed (length (rows_of before)) d e → Fits room (left_by room before e) → Fits room (left_by room before d)
  fits_too d e (same_deed x) fits = fits
  fits_too d e (other_places f g both) fits = fits

  -- what is due of the last pending range is done, where both lists have the slots
  pub called_done : (d e : Deed) → Due meaning (rows_of before) (taken_of before) e → Fits room (left_by room before e) → Does meaning room before d → SameDeed (length (rows_of before)) d e
  called_done d e calls fits (none nothing) = absurd (omega (arith, nothing, some))
  called_done d e calls fits (does x some' calls' fits') = one_deed meaning (rows_of before) (taken_of before) within x e calls' calls
  called_done d e calls fits (stops x some' calls' lacks) = absurd (lacks (fits_too x e (one_deed meaning (rows_of before) (taken_of before) within x e calls' calls) fits))
