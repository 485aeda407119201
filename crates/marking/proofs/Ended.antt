-- A search with 96 slots in each list ends with a verdict.
use Rattle.std.proofs.Common.{◌≡◌, ℕ, ◌/◌, ◌≤◌, List, length, Result, Ok, IfOk, refl, ap, subst, arith}
use Rattle.table.specs.declared.fault.Fault.{Fault}
use Rattle.table.specs.Rows.{view}
use Rattle.bounds.specs.declared.overhead.Overhead.{Overhead}
use Rattle.bounds.specs.declared.named.NamedTest.{NamedTest}
use Rattle.study.specs.declared.study.Study.{Study}
use Rattle.study.specs.declared.room.Room.{Room}
use Rattle.study.specs.Moments.{moment}
use Rattle.study.specs.Begins.{HasRoom}
use Rattle.study.specs.Histories.{Tally, History, Means}
use Rattle.study.specs.Searches.{ToVerdict, Searches, SearchPromise}
use Rattle.marking.specs.Reports.{board_answer, HasHistory, SearchedTo, slots}

slots_are : (room : Room) (l p : List ℕ) (s : Study) → length l ≡ 6144 → length p ≡ 6144 → HasRoom room (moment s l p) → room ≡ slots
slots_are room l p s ll pp has =
    let a : room.ledger ≡ 96 = omega (arith, ll, has.0.2) in
    let b : room.pending ≡ 96 = omega (arith, pp, has.1.2) in
    λ i. record { ledger = a i; pending = b i }

pub has_slots : (l p : List ℕ) (s : Study) → length l ≡ 6144 → length p ≡ 6144 → HasRoom slots (moment s l p)
has_slots l p s ll pp = ((omega arith, omega arith, ll), (omega arith, omega arith, pp))

module _ (t : Overhead NamedTest) (s after : Study) (l p l' p' : List ℕ) (r : Result (Unit {0}) Fault) (ll : length l ≡ 6144) (pp : length p ≡ 6144) (searches : Searches (board_answer t) (moment s l p) r (moment after l' p')) (row : 1 ≤ length (view s.table)) where
  pub search_ended : IfOk r (λ _. Means (board_answer t) (moment after l' p')) → ((x y : List ℕ) (c : Tally) → History (board_answer t) (moment s x y) c → SearchPromise (board_answer t) (moment s l p) r (moment after l' p') x y c) → HasHistory s → (r ≡ Ok tt) × SearchedTo t s after
  search_ended means promise history =
      let has = has_slots l p s ll pp in
      let on = (searches.1 row).1 (slots, has) in
      let accepted = on.2 in
      let h = history t l p in
      let kept = subst (λ x. SearchPromise (board_answer t) (moment s l p) x (moment after l' p') l p h.0) accepted (promise l p h.0 h.1) in (
        accepted,
        record {
          first = moment s l p;
          last = moment after l' p';
          begins = refl;
          ends = refl;
          room = has;
          searched = subst (λ room. ToVerdict (board_answer t) room (moment s l p) (moment after l' p')) (slots_are on.0 l p s ll pp on.1) on.3;
          means = subst (λ x. IfOk x (λ _. Means (board_answer t) (moment after l' p'))) accepted means;
          few = omega (arith, kept.0.bounded, ap (λ n. n / 64) ll);
        },
      )
