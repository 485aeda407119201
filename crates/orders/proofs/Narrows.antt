-- Narrowing keeps a range closed.
use Rattle.std.proofs.Common.{ℕ, ◌<◌, ◌≤◌, List, length, Some, arith}
use Rattle.std.proofs.lemmas.Bool.{both_ways}
use Rattle.table.specs.declared.row.Row.{Row}
use Rattle.table.specs.Places.{nth}
use Rattle.table.specs.Rows.{row, Names}
use Rattle.bounds.specs.Questions.{Meaning, question, Sound, Laws, Lies}
use Rattle.bounds.specs.Orders.{task_at, Order, first}
use Rattle.bounds.proofs.Comparing.{no_more_join}
use Rattle.orders.specs.declared.range.Range.{Range}
use Rattle.orders.specs.Ranges.{low, high, Within, Contains, Admits, Closed}
use Rattle.orders.proofs.Sets.{first_in, not_first}

-- a question about a task of an order is sound, if the estimates are
pub sound_down : (rows : List Row) → length rows ≤ 32 → (order : List ℕ) → Order rows order → (e : List ℕ) → ((k : ℕ) → Names rows k → Lies (row rows k) (nth e k 0)) → (p : ℕ) → p < length rows → Sound (question rows (task_at order p) (first order p) e)
sound_down rows few order o e within p l = record {
  few = few;
  names = o.each p l;
  inside = λ k h y. let was = first_in order p k y in let named = o.each was.0 (omega (arith, was.1)) in (omega (arith, named.0, was.2), omega (arith, named.1, was.2));
  apart = both_ways _ (not_first rows few order o p p (omega arith) l);
  lies = within;
}

module _ {meaning : Meaning} (laws : Laws meaning) (rows : List Row) (few : length rows ≤ 32) where
  lows_lie : (r : Range) → Within rows r → (k : ℕ) → Names rows k → Lies (row rows k) (low r k)
  lows_lie r h k names = let w = h k names in (w.0, omega (arith, w.1, w.2))

  pub widening : (w r : Range) → Within rows w → Within rows r → Contains rows w r → (order : List ℕ) → Admits meaning rows r order → Admits meaning rows w order
  widening w r hw hr c order (o, passes) = (
    o,
    λ p l.
        let m : p < length rows = omega (arith, o.size) in
        let less = laws.greater (question rows (task_at order p) (first order p) w.lows) r.lows (sound_down rows few order o w.lows (lows_lie w hw) p m) (sound_down rows few order o r.lows (lows_lie r hr) p m) (λ k names. (c k names).0) in
        let a = meaning (question rows (task_at order p) (first order p) w.lows) in
        let b = meaning (question rows (task_at order p) (first order p) r.lows) in
        no_more_join a b (Some (high w (task_at order p))) less (no_more_join b (Some (high r (task_at order p))) (Some (high w (task_at order p))) (passes p l) (c (task_at order p) (o.each p m)).1),
  )

  pub narrowing : (w r : Range) → Within rows w → Within rows r → Contains rows w r → Closed meaning rows w → Closed meaning rows r
  narrowing w r hw hr c closed order admits = closed order (widening w r hw hr c order admits)
