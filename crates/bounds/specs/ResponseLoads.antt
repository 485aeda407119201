-- The loads of the response-time analyses grow with the tasks above and with their estimates, so these keep the laws.
use Rattle.std.specs.Prelude.{ℕ, zero, suc, ◌+◌, ◌-◌, ◌≤◌, Bool, false, ◌&&◌, List, length, nat_lt}
use Rattle.std.proofs.Common.{inl, inr, arith}
use Rattle.std.proofs.lemmas.Bool.{cases_Bool, cond-true, cond-false, and_parts, and_from}
use Rattle.table.specs.declared.row.Row.{Row}
use Rattle.table.specs.Places.{nth}
use Rattle.table.specs.Rows.{row}
use Rattle.bounds.specs.declared.processors.Processors.{Processors}
use Rattle.bounds.specs.Questions.{Asked, own, In, Laws}
use Rattle.bounds.specs.Loads.{carried}
use Rattle.bounds.specs.Responses.{carried_loads, rta, greatest, plain_loads, extra, limited_load, lc}
use Rattle.bounds.specs.Leasts.{LoadGrows, fit_laws}
use Rattle.bounds.specs.Sums.{over_mono}
use Rattle.bounds.specs.Works.{work_mono}

carried_mono : (i : Row) (l : ℕ) (j : Row) (e f : ℕ) → e ≤ f → carried i l j e ≤ carried i l j f
carried_mono i l j e f h = omega (arith, work_mono j (l + e - j.wcet) (l + f - j.wcet) (omega arith))

carried_loads_mono : LoadGrows carried_loads
carried_loads_mono q u f sub le l =
    over_mono q.above u _ _ (length q.rows) sub (λ k low high y. carried_mono (own q) l (row q.rows k) (nth q.estimates k 0) (nth f k 0) (le k (low, high) y))

greatest_mono : (s u : List Bool) (f g : ℕ → ℕ) (c n : ℕ) → ((k : ℕ) → In s k → In u k) → ((k : ℕ) → 1 ≤ k → k ≤ n → In s k → f k ≤ g k) → greatest s f c n ≤ greatest u g c n
unfolding greatest
greatest_mono s u f g c zero sub le = omega arith
greatest_mono s u f g c (suc n) sub le =
    let without = greatest_mono s u f g c n sub (λ k low high. le k low (omega arith)) in
    let with' = greatest_mono s u f g (c - 1) n sub (λ k low high. le k low (omega arith)) in
    let x = greatest s f (c - 1) n + f (suc n) in
    let y = greatest u g (c - 1) n + g (suc n) in
    elim (cases_Bool (nth s (suc n) false && nat_lt 0 c)) [
      | inl yes' ↦
          let parts = and_parts (nth s (suc n) false) _ yes' in
          omega (arith, without, with', cond-true _ x 0 yes', cond-true _ y 0 (and_from (nth u (suc n) false) _ (sub (suc n) parts.0) parts.1), le (suc n) (omega arith) (omega arith) parts.0)
      | inr no' ↦ omega (arith, without, cond-false _ x 0 no')
    ]

limited_load_mono : (c : ℕ) → LoadGrows (limited_load c)
limited_load_mono c q u f sub le l =
    let other : Asked = record q { above = u; estimates = f } in
    let plains : plain_loads q l ≤ plain_loads other l = over_mono q.above u _ _ (length q.rows) sub (λ k low high y. omega arith) in
    let extras = greatest_mono q.above u (extra q l) (extra other l) c (length q.rows) sub (λ k low high y. omega (arith, carried_mono (own q) l (row q.rows k) (nth q.estimates k 0) (nth f k 0) (le k (low, high) y))) in
    omega (arith, plains, extras)

pub rta_laws : (p : Processors) → Laws (rta p.count)
rta_laws p = fit_laws p.count (omega (arith, p.ok)) carried_loads carried_loads_mono

pub lc_laws : (p : Processors) → Laws (lc p.count)
lc_laws p = fit_laws p.count (omega (arith, p.ok)) (limited_load (p.count - 1)) (limited_load_mono (p.count - 1))
