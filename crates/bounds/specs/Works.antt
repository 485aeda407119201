-- Work never falls as its window grows, and da's load never falls as the set above grows.
use Rattle.std.specs.Prelude.{◌≡◌, ℕ, ◌+◌, ◌*◌, ◌/◌, ◌<◌, ◌≤◌, Bool, List, length}
use Rattle.std.proofs.Common.{ap, inl, inr, mul-le-mul_right, div-mul-le_self, add-mul, one-mul, arith}
use Rattle.std.proofs.lemmas.Nat.{div-add-mod', le-div}
use Rattle.std.proofs.lemmas.Bool.{cases_lt}
use Rattle.table.specs.declared.row.Row.{Row}
use Rattle.bounds.specs.Questions.{Asked, In}
use Rattle.bounds.specs.Loads.{work, deadline_load}
use Rattle.bounds.specs.Sums.{over_mono}

pub div_mono : (a b d : ℕ) → 0 < d → a ≤ b → a / d ≤ b / d
div_mono a b d pos h = le-div (a / d) b d pos (omega (arith, div-mul-le_self a d))

pub work_mono : (j : Row) (a b : ℕ) → a ≤ b → work j a ≤ work j b
work_mono j a b h =
    let pos : 0 < j.period = omega (arith, j.ok) in
    let c = j.wcet in
    let x = a / j.period in
    let y = b / j.period in
    let le : x ≤ y = div_mono a b j.period pos h in
    elim (cases_lt x y) [
      | inl l ↦
          let step : (x + 1) * c ≤ y * c = mul-le-mul_right c (omega arith) in
          omega (arith, step, add-mul x 1 c, one-mul c)
      | inr m ↦
          let same : x ≡ y = omega arith in
          let products : x * c ≡ y * c = ap (λ n. n * c) same in
          let wholes : x * j.period ≡ y * j.period = ap (λ n. n * j.period) same in
          omega (arith, products, wholes, div-add-mod' a j.period, div-add-mod' b j.period)
    ]

pub deadline_load_mono : (q : Asked) (above : List Bool) → ((k : ℕ) → In q.above k → In above k) → deadline_load q ≤ deadline_load (record q { above = above })
deadline_load_mono q above sub = over_mono q.above above _ _ (length q.rows) sub (λ k low high m. omega arith)
