-- The load that da adds up is small, and its answer is by what was read of the rows.
use Rattle.std.proofs.Common.{◌≡◌, ℕ, ◌+◌, ◌*◌, ◌/◌, ◌≤◌, sym, ap, ◌∙◌, arith}
use Rattle.table.specs.declared.row.Row.{Row}
use Rattle.table.specs.Rows.{row}
use Rattle.bounds.specs.Questions.{Asked, own, Sound, timely}
use Rattle.bounds.specs.Loads.{carried, sum_over, deadline_part, deadline_load, da}
use Rattle.bounds.specs.DaLaws.{da_sound}
use Rattle.bounds.proofs.Summing.{over_le}

-- a load is at most its cap, which is at most the window
pub carried_le : (i : Row) (l : ℕ) (j : Row) (r : ℕ) → i.wcet ≤ l → carried i l j r ≤ l
carried_le i l j r h = omega (arith, i.ok)

-- the load of the tasks above among the first n rows
pub deadline_load_le : (q : Asked) (n : ℕ) → sum_over q.above (deadline_part q) n ≤ n * 1000000
deadline_load_le q n = over_le q.above _ 1000000 n (λ k. omega (arith, carried_le (own q) (own q).deadline (row q.rows k) (row q.rows k).deadline (omega (arith, (own q).ok)), (own q).ok))

-- the load of a row that was read, in the window of the deadline of the task asked about
pub deadline_part_lem : (q : Asked) (k : ℕ) (one : Row) (d e x : ℕ) → row q.rows k ≡ one → d ≡ (own q).deadline → e ≡ one.deadline → x ≡ carried (own q) d one e → x ≡ deadline_part q k
deadline_part_lem q k one d e x ko de ee is =
    is
    ∙ ap (λ n. carried (own q) n one e) de
    ∙ ap (carried (own q) (own q).deadline one) ee
    ∙ ap (λ (o : Row). carried (own q) (own q).deadline o o.deadline) (sym ko)

-- the answer by what was read of the rows
pub da_read : (m : ℕ) (q : Asked) (c d x n : ℕ) → Sound q → c ≡ (own q).wcet → d ≡ (own q).deadline → x ≡ deadline_load q → n ≡ m → timely d (c + x / n) ≡ da m q
da_read m q c d x n sound ce de xe ne =
    ap (λ k. timely k (c + x / n)) de
    ∙ ap (λ k. timely (own q).deadline (k + x / n)) ce
    ∙ ap (λ k. timely (own q).deadline ((own q).wcet + k / n)) xe
    ∙ ap (λ k. timely (own q).deadline ((own q).wcet + deadline_load q / k)) ne
    ∙ sym (da_sound m q sound)
