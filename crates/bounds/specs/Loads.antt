-- The load of the tasks above a task in a window, and the deadline analysis.
use Rattle.std.specs.Prelude.{◌≡◌, ℕ, zero, suc, ◌+◌, ◌-◌, ◌*◌, ◌/◌, ◌%◌, min, Bool, false, List, length, None, if◌then◌else◌}
use Rattle.table.specs.declared.row.Row.{Row}
use Rattle.table.specs.Places.{nth}
use Rattle.table.specs.Rows.{row}
use Rattle.bounds.specs.Questions.{Asked, Meaning, own, Sound, soundb, timely}

-- w: the most that a task runs in q, if it runs as early as it may: floor(q / T) × C + the lesser of C and q mod T
abbrev pub work : Row → ℕ → ℕ
work j q = q / j.period * j.wcet + min j.wcet (q % j.period)

-- the cap in a window l of a task i: l − C_i + 1
abbrev pub cap_of : Row → ℕ → ℕ
cap_of i l = l - i.wcet + 1

-- the carried load of a task j with estimate r in a window l of a task i: the lesser of w(l + r − C_j) and the cap
abbrev pub carried : Row → ℕ → Row → ℕ → ℕ
carried i l j r = min (work j (l + r - j.wcet)) (cap_of i l)

-- the plain load of a task j in a window l of a task i: the lesser of w(l) and the cap
abbrev pub plain : Row → ℕ → Row → ℕ
plain i l j = min (work j l) (cap_of i l)

-- f 1 + f 2 + .. + f n
unfoldable pub sum_to : (ℕ → ℕ) → ℕ → ℕ
sum_to f zero = 0
sum_to f (suc n) = sum_to f n + f (suc n)

-- the total of f over the tasks that are chosen, among the rows 1 to n
abbrev pub total_of : (ℕ → Bool) → (ℕ → ℕ) → ℕ → ℕ
total_of chosen f n = sum_to (λ k. if chosen k then f k else 0) n

-- the total of f over the tasks of a set, among the rows 1 to n
abbrev pub sum_over : List Bool → (ℕ → ℕ) → ℕ → ℕ
sum_over set f n = total_of (λ k. nth set k false) f n

-- the load that task k carries into the window D of the task asked about, with its deadline as estimate
abbrev pub deadline_part : Asked → ℕ → ℕ
deadline_part q k = carried (own q) (own q).deadline (row q.rows k) (row q.rows k).deadline

-- da's load: that of all the tasks above
abbrev pub deadline_load : Asked → ℕ
deadline_load q = sum_over q.above (deadline_part q) (length q.rows)

-- C + floor(load / m), late past D
abbrev pub deadline_answer : ℕ → Meaning
deadline_answer m q = timely (own q).deadline ((own q).wcet + deadline_load q / m)

-- da: that answer; an unsound question is late
abbrev pub da : ℕ → Meaning
da m q = if soundb q then deadline_answer m q else None

-- da's answer to a sound question is C + floor(load / m), late past D
abbrev pub DaMeaning : Type 0
DaMeaning = (m : ℕ) (q : Asked) → Sound q → da m q ≡ deadline_answer m q
