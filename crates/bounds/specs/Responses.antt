-- The response-time analyses: the least window that is long enough for a task and the load of the tasks above it.
use Rattle.std.specs.Prelude.{◌≡◌, ℕ, zero, suc, ◌+◌, ◌-◌, ◌/◌, ◌<◌, ◌≤◌, max, Bool, true, false, ◌&&◌, List, length, Some, None, Option, MatchOption, nat_le, nat_lt, if◌then◌else◌}
use Rattle.table.specs.declared.row.Row.{Row}
use Rattle.table.specs.Places.{nth}
use Rattle.table.specs.Rows.{row}
use Rattle.bounds.specs.Questions.{Asked, Meaning, own, Sound, In, soundb}
use Rattle.bounds.specs.Loads.{carried, plain, sum_over, total_of}

-- the least number from k on, among n, of which p holds
unfoldable pub least_from : (ℕ → Bool) → ℕ → ℕ → Option ℕ
least_from p k zero = None
least_from p k (suc n) = if p k then Some k else least_from p (k + 1) n

-- the least window l from C to D of a task with C + floor(S(l) / m) ≤ l, where S is the load in each
-- window; none if there is none
abbrev pub least_fit : ℕ → Row → (ℕ → ℕ) → Option ℕ
least_fit m i load =
    least_from (λ l. nat_le (i.wcet + load l / m) l) i.wcet (i.deadline - i.wcet + 1)

-- what it is to be that window: it fits and lies from C to D, and none before it fits; or none from C
-- to D fits
abbrev pub Least : ℕ → Row → (ℕ → ℕ) → Option ℕ → Type 0
Least m i load r =
    MatchOption r ((l : ℕ) → i.wcet ≤ l → l ≤ i.deadline → ¬ (i.wcet + load l / m ≤ l))
    (λ b.
    (i.wcet ≤ b) × (b ≤ i.deadline) × (i.wcet + load b / m ≤ b)
    × ((l : ℕ) → i.wcet ≤ l → l < b → ¬ (i.wcet + load l / m ≤ l)))

-- the answer by a load: the least window that fits it; an unsound question is late
abbrev pub answer_by : ℕ → (Asked → ℕ → ℕ) → Meaning
answer_by m load q = if soundb q then least_fit m (own q) (load q) else None

-- rta's load in a window: the carried loads of the tasks above with their estimates
abbrev pub carried_loads : Asked → ℕ → ℕ
carried_loads q l =
    sum_over q.above (λ k. carried (own q) l (row q.rows k) (nth q.estimates k 0)) (length q.rows)

-- rta: the answer by the carried loads
abbrev pub rta : ℕ → Meaning
rta m = answer_by m carried_loads

-- rta's answer to a sound question is the least window that fits the carried loads
abbrev pub RtaMeaning : Type 0
RtaMeaning = (m : ℕ) (q : Asked) → Sound q → Least m (own q) (carried_loads q) (rta m q)

-- a choice of at most c tasks of a set, among the rows 1 to n
pub record Choice (set : List Bool) (c n : ℕ) (chosen : ℕ → Bool) : Type 0 where
  pub inside : (k : ℕ) → chosen k ≡ true → In set k
  pub few : total_of chosen (λ _. 1) n ≤ c

-- x is the greatest total of f over any choice of at most c tasks of a set: some choice reaches it,
-- and none exceeds it
pub record Greatest (set : List Bool) (f : ℕ → ℕ) (c n x : ℕ) : Type 0 where
  pub reached : (chosen : ℕ → Bool) × Choice set c n chosen × (total_of chosen f n ≡ x)
  pub exceeded : (chosen : ℕ → Bool) → Choice set c n chosen → total_of chosen f n ≤ x

-- that greatest total, computed: with or without the last row
unfoldable pub greatest : List Bool → (ℕ → ℕ) → ℕ → ℕ → ℕ
greatest set f c zero = 0
greatest set f c (suc n) =
    max (greatest set f c n)
    (if nth set (suc n) false && nat_lt 0 c then greatest set f (c - 1) n + f (suc n) else 0)

-- the plain loads of the tasks above in a window
abbrev pub plain_loads : Asked → ℕ → ℕ
plain_loads q l = sum_over q.above (λ k. plain (own q) l (row q.rows k)) (length q.rows)

-- what task k adds to its plain load in a window if it carries load in
abbrev pub extra : Asked → ℕ → ℕ → ℕ
extra q l k =
    carried (own q) l (row q.rows k) (nth q.estimates k 0) - plain (own q) l (row q.rows k)

-- lc's load in a window: the plain loads plus the greatest total of what at most c tasks add by
-- carrying load in
abbrev pub limited_load : ℕ → Asked → ℕ → ℕ
limited_load c q l = plain_loads q l + greatest q.above (extra q l) c (length q.rows)

-- lc: the answer by the load of which at most m − 1 tasks carry in
abbrev pub lc : ℕ → Meaning
lc m = answer_by m (limited_load (m - 1))

-- lc's answer to a sound question is the least window that fits the plain loads plus the greatest
-- total of what a choice of at most m − 1 tasks above adds
abbrev pub LcMeaning : Type 0
LcMeaning =
    (m : ℕ) (q : Asked) → Sound q →
    (most : ℕ → ℕ)
    × ((l : ℕ) → Greatest q.above (extra q l) (m - 1) (length q.rows) (most l))
    × Least m (own q) (λ l. plain_loads q l + most l) (lc m q)
