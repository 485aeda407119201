-- What a question is, when it is sound, and the laws that every test keeps.
use Rattle.std.specs.Prelude.{◌≡◌, ℕ, zero, suc, ◌≤◌, Bool, true, false, not, ◌&&◌, ◌↔◌, List, length, Some, None, Option, IsTrue, nat_le, if◌then◌else◌}
use Rattle.table.specs.declared.row.Row.{Row}
use Rattle.table.specs.Places.{nth}
use Rattle.table.specs.Rows.{row, view, Names}
use Rattle.bounds.specs.declared.question.Question.{Question}

-- task k is in a set of tasks
abbrev pub In : List Bool → ℕ → Type 0
In set k = nth set k false ≡ true

-- A question has the rows of a table, a task, the set above it, and an estimate for each row.
pub record Asked : Type 0 where
  pub rows : List Row
  pub task : ℕ
  pub above : List Bool
  pub estimates : List ℕ

-- the question of these parts
abbrev pub question : List Row → ℕ → List Bool → List ℕ → Asked
question rows task above estimates =
    record { rows = rows; task = task; above = above; estimates = estimates }

-- what a test means: the answer that it has for every question, a bound, or none where the task is
-- late
abbrev pub Meaning : Type 0
Meaning = Asked → Option ℕ

-- the row of the task asked about
abbrev pub own : Asked → Row
own q = row q.rows q.task

-- an estimate lies from its row's C to its D
abbrev pub Lies : Row → ℕ → Type 0
Lies r estimate = (r.wcet ≤ estimate) × (estimate ≤ r.deadline)

-- A question is sound if its task is in the table, the tasks above, of the 32 places that a set has,
-- are in the table without it, and each estimate lies from its row's C to its D.
pub record Sound (q : Asked) : Type 0 where
  pub few : length q.rows ≤ 32
  pub names : Names q.rows q.task
  pub inside : (k : ℕ) → k ≤ 32 → In q.above k → Names q.rows k
  pub apart : ¬ In q.above q.task
  pub lies : (k : ℕ) → Names q.rows k → Lies (row q.rows k) (nth q.estimates k 0)

-- a test holds of every number from 1 to n, computed
unfoldable pub all_to : (ℕ → Bool) → ℕ → Bool
all_to p zero = true
all_to p (suc n) = p (suc n) && all_to p n

-- whether an estimate lies so, computed
abbrev pub liesb : Row → ℕ → Bool
liesb r estimate = nat_le r.wcet estimate && nat_le estimate r.deadline

-- whether k is a row whose estimate lies from its C to its D, or no row and not above
abbrev pub sound_atb : Asked → ℕ → Bool
sound_atb q k =
    if nat_le k (length q.rows) then liesb (row q.rows k) (nth q.estimates k 0)
    else not (nth q.above k false)

-- whether a question is sound, computed: it says what Sound says (SoundComputed)
abbrev pub soundb : Asked → Bool
soundb q =
    nat_le (length q.rows) 32 && (nat_le 1 q.task && (nat_le q.task (length q.rows)
    && (not (nth q.above q.task false) && all_to (sound_atb q) 32)))

-- soundb computes true exactly if Sound holds
abbrev pub SoundComputed : Type 0
SoundComputed = (q : Asked) → IsTrue (soundb q) ↔ Sound q

-- the answer to an unsound question is late
abbrev pub LateIfUnsound : Meaning → Type 0
LateIfUnsound meaning = (q : Asked) → ¬ Sound q → meaning q ≡ None

-- a bound that is late past the deadline
abbrev pub timely : ℕ → ℕ → Option ℕ
timely deadline bound = if nat_le bound deadline then Some bound else None

-- the first answer is no greater than the second; late is greater than every number
abbrev pub NoMore : Option ℕ → Option ℕ → Type 0
NoMore None None = Unit {0}
NoMore None (Some y) = ⊥
NoMore (Some x) None = Unit {0}
NoMore (Some x) (Some y) = x ≤ y

-- The laws that a test's answers keep.
pub record Laws (meaning : Meaning) : Type 0 where
  -- the answer to an unsound question is late, and any bound lies from the task's C to its D
  pub bound : (q : Asked) (b : ℕ) → meaning q ≡ Some b → Sound q × Lies (own q) b
  -- only the estimates of the tasks above are read
  pub reads : (q : Asked) (estimates : List ℕ) →
      let other = record q { estimates = estimates } in
      Sound q → Sound other → ((k : ℕ) → In q.above k → nth q.estimates k 0 ≡ nth estimates k 0) →
      meaning q ≡ meaning other
  -- more tasks above never give a smaller answer
  pub more : (q : Asked) (above : List Bool) →
      let other = record q { above = above } in
      Sound q → Sound other → ((k : ℕ) → In q.above k → In above k) →
      NoMore (meaning q) (meaning other)
  -- greater estimates never give a smaller answer
  pub greater : (q : Asked) (estimates : List ℕ) →
      let other = record q { estimates = estimates } in
      Sound q → Sound other → ((k : ℕ) → Names q.rows k → nth q.estimates k 0 ≤ nth estimates k 0) →
      NoMore (meaning q) (meaning other)

-- a question as it is put to a test
abbrev pub asked : Question → Asked
asked q =
    record { rows = view q.table.now; task = q.task; above = q.above.now; estimates = q.estimates.now }
