-- The climb to the least window that fits: what its parts give. How the code gets there; the tests are pinned in Responses.
use Rattle.std.specs.Prelude.{◌≡◌, ℕ, ◌+◌, ◌-◌, ◌*◌, ◌<◌, ◌≤◌, min, Bool, false, ltb, List, Some, None, Option, MatchOption, nat_lt, slice_index, slice_index_or, if◌then◌else◌}
use Rattle.table.specs.declared.row.Row.{Row}
use Rattle.table.specs.Places.{nth}
use Rattle.table.specs.Rows.{row}
use Rattle.bounds.specs.declared.tally.Tally.{Tally}
use Rattle.bounds.specs.Questions.{Asked, Meaning, In}
use Rattle.bounds.specs.Loads.{work, cap_of, sum_to, total_of, sum_over}
use Rattle.bounds.specs.Responses.{answer_by, carried_loads, limited_load}

-- the load in each window: at most so many tasks carry load in, or all do
abbrev pub loads : Option ℕ → Asked → ℕ → ℕ
loads None = carried_loads
loads (Some c) = limited_load c

-- the answer of a test that climbs
abbrev pub climbs : ℕ → Option ℕ → Meaning
climbs m limit = answer_by m (loads limit)

-- a list has f of each number from 1 to 32 in its place
abbrev pub Lists : (ℕ → ℕ) → List ℕ → Type 0
Lists f xs = (k : ℕ) → 1 ≤ k → k ≤ 32 → nth xs k 0 ≡ f k

-- a list has 0 in its places past the first n of 32
abbrev pub ZeroPast : ℕ → List ℕ → Type 0
ZeroPast n xs = (k : ℕ) → n < k → k ≤ 32 → nth xs k 0 ≡ 0

-- the work of task k in a window, before the cap, with its estimate if it carries load in; 0 if it is
-- not above
abbrev pub work_at : Asked → ℕ → Bool → ℕ → ℕ
work_at q l carries k =
    if nth q.above k false
    then (if carries then work (row q.rows k) (l + nth q.estimates k 0 - (row q.rows k).wcet)
    else work (row q.rows k) l)
    else 0

-- the loads of a list in all, each held to a cap
abbrev pub capped_total : List ℕ → ℕ → ℕ → ℕ
capped_total uncapped n y = sum_to (λ k. min (nth uncapped k 0) y) n

-- at most c of 32 places are chosen, each with a number above 0, and no other such choice has a
-- greater total
pub record Picked (numbers : List ℕ) (c : ℕ) (chosen : List Bool) : Type 0 where
  pub positive : (k : ℕ) → In chosen k → (1 ≤ k) × (k ≤ 32) × (0 < nth numbers k 0)
  pub few : sum_over chosen (λ _. 1) 32 ≤ c
  pub best :
      (other : ℕ → Bool) → total_of other (λ _. 1) 32 ≤ c
      → total_of other (λ k. nth numbers k 0) 32 ≤ sum_over chosen (λ k. nth numbers k 0) 32

-- the place, from 0, of the greatest number among those not chosen; none if these are all 0
abbrev pub GreatestLeft : List ℕ → List Bool → Option ℕ → Type 0
GreatestLeft numbers chosen best =
    MatchOption best
    ((j : ℕ) → j < 32 → slice_index_or chosen j false ≡ false → slice_index numbers j ≡ 0)
    (λ p.
    (p < 32) × (slice_index_or chosen p false ≡ false) × (0 < slice_index numbers p)
    × ((j : ℕ) → j < 32 → slice_index_or chosen j false ≡ false
    → slice_index numbers j ≤ slice_index numbers p))

-- loads before the cap, which in a window l make up its load, and in any longer window no more than
-- its load
pub record Uncapped (load : ℕ → ℕ) (i : Row) (l : ℕ) (uncapped : List ℕ) : Type 0 where
  pub here : capped_total uncapped 32 (cap_of i l) ≡ load l
  pub later : (l' : ℕ) → l ≤ l' → capped_total uncapped 32 (cap_of i l') ≤ load l'

-- the load never falls as the window grows
abbrev pub NeverFalls : (ℕ → ℕ) → Type 0
NeverFalls load = (l l' : ℕ) → l ≤ l' → load l ≤ load l'

-- none of the first n loads that are above y is below b
abbrev pub NoneBelow : List ℕ → ℕ → ℕ → ℕ → Type 0
NoneBelow uncapped n y b =
    (k : ℕ) → 1 ≤ k → k ≤ n → y < nth uncapped k 0 → b ≤ nth uncapped k 0

-- the tally of the first n loads of a list at a cap y
pub record Tallied (uncapped : List ℕ) (n y : ℕ) (t : Tally) : Type 0 where
  pub sum : t.sum ≡ capped_total uncapped n y
  pub over : t.over ≡ total_of (λ k. ltb y (nth uncapped k 0)) (λ _. 1) n
  pub least : NoneBelow uncapped n y t.least
  pub rest : t.rest ≡ sum_to (λ k. if nat_lt y (nth uncapped k 0) then 0 else nth uncapped k 0) n

-- no cap from y on and below z can fit: at each, the loads make up at least m times the cap
abbrev pub NoneFit : List ℕ → ℕ → ℕ → ℕ → Type 0
NoneFit uncapped m y z = (x : ℕ) → y ≤ x → x < z → m * x ≤ capped_total uncapped 32 x

-- a tally of 32 loads at a cap of at most 1,000,000
abbrev pub Limited : Tally → Type 0
Limited t = (t.sum ≤ 32000000) × (t.least ≤ 2000000) × (t.rest ≤ 32000000)
