-- Lent lists: 64 numbers to a slot, the lows of 32 rows and then their highs.
use Rattle.std.specs.Prelude.{◌≡◌, ℕ, ◌+◌, ◌-◌, ◌*◌, ◌≤◌, List, ◌++◌, length, take, drop}
use Rattle.orders.specs.declared.range.Range.{Range}

-- a list has n whole slots and nothing over, from 1 to 4,096 of them
abbrev pub HasSlots : List ℕ → ℕ → Type 0
HasSlots list n = (1 ≤ n) × (n ≤ 4096) × (length list ≡ 64 * n)

-- the list with these numbers in place of as many of its own, the first at a place counted from 0
abbrev pub written_over : List ℕ → ℕ → List ℕ → List ℕ
written_over list at part = take at list ++ (part ++ drop (at + length part) list)

-- the list with a range in slot k, counted from 1, and every other number as it stood
abbrev pub put_slot : List ℕ → ℕ → Range → List ℕ
put_slot list k r = written_over list (64 * (k - 1)) (r.lows ++ r.highs)

-- the range in slot k
abbrev pub slot : List ℕ → ℕ → Range
slot list k = record {
  lows = take 32 (drop (64 * (k - 1)) list);
  highs = take 32 (drop (64 * (k - 1) + 32) list);
}
