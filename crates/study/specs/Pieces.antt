-- The pieces that replace a taken range, once the list of its lows is grown to a range U.
use Rattle.std.specs.Prelude.{ℕ, zero, suc, ◌+◌, min, nat_lt, if◌then◌else◌, List, [], ◌∷◌, ◌++◌}
use Rattle.table.specs.Places.{put}
use Rattle.orders.specs.declared.range.Range.{Range}
use Rattle.orders.specs.Ranges.{high}
use Rattle.study.specs.Slots.{put_slot}

-- the taken highs, but for the first k rows the lesser of the highs of both
unfoldable pub cut : Range → Range → ℕ → List ℕ
cut taken u zero = taken.highs
cut taken u (suc k) = put (cut taken u k) (suc k) (min (high u (suc k)) (high taken (suc k)))

-- the piece of row k: rows before it end at the lesser of both highs, it starts at its U-high + 1,
-- and all else is as taken
abbrev pub piece : Range → Range → ℕ → Range
piece taken u (suc k) =
    record { lows = put taken.lows (suc k) (high u (suc k) + 1); highs = cut taken u k }
piece taken u zero = taken

-- the pieces of the first k rows, in number order: one for each row whose U-high is below its taken
-- high
unfoldable pub pieces : Range → Range → ℕ → List Range
pieces taken u zero = []
pieces taken u (suc k) =
    if nat_lt (high u (suc k)) (high taken (suc k))
    then pieces taken u k ++ piece taken u (suc k) ∷ []
    else pieces taken u k

-- the list with these ranges in the slots from k on
unfoldable pub put_slots : List ℕ → ℕ → List Range → List ℕ
put_slots list k [] = list
put_slots list k (r ∷ rs) = put_slots (put_slot list k r) (k + 1) rs
