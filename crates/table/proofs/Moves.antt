-- What a table's rows are once the part from a place on was turned by one, and the last row left out.
use Rattle.std.proofs.Common.{◌≡◌, ℕ, ◌+◌, ◌-◌, ◌<◌, ◌≤◌, List, length, get_or, take, drop, arith, rules}
use borrow.Rule.Slice.PartMut.{put_mid}
use Rattle.std.proofs.lemmas.List.{same_lists, places}
use Rattle.std.specs.List.{remove}

pub turned : {X : Type 0} (k n : ℕ) (xs ys : List X) → k < n → n ≤ length xs → length ys ≡ n - k → ((j : ℕ) (d : X) → j + 1 < n - k → get_or ys j d ≡ get_or (take (n - k) (drop k xs)) (j + 1) d) → take (n - 1) (put_mid k (n - k) xs ys) ≡ remove (take n xs) k
turned k n xs ys lt le len at = same_lists _ _ (search (rules, places)) (λ j d h. grind (arith, places, at))
