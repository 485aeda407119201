-- Lists by number: what stands in the k-th place, counted from 1. The number 0 names no place.
use Rattle.std.specs.Prelude.{ℕ, zero, suc, List, slice_index_or, slice_set}

-- what stands in the k-th place; the other thing where there is no such place
unfoldable pub nth : {A : Type 0} → List A → ℕ → A → A
nth list zero other = other
nth list (suc k) other = slice_index_or list k other

-- the list with another thing in its k-th place; the list itself where there is no such place
unfoldable pub put : {A : Type 0} → List A → ℕ → A → List A
put list zero other = list
put list (suc k) other = slice_set list k other
