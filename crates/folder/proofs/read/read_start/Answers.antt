use Rattle.std.proofs.Common.{◌≡◌, ℕ, ◌≤◌, List, ◌++◌, length, take, Option, None, Some, IfSome, arith, ap, ◌∙◌, take-take, refl}
use Rattle.std.proofs.lemmas.List.{take-append-le}
use Rattle.folder.proofs.read.read_start.Goals as goal

-- of the room, at the front of what it was lent from, the first n bytes are kept
kept : (n len : ℕ) (room rest : List ℕ) → n ≤ length room → length room ≤ len → take n (take len (room ++ rest)) ≡ take n room
kept n len room rest few fits = take-take n len (room ++ rest) (omega arith) ∙ take-append-le n room rest few

-- the same text, and the same number of bytes
first_of : (known : Option (List ℕ)) (room text : List ℕ) (n m : ℕ) → text ≡ room → n ≡ m → IfSome known (λ bytes. room ≡ take n bytes) → IfSome known (λ bytes. text ≡ take m bytes)
first_of None room text n m same many first = tt
first_of (Some bytes) room text n m same many first = same ∙ first ∙ ap (λ k. take k bytes) many

pub returns-clause-start : goal.returns-clause-start
returns-clause-start g c =
    let filled = c.in_ok-filled.ensures in
    let text : c.truncate.new.self.items ≡ take c.in_ok-filled.filled c.fill.new.room = c.truncate.ensures.items ∙ kept _ _ c.fill.new.room _ filled.bound.0 (omega arith) in
    record {
      most = omega (arith, c.in_ok-bytes.ensures.len, c.truncate.ensures.len);
      bytes = first_of _ _ _ _ 4097 text (omega (arith, c.in_ok-bytes.ensures.len)) filled.first;
      source = refl;
    }
