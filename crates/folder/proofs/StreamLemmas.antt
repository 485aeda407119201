-- Reads one after the other, where a stream's bytes are known.
use Rattle.std.proofs.Common.{◌≡◌, ℕ, ◌≤◌, List, [], ◌++◌, length, take, Option, None, Some, IfSome, Result, Ok, Err, refl, sym, ap, ◌∙◌, append_assoc, append-nil, take_all}
use Rattle.std.proofs.lemmas.List.{take_at}
use Rattle.std.specs.Io.KnownBytes.{Keeps, Consumes, IsAtEnd, ReadConsumes}

pub Keeps-refl : (a : Option (List ℕ)) → Keeps a a
Keeps-refl None = tt
Keeps-refl (Some xs) = refl

pub Keeps-trans : (a b c : Option (List ℕ)) → Keeps a b → Keeps b c → Keeps a c
Keeps-trans None b c p q = tt
Keeps-trans (Some xs) None c p q = absurd p
Keeps-trans (Some xs) (Some ys) None p q = absurd q
Keeps-trans (Some xs) (Some ys) (Some zs) p q = q ∙ p

pub Consumes-nil : (a : Option (List ℕ)) → Consumes a a []
Consumes-nil None = tt
Consumes-nil (Some xs) = refl

pub Consumes-kept : (a b c : Option (List ℕ)) (bs : List ℕ) → Keeps a b → Consumes b c bs → Consumes a c bs
Consumes-kept None b c bs p q = tt
Consumes-kept (Some xs) None c bs p q = absurd p
Consumes-kept (Some xs) (Some ys) None bs p q = absurd q
Consumes-kept (Some xs) (Some ys) (Some zs) bs p q = sym p ∙ q

pub Consumes-trans : (a b c : Option (List ℕ)) (bs cs : List ℕ) → Consumes a b bs → Consumes b c cs → Consumes a c (bs ++ cs)
Consumes-trans None b c bs cs p q = tt
Consumes-trans (Some xs) None c bs cs p q = absurd p
Consumes-trans (Some xs) (Some ys) None bs cs p q = absurd q
Consumes-trans (Some xs) (Some ys) (Some zs) bs cs p q = p ∙ ap (λ l. bs ++ l) q ∙ sym (append_assoc bs cs zs)

-- a read after reads that failed
pub after_failed : {E : Type 0} (a b c : Option (List ℕ)) (r : Result ℕ E) (room : List ℕ) → Keeps a b → ReadConsumes b c r room → ReadConsumes a c r room
after_failed a b c (Ok n) room p q = (Consumes-kept a b c (take n room) p q.0, q.1)
after_failed a b c (Err e) room p q = Keeps-trans a b c p q

-- what was read are the first bytes, where they fill the room
pub first_if_full : (a b : Option (List ℕ)) (bs : List ℕ) (m : ℕ) → Consumes a b bs → length bs ≡ m → IfSome a (λ xs. bs ≡ take m xs)
first_if_full None b bs m p full = tt
first_if_full (Some xs) None bs m p full = absurd p
first_if_full (Some xs) (Some ys) bs m p full = sym (take_at bs ys m full) ∙ ap (take m) (sym p)

-- and where none is left
pub first_if_end : (a b : Option (List ℕ)) (bs : List ℕ) (m : ℕ) → Consumes a b bs → IsAtEnd b → length bs ≤ m → IfSome a (λ xs. bs ≡ take m xs)
first_if_end None b bs m p end short = tt
first_if_end (Some xs) None bs m p end short = absurd p
first_if_end (Some xs) (Some ys) bs m p end short =
    sym (take_all m bs short) ∙ ap (take m) (sym (append-nil bs) ∙ ap (λ l. bs ++ l) (sym end) ∙ sym p)
