-- Whether an answer is at most a number, asked by a closure of the bound.
use Rattle.std.proofs.Common.{◌≡◌, ℕ, Bool, false, leb, Some, None, Option, MatchOption, Decides, sym, ◌∙◌}
use Rattle.std.proofs.lemmas.Bool.{leb-true, le-leb, false≢true}
use Rattle.bounds.specs.Questions.{NoMore}

-- where a bound was called on, the answer is whether it is at most e; late is not
pub meets_from : (o : Option ℕ) (e : ℕ) (r : Bool) (P : ℕ → Type 0) → ((x : ℕ) → P x → r ≡ leb x e) → MatchOption o (r ≡ false) P → Decides r (NoMore o (Some e))
meets_from None e r P is late = ((λ y. absurd (false≢true (sym late ∙ y))), λ no. absurd no)
meets_from (Some x) e r P is called = ((λ y. leb-true x e (sym (is x called) ∙ y)), λ h. is x called ∙ le-leb x e h)
