-- What an accepted add leaves: the row of these numbers after the others.
use Rattle.std.proofs.Common.{◌≡◌, ◌<◌, List, [], ◌∷◌, ◌++◌, length, Ok, Result, MatchResult, ap, sym, subst, ◌∙◌}
use Rattle.table.specs.declared.numbers.Numbers.{Numbers}
use Rattle.table.specs.declared.row.Row.{Row}
use Rattle.table.specs.declared.fault.Fault.{Fault}
use Rattle.table.specs.Asking.{Refuses}
use Rattle.table.specs.Rows.{Table, view, Adds, MadeRow}
use Rattle.table.proofs.Equal.{numbers, same_row}

-- a row of its own numbers is made, and is this row
made_of : (row : Row) (made : Result Row Fault) → MadeRow (numbers row) made → made ≡ Ok row
made_of row made is =
    let new = is.1 row.ok in
    let wcet : new.0.wcet ≡ row.wcet = new.2.0 in
    let period : new.0.period ≡ row.period = new.2.1 in
    let deadline : new.0.deadline ≡ row.deadline = new.2.2 in
    new.1 ∙ ap Ok (same_row new.0 row cc)

pub added : (t t' : Table) (rows : List Row) (row : Row) (n : Numbers) (r : Result (Unit {0}) Fault) → n ≡ numbers row → view t ≡ rows → length rows < 32 → Adds t n r t' → view t' ≡ rows ++ row ∷ []
added t t' rows row n r is shown few adds =
    let Few : List Row → Type 0 = λ xs. length xs < 32 in
    let makes = adds.1 (subst Few (sym shown) few) in
    let goes = subst (λ m. MatchResult m (λ w. (r ≡ Ok tt) × (view t' ≡ view t ++ w ∷ [])) (λ fault. Refuses {A = Unit {0}} fault t r t')) (made_of row makes.0 (subst (λ x. MadeRow x makes.0) is makes.1)) makes.2 in
    goes.1 ∙ ap (λ xs. xs ++ row ∷ []) shown
