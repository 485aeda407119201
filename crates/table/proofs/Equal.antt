-- Two rows of the same numbers are one row.
use Rattle.std.specs.Prelude.{Decides, ◌==◌, ◌&&◌}
use Rattle.std.proofs.lemmas.Bool.{and_parts, and_from, eqb-true, eq-eqb}
use Rattle.std.proofs.Common.{◌≡◌, ap, subst}
use Rattle.std.proofs.Props.{props}
use Rattle.table.specs.declared.numbers.Numbers.{Numbers}
use Rattle.table.specs.declared.row.Row.{Row}
use Rattle.table.specs.Rows.{IsRow}

abbrev pub numbers : Row → Numbers
numbers r = record { wcet = r.wcet; period = r.period; deadline = r.deadline }

made : (n : Numbers) → IsRow n → Row
made n ok = record { wcet = n.wcet; period = n.period; deadline = n.deadline; ok = ok }

one_proof : (n : Numbers) → IsProp (IsRow n)
one_proof n = Prim.hlevel props

pub same_row : (a b : Row) → numbers a ≡ numbers b → a ≡ b
unfolding made
same_row a b same =
    let At : Numbers → Type 0 = λ n. (ok : IsRow n) → a ≡ made n ok in
    let here : At (numbers a) = λ ok. ap (made (numbers a)) (one_proof (numbers a) a.ok ok) in
    subst At same here b.ok

-- the rows' `==` says whether they are one row
pub equal_decides : (a b : Row) → Decides (a.wcet == b.wcet && (a.period == b.period && a.deadline == b.deadline)) (a ≡ b)
equal_decides a b = (
  λ y. let first = and_parts (a.wcet == b.wcet) (a.period == b.period && a.deadline == b.deadline) y in
      let rest = and_parts (a.period == b.period) (a.deadline == b.deadline) first.1 in
      let wcet = eqb-true _ _ first.0 in
      let period = eqb-true _ _ rest.0 in
      let deadline = eqb-true _ _ rest.1 in
      same_row a b cc,
  λ e. and_from _ _ (eq-eqb _ _ (ap (λ (r : Row). r.wcet) e)) (and_from _ _ (eq-eqb _ _ (ap (λ (r : Row). r.period) e)) (eq-eqb _ _ (ap (λ (r : Row). r.deadline) e))),
)
