use Rattle.std.proofs.Common.{rules, tests, sym, ap, subst, ◌∙◌, length}
use Rattle.std.specs.List.{Contains, All}
use Rattle.std.proofs.lemmas.Iterator.{cases_from_all, YieldsList-from_slice}
use Rattle.sheets.proofs.Columns.{each_decides}
use Rattle.sheets.proofs.heading.are_columns.Goals as goal

pub returns-then-given-columns : goal.returns-then-given-columns
returns-then-given-columns c =
    let given = c.args.given.now in
    let columns = c.columns-columns.result.now in
    let test = each_decides given columns c.all.result (cases_from_all _ _ _ (Contains given) (λ x. Contains given x → ⊥) c.all.ensures.ran (YieldsList-from_slice columns cc) (λ x q k. search (rules, tests)) (λ x q k. search (rules, tests))) in (
      λ yes. (c.if-given-columns.true ∙ ap length c.columns-columns.ensures, subst (All (Contains given)) c.columns-columns.ensures (test.0 yes)),
      λ all. test.1 (subst (All (Contains given)) (sym c.columns-columns.ensures) all.1),
    )
