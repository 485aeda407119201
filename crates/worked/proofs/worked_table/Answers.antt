use Rattle.std.proofs.Common.{[], ◌∷◌, refl, lit<}
use Rattle.worked.specs.Examples.{a, c as third}
use Rattle.worked.proofs.Added.{added}
use Rattle.worked.proofs.Shown.{shown}
use Rattle.worked.proofs.worked_table.Goals as goal

pub returns : goal.returns
returns c =
    let one = added c.new-table.result _ [] a _ _ c.of.ensures c.new-table.ensures (lit< tt) c.add.ensures in
    let two = added c.add.new.self _ (a ∷ []) a _ _ c.of-2.ensures one (lit< tt) c.add-2.ensures in
    let three = added c.add-2.new.self _ (a ∷ (a ∷ [])) third _ _ c.of-3.ensures two (lit< tt) c.add-3.ensures in
    record { rows = (_, refl, three); examples = shown }

pub returns-in_err-add-3-clause-examples : goal.returns-in_err-add-3-clause-examples
returns-in_err-add-3-clause-examples c = shown

pub returns-in_err-add-2-clause-examples : goal.returns-in_err-add-2-clause-examples
returns-in_err-add-2-clause-examples c = shown
