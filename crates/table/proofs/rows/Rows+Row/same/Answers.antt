use Rattle.std.proofs.Common.{sym, ◌∙◌}
use Rattle.std.proofs.lemmas.Slice.Eq.{slice_eq-Decides}
use Rattle.table.proofs.Equal.{equal_decides}
use Rattle.table.proofs.rows.Rows+Row.same.Goals as goal

pub returns : goal.returns
returns c =
    let same = slice_eq-Decides equal_decides _ _ _ c.eq.ensures in
    (λ e. sym c.rows.ensures.value ∙ same.0 e ∙ c.rows-2.ensures.value, λ e. same.1 (c.rows.ensures.value ∙ e ∙ sym c.rows-2.ensures.value))
