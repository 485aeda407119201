use Rattle.std.proofs.Common.{◌+◌, sym, ap, ◌∙◌}
use Rattle.table.specs.declared.row.Row.{Row}
use Rattle.bounds.specs.Questions.{timely}
use Rattle.bounds.proofs.ReadRows.{row_named}
use Rattle.bounds.proofs.overhead.add_within.Goals as goal

pub returns : goal.returns
returns c =
    let own = row_named c.args.rows.now c.args.task c.index-rows-task.result c.requires.names c.index-rows-task.is in
    c.timely.ensures ∙ ap (λ d. timely d (c.args.bound + c.args.added)) (c.deadline.ensures ∙ ap (λ (r : Row). r.deadline) (sym own))
