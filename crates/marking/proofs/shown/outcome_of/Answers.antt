use Rattle.sheets.specs.declared.form.Form.TheVariants.{Tasks}
use Rattle.sheets.specs.declared.form.Column.TheVariants.{Task}
use Rattle.marking.proofs.Full.{task_there, has_field}
use Rattle.marking.proofs.shown.outcome_of.Goals as goal

pub field-requires : goal.field-requires
field-requires c =
    let here = rw c.in-Some.is at c.requires.miss in
    has_field c.args.tasks.now Tasks c.requires.tasks.0 c.requires.tasks.1 Task task_there c.in-Some.miss.task here.0 here.1
