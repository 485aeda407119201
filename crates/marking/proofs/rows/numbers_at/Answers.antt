use Rattle.sheets.specs.declared.form.Form.TheVariants.{Tasks}
use Rattle.sheets.specs.declared.form.Column.TheVariants.{Wcet, Period, Deadline}
use Rattle.marking.proofs.Full.{wcet_there, period_there, deadline_there, has_number}
use Rattle.marking.proofs.rows.numbers_at.Goals as goal

pub number-requires : goal.number-requires
number-requires c = let sheet = c.requires.sheet in has_number c.args.tasks.now Tasks sheet.0 sheet.1 Wcet wcet_there c.args.k c.requires.line.0 c.requires.line.1 (λ h. h)

pub number-requires-2 : goal.number-requires-2
number-requires-2 c = let sheet = c.requires.sheet in has_number c.args.tasks.now Tasks sheet.0 sheet.1 Period period_there c.args.k c.requires.line.0 c.requires.line.1 (λ h. h)

pub number-requires-3 : goal.number-requires-3
number-requires-3 c = let sheet = c.requires.sheet in has_number c.args.tasks.now Tasks sheet.0 sheet.1 Deadline deadline_there c.args.k c.requires.line.0 c.requires.line.1 (λ h. h)
