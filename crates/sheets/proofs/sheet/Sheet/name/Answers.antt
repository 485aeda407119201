use Rattle.sheets.specs.declared.form.Column.TheVariants.{Task}
use Rattle.sheets.proofs.Held.{no_byte}
use Rattle.sheets.proofs.sheet.Sheet.name.Goals as goal

pub returns-in-None-clause-name : goal.returns-in-None-clause-name
returns-in-None-clause-name c = no_byte c.args.self.now c.args.k Task c.in-None.ensures
