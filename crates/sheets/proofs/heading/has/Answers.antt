use Rattle.std.proofs.lemmas.List.Elements.{contains_decides, Decides-contains}
use denote.Enum.Bare.{sameb}
use Rattle.sheets.specs.contracts.form.Column.{the_type}
use Rattle.sheets.proofs.Columns.{same_column}
use Rattle.sheets.proofs.heading.has.Goals as goal

pub returns : goal.returns
returns c =
    Decides-contains c.args.given.now c.args.column c.contains.result
    (contains_decides (sameb the_type) same_column c.args.given.now c.args.column c.contains.result c.contains.ensures.cases)
