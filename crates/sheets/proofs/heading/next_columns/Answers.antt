use Rattle.sheets.specs.Readers.{left}
use Rattle.sheets.proofs.Columns.{named_next}
use Rattle.sheets.proofs.heading.next_columns.Goals as goal

pub returns-clause-columns : goal.returns-clause-columns
returns-clause-columns c = named_next c.args.form c.in_ok-names.names.bytes.now (left c.next.new.self) (left c.args.lines.now) c.in_ok-names.ensures.left c.columns_named.result c.columns_named.ensures
