use Rattle.std.proofs.Common.{refl, rules}
use Rattle.std.proofs.lemmas.List.{take_more_set}
use Rattle.table.proofs.Asked.{met}
use Rattle.table.proofs.Made.{makes_row}
use Rattle.table.proofs.rows.Rows+Row.add.Goals as goal

pub returns : goal.returns
returns c = met (search rules) (makes_row c.args.numbers c.in_ok-row.row c.in_ok-row.ensures (refl, search (rules, take_more_set)))
