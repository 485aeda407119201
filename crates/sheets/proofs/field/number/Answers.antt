use Rattle.std.proofs.Common.{arith}
use Rattle.sheets.proofs.Values.{zero_writes}
use Rattle.sheets.proofs.field.number.Goals as goal

pub returns-in-48 : goal.returns-in-48
returns-in-48 c = zero_writes c.args.field.now c.in-48.len_at_least c.in-48.len_below (omega arith)
