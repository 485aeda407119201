use Rattle.std.proofs.Common.{arith}
use Rattle.sheets.proofs.Lined.{kept_at}
use Rattle.sheets.proofs.sheet.Sheet.line.Goals as goal

pub returns-then-place-len-clause-line : goal.returns-then-place-len-clause-line
returns-then-place-len-clause-line c = kept_at c.args.self.now.lines c.args.self.now.len c.in_ok-place.place c.args.k _ (omega arith) c.if-place-len.true (omega arith)
