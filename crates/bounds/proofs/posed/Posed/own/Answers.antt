use Rattle.std.proofs.Common.{sym, ◌∙◌}
use Rattle.bounds.proofs.ReadRows.{row_named}
use Rattle.bounds.proofs.posed.Posed.own.Goals as goal

pub returns : goal.returns
returns c =
    let q = c.args.self.now in
    sym c.index-self-self.is ∙ sym (row_named q.rows.now q.task c.index-self-self.result q.sound.names c.index-self-self.is)
