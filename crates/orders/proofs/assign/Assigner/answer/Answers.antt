use Rattle.std.proofs.Common.{List, Bool, false, sym, ap, ◌∙◌}
use Rattle.table.specs.Rows.{view}
use Rattle.table.proofs.Placed.{put_at}
use Rattle.bounds.specs.Questions.{question}
use Rattle.orders.proofs.assign.Assigner.answer.Goals as goal

pub returns : goal.returns
returns g c =
    let s = c.args.self.now in
    c.ask.ensures ∙ ap (λ (above : List Bool). (g.T.Test.answer s.test.now) (question (view s.table.now) c.args.k above s.range.now.lows)) (sym (put_at c.args.left.now c.args.k false c.requires.0))
