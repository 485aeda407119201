use Rattle.std.proofs.Common.{◌≡◌, ◌-◌, get_or, sym, ◌∙◌, rules}
use Rattle.table.specs.Rows.{view}
use Rattle.orders.specs.Assigner.{at_most}
use Rattle.orders.proofs.Fills.{candidate_read, candidate_placed}
use Rattle.orders.proofs.assign.Assigner.passes.Goals as goal

pub returns-then-not-left-k : goal.returns-then-not-left-k
returns-then-not-left-k g c =
    let s = c.args.self.now in
    sym (candidate_placed (g.T.Test.answer s.test.now) (view s.table.now) s.range.now c.args.left.now c.args.k c.requires.0 c.if-not-left-k.true)

pub returns : goal.returns
returns g c =
    let s = c.args.self.now in
    let is : c.is_some_and.result ≡ at_most c.answer.result (get_or s.range.now.highs (c.args.k - 1) 0) = search rules in
    is ∙ sym (candidate_read (g.T.Test.answer s.test.now) (view s.table.now) s.range.now c.args.left.now c.args.k _ c.requires.0 c.if-not-left-k.false c.answer.ensures)
