use Rattle.std.proofs.Common.{◌+◌, sym, ap, ◌∙◌, subst, arith}
use Rattle.table.specs.Rows.{row, Names}
use Rattle.bounds.specs.Overheads.{over}
use Rattle.bounds.specs.Questions.{asked, own, timely}
use Rattle.bounds.proofs.overhead.OverheadTest.ask.Goals as goal

-- a bound from below says that the question is sound, and lies within the deadline
pub add_within-requires : goal.add_within-requires
add_within-requires g c =
    let q = asked c.args.q.now in
    let low = (g.met.T.Test.kept c.args.self.now.below).bound q c.in_ok-bound.bound (sym c.in_ok-bound.ensures) in
    record {
      names = subst (λ xs. Names xs q.task) (sym c.rows.ensures.value) low.0.names;
      low = (omega (arith, low.1.1, (own q).ok), c.args.self.now.ok);
    }

pub returns : goal.returns
returns g c =
    let q = asked c.args.q.now in
    let x = c.args.self.now.added in
    let bound = c.in_ok-bound.bound in
    c.add_within.ensures
    ∙ ap (λ rows. timely (row rows q.task).deadline (bound + x)) c.rows.ensures.value
    ∙ ap (over x (own q)) c.in_ok-bound.ensures
