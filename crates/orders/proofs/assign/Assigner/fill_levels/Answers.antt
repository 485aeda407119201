use Rattle.std.proofs.Common.{◌≡◌, true, length, Some, None, sym, ap, ◌∙◌, inl, inr, arith}
use Rattle.std.proofs.lemmas.Bool.{cases_eq}
use Rattle.table.specs.Rows.{view}
use Rattle.table.proofs.View.{few_rows}
use Rattle.bounds.proofs.Firsts.{least_found, least_missing}
use Rattle.bounds.specs.Responses.{least_from}
use Rattle.orders.specs.Assigner.{candidate, full}
use Rattle.orders.proofs.Fills.{filling_none, filling_more, filling_fails, filling_all}
use Rattle.orders.proofs.assign.Assigner.fill_levels.Goals as goal

pub levels-init : goal.levels-init
levels-init g c =
    let s = c.args.self.now in
    let few = few_rows s.table.now in
    (omega arith, omega (arith, c.len-rows.ensures.rows), filling_none (g.T.Test.answer s.test.now) (view s.table.now) s.range.now few c.len-rows.result c.args.left.now c.len-rows.ensures.rows (c.requires ∙ ap full (sym c.len-rows.ensures.rows)))

pub loop-candidate-init : goal.loop-candidate-init
loop-candidate-init g c = (omega arith, omega arith, λ k low high. absurd (omega arith))

pub passes-requires : goal.passes-requires
passes-requires g c = let inv = c.loop-candidate.invariant in (omega (arith, inv.0), omega (arith, c.levels.invariant.1))

pub loop-candidate-preserved : goal.loop-candidate-preserved
loop-candidate-preserved g c =
    let s = c.args.self.now in
    let p = candidate (g.T.Test.answer s.test.now) (view s.table.now) s.range.now c.levels.left in
    let inv = c.loop-candidate.invariant in (
      omega (arith, inv.0),
      omega arith,
      λ k low high. elim (cases_eq k c.loop-candidate.candidate) [
        | inl e ↦ ap p e ∙ sym c.if-passes.ensures
        | inr d ↦ inv.2 k low (omega arith)
      ],
    )

pub levels-preserved : goal.levels-preserved
levels-preserved g c =
    let s = c.args.self.now in
    let rows = view s.table.now in
    let p = candidate (g.T.Test.answer s.test.now) rows s.range.now c.levels.left in
    let k = c.loop-candidate.candidate in
    let inv = c.loop-candidate.invariant in
    let same = c.len-rows.ensures.rows in
    let passes : p k ≡ true = sym c.passes.ensures ∙ c.if-passes.true in
    let found : least_from p 1 (length rows) ≡ Some k = least_found p 1 (length rows) k inv.0 (omega (arith, same)) passes inv.2 in
    (omega (arith, c.levels.invariant.0), c.levels.invariant.1, filling_more (g.T.Test.answer s.test.now) rows s.range.now (few_rows s.table.now) c.levels.level c.levels.left c.levels.order c.levels.invariant.2 (omega arith) (omega (arith, same, c.levels.invariant.0)) k inv.0 (sym found))

pub returns-then-level-eq0 : goal.returns-then-level-eq0
returns-then-level-eq0 g c =
    let s = c.args.self.now in
    filling_all (g.T.Test.answer s.test.now) (view s.table.now) s.range.now c.levels.level c.levels.left c.levels.order c.levels.invariant.2 (omega arith)

pub returns-then-candidate-rows : goal.returns-then-candidate-rows
returns-then-candidate-rows g c =
    let s = c.args.self.now in
    let rows = view s.table.now in
    let p = candidate (g.T.Test.answer s.test.now) rows s.range.now c.levels.left in
    let inv = c.loop-candidate.invariant in
    let same = c.len-rows.ensures.rows in
    let nobody : least_from p 1 (length rows) ≡ None = least_missing p 1 (length rows) (λ k low high. inv.2 k low (omega (arith, same))) in
    filling_fails (g.T.Test.answer s.test.now) rows s.range.now (few_rows s.table.now) c.levels.level c.levels.left c.levels.order c.levels.invariant.2 (omega arith) (omega (arith, same, c.levels.invariant.0)) (sym nobody)
