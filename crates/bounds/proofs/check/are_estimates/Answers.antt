use Rattle.std.proofs.Common.{◌≡◌, length, sym, ◌∙◌, rules}
use Rattle.bounds.proofs.Spans.{lie_all, all_lie}
use Rattle.bounds.proofs.check.are_estimates.Goals as goal

pub returns-then-estimates-rows : goal.returns-then-estimates-rows
returns-then-estimates-rows c =
    let size : length c.args.estimates.now ≡ length c.args.rows.now = search rules in
    ((λ y. lie_all c.args.rows.now c.args.estimates.now size (sym c.all_lie.ensures ∙ y)), (λ h. c.all_lie.ensures ∙ all_lie c.args.rows.now c.args.estimates.now size h))
