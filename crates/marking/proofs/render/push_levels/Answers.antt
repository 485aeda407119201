use Rattle.std.proofs.Common.{sym, append-nil, ◌∙◌}
use Rattle.marking.specs.Rendered.{level_lines}
use Rattle.marking.proofs.Written.{levels-more}
use Rattle.marking.proofs.render.push_levels.Goals as goal

pub loop-place-init : goal.loop-place-init
unfolding level_lines
loop-place-init c = sym (append-nil _)

pub loop-place-preserved : goal.loop-place-preserved
loop-place-preserved c =
    levels-more _ _ _ c.args.report.now c.loop-place.place _ _ (c.as_bytes.ensures.value ∙ c.format.ensures.text) (c.as_bytes-in-loop-place.ensures.value ∙ c.format-in-loop-place.ensures.text) c.loop-place.invariant c.in_ok-push_line.ensures
