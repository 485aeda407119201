use Rattle.std.proofs.Common.{ap, ◌∙◌}
use Rattle.orders.specs.Assigner.{full}
use Rattle.orders.proofs.assign.high_wanted.Goals as goal

pub fill_levels-requires : goal.fill_levels-requires
fill_levels-requires g c = c.all_tasks-left.ensures ∙ ap full c.len.ensures.rows
