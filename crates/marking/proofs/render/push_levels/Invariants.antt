use Rattle.std.proofs.Common.{◌≡◌, ◌++◌}
use Rattle.sheets.specs.Texts.{text_of}
use Rattle.marking.specs.Rendered.{level_lines}
use Rattle.marking.proofs.render.push_levels.Given as goal

abbrev pub invariant-loop-place : goal.invariant-loop-place
invariant-loop-place l = l.out.items ≡ l.initial.out.items ++ text_of (level_lines l.report l.place)
