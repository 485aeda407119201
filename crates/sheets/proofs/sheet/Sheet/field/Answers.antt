use Rattle.std.proofs.Common.{◌+◌, ap, ◌∙◌}
use Rattle.sheets.specs.Forms.{place}
use Rattle.sheets.proofs.Held.{no_field, field_here}
use Rattle.sheets.proofs.sheet.Sheet.field.Goals as goal

pub returns-in_err-part : goal.returns-in_err-part
returns-in_err-part c = rw c.from_residual-in_err-part.ensures (no_field c.args.self.now c.args.k c.args.column c.in_ok-line.line.now c.left_of.result c.in_ok-line.ensures.line c.left_of.ensures.value c.in_err-part.ensures)

pub returns : goal.returns
returns c =
    let part = c.in_ok-part.ensures in
    let here = field_here c.args.self.now c.args.k c.args.column c.in_ok-line.line.now c.left_of.result c.in_ok-line.ensures.line c.left_of.ensures.value part.0 c.in_ok-part.part.bytes.now part.1 in
    (here.0, here.1, c.place.ensures ∙ ap (λ j. place c.args.self.now.number (c.args.k + 1) j) (part.2 ∙ ap (λ n. n + 1) c.left_of.ensures.value))
