use Rattle.std.proofs.Common.{◌++◌, ◌∷◌, [], ap, sym, ◌∙◌, arith}
use Rattle.sheets.proofs.Cuts.{last_byte}
use Rattle.sheets.proofs.sheet.body_of.Goals as goal
use Rattle.sheets.proofs.sheet.body_of.Goals.{else-last-eq10-via-then-last-eq10+else-text-le-LONGEST, else-last-eq10-via-else-last-eq10}

pub returns-then-text-le-LONGEST : goal.returns-then-text-le-LONGEST
returns-then-text-le-LONGEST c =
    let text = c.in_ok-last.ensures.cases in
    ((omega (arith, text.1), c.if-text-le-LONGEST.true, last_byte c.args.text.now c.in_ok-last.body.now c.in_ok-last.last.now text.0 ∙ c.if-last-eq10.true), text.0 ∙ ap (λ b. c.in_ok-last.body.now ++ b ∷ []) c.if-last-eq10.true)

pub returns-else-last-eq10 : goal.returns-else-last-eq10
returns-else-last-eq10 c = λ sized.
    elim c.else-last-eq10.branch [
      | else-last-eq10-via-then-last-eq10+else-text-le-LONGEST w ↦ omega (arith, sized.1)
      | else-last-eq10-via-else-last-eq10 w ↦ w.if-last-eq10.false (sym (last_byte c.args.text.now c.in_ok-last.body.now c.in_ok-last.last.now c.in_ok-last.ensures.cases.0) ∙ sized.2)
    ]
