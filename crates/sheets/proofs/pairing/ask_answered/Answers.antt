use Rattle.std.proofs.Common.{◌+◌, sym, ap, ◌∙◌, arith}
use Rattle.table.specs.declared.fault.Fault.TheVariants.{NoAnswer}
use Rattle.sheets.specs.Pairs.{IsAnswered, count_of}
use Rattle.sheets.proofs.Paired.{each_more, first_line, some_line, no_line}
use Rattle.sheets.proofs.pairing.ask_answered.Goals as goal

pub returns-then-is_none : goal.returns-then-is_none
returns-then-is_none c =
    let none = no_line _ _ c.line_named.result c.if-is_none.ensures c.line_named.ensures in (
      c.loop-i.i + 1,
      ap NoAnswer c.line_place.ensures,
      first_line (IsAnswered c.args.tasks.now c.args.answer.now) c.loop-i.i c.loop-i.invariant (count_of c.args.tasks.now) (omega (arith, c.len-i-end.ensures.count)) (λ h. none h.0 h.1.0 (omega (arith, h.1.1, c.len.ensures.count)) (h.1.2 ∙ sym c.name-name.ensures.name)),
    )

pub loop-i-preserved : goal.loop-i-preserved
loop-i-preserved c =
    let line = some_line _ _ c.line_named.result c.if-is_none.ensures c.line_named.ensures in
    each_more (IsAnswered c.args.tasks.now c.args.answer.now) c.loop-i.i c.loop-i.invariant (line.0, (line.1.0, omega (arith, line.1.1, c.len.ensures.count), line.1.2 ∙ c.name-name.ensures.name))

pub returns : goal.returns
returns c = λ k low high. c.loop-i.invariant k low (omega (arith, c.len-i-end.ensures.count))
