use Rattle.std.proofs.Common.{◌≡◌, ◌+◌, [], drop, sym, ap, ◌∙◌, arith}
use Rattle.sheets.specs.Readers.{left}
use Rattle.sheets.specs.Texts.{fields_in}
use Rattle.sheets.proofs.Parts.{next_left, none_left, part_at}
use Rattle.sheets.proofs.line.field_at.Goals as goal

pub returns-in_err-next : goal.returns-in_err-next
returns-in_err-next c = rw c.from_residual.ensures (omega (arith, none_left (fields_in c.args.line.now) c.loop.counter (c.loop.invariant.rest ∙ c.in_err-next.ensures.left)))

pub loop-preserved : goal.loop-preserved
loop-preserved c = record {
  rest = (next_left (fields_in c.args.line.now) c.loop.counter [] c.in_ok-next.field-0.bytes.now _ (c.loop.invariant.rest ∙ c.in_ok-next.ensures.left)).1;
  counted = c.in_ok-next.ensures.number.1 ∙ ap (λ n. n + 1) c.loop.invariant.counted;
}

pub returns : goal.returns
returns c =
    let end : c.loop.counter ≡ c.args.at = omega arith in
    part_at (fields_in c.args.line.now) (left c.loop.fields) (left c.next-2.new.self) c.args.at c.loop.fields.number c.next-2.new.self.number (ap (λ n. drop n (fields_in c.args.line.now)) (sym end) ∙ c.loop.invariant.rest) (c.loop.invariant.counted ∙ end) c.next-2.result c.next-2.ensures.left _ c.next-2.ensures.number
