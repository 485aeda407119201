use Rattle.std.proofs.Common.{◌+◌, [], get_or, sym, ap, subst, ◌∙◌, below_more, arith}
use Rattle.sheets.specs.Reading.{IsOfKind}
use Rattle.sheets.specs.Texts.{fields_in}
use Rattle.sheets.proofs.Parts.{next_left, none_left}
use Rattle.sheets.proofs.line.first_misfit.Goals as goal

pub returns-in_err-field : goal.returns-in_err-field
returns-in_err-field c = absurd (omega (arith, none_left (fields_in c.args.line.now) c.loop-column.column-index (c.loop-column.invariant.rest ∙ c.in_err-field.ensures.left)))

pub loop-column-preserved : goal.loop-column-preserved
loop-column-preserved c =
    let i = c.loop-column.column-index in
    let here = next_left (fields_in c.args.line.now) i [] c.in_ok-field.field.bytes.now _ (c.loop-column.invariant.rest ∙ c.in_ok-field.ensures.left) in
    record {
      rest = here.1;
      counted = c.in_ok-field.ensures.number.1 ∙ ap (λ n. n + 1) c.loop-column.invariant.counted;
      fit = below_more _ _ c.loop-column.invariant.fit
          (subst (λ k. IsOfKind k (get_or (fields_in c.args.line.now) i [])) c.kind.ensures (subst (IsOfKind c.kind.result) (sym here.0) (c.is_of_kind.ensures.0 c.if-not-is_of_kind.false)));
    }
