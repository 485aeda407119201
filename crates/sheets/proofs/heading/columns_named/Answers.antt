use Rattle.std.proofs.Common.{◌<◌, ◌++◌, map, length, take, sym, ap, subst, ◌∙◌, arith}
use Rattle.std.specs.Option.{MatchOption}
use Rattle.std.proofs.lemmas.List.{append-nil, length-take-le, length-set}
use Rattle.sheets.specs.Forms.{first_columns, name_of}
use Rattle.sheets.specs.Readers.{left}
use Rattle.sheets.specs.Texts.{fields_in}
use Rattle.sheets.specs.Reading.{Heads, HasNames}
use Rattle.sheets.proofs.Columns.{few_columns, named_more, stray_name, too_many, heads_by}
use Rattle.sheets.proofs.heading.columns_named.Goals as goal

pub returns-in_err-column : goal.returns-in_err-column
returns-in_err-column c =
    subst (λ r. MatchOption r (HasNames c.args.form (fields_in c.args.names.now) → ⊥) (λ columns. Heads c.args.form (fields_in c.args.names.now) (first_columns c.args.form columns))) (sym c.from_residual.ensures)
    (stray_name c.args.form (fields_in c.args.names.now) (take c.loop-field.count c.loop-field.given) c.in-Some.field.bytes.now (left c.next.new.self)
    (c.loop-field.invariant.whole ∙ ap (λ ls. map name_of (take c.loop-field.count c.loop-field.given) ++ ls) c.in-Some.ensures.left) c.in_err-column.ensures)

pub returns-then-count-columns : goal.returns-then-count-columns
returns-then-count-columns c =
    too_many c.args.form (fields_in c.args.names.now) (take c.loop-field.count c.loop-field.given) c.in-Some.field.bytes.now (left c.next.new.self)
    (c.loop-field.invariant.whole ∙ ap (λ ls. map name_of (take c.loop-field.count c.loop-field.given) ++ ls) c.in-Some.ensures.left)
    (length-take-le c.loop-field.count c.loop-field.given (omega (arith, few_columns c.args.form)) ∙ c.if-count-columns.true ∙ ap length c.columns-columns.ensures)

pub loop-field-preserved : goal.loop-field-preserved
loop-field-preserved c =
    let inside : c.loop-field.count < length c.loop-field.given = omega (arith, few_columns c.args.form, ap length c.columns-columns.ensures) in
    record {
      whole = c.loop-field.invariant.whole ∙ ap (λ ls. map name_of (take c.loop-field.count c.loop-field.given) ++ ls) c.in-Some.ensures.left ∙ named_more c.loop-field.given c.loop-field.count c.in_ok-column.column c.in-Some.field.bytes.now (left c.next.new.self) inside c.in_ok-column.ensures;
      long = length-set c.loop-field.given c.loop-field.count c.in_ok-column.column ∙ c.loop-field.invariant.long;
      room = omega (arith, ap length c.columns-columns.ensures);
    }

pub returns : goal.returns
returns c =
    let count = c.loop-field.count in
    heads_by c.args.form (fields_in c.args.names.now) c.loop-field.given count c.are_columns.result c.then_some.result
    (c.loop-field.invariant.whole ∙ ap (λ ls. map name_of (take count c.loop-field.given) ++ ls) c.in_default.ensures.left ∙ append-nil (map name_of (take count c.loop-field.given)))
    (length-take-le count c.loop-field.given (omega (arith, few_columns c.args.form)))
    c.are_columns.ensures c.then_some.ensures
