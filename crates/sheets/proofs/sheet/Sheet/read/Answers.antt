use Rattle.std.proofs.Common.{Err, sym, subst, ◌∙◌}
use Rattle.table.specs.declared.fault.Fault.TheVariants.{BadNames}
use Rattle.sheets.specs.Reading.{IsFirst}
use Rattle.sheets.proofs.Readings.{no_names, values_read, sheet_is_read}
use Rattle.sheets.proofs.Standing.{read_is_full}
use Rattle.sheets.proofs.sheet.Sheet.read.Goals as goal

pub returns-in-Some-next_columns-clause-read : goal.returns-in-Some-next_columns-clause-read
returns-in-Some-next_columns-clause-read c =
    let body = c.in-Some.ensures in
    let named = c.in-Some-next_columns.ensures.columns in
    values_read c.args.form c.args.number c.args.text.now c.in-Some.body.now body.0 body.1 named.0 _ (sym c.new-lines.ensures.left ∙ named.1) c.in-Some-next_columns.columns named.2 c.read_values.result c.read_values.ensures

pub returns-in-None-clause-read : goal.returns-in-None-clause-read
returns-in-None-clause-read c =
    let body = c.in-Some.ensures in
    subst (λ p. IsFirst c.args.form c.args.number c.args.text.now (BadNames p)) (sym c.place-in-None.ensures)
    (no_names c.args.form c.args.number c.args.text.now c.in-Some.body.now body.0 body.1 (λ names rest e. c.in-None.ensures.columns names rest (c.new-lines.ensures.left ∙ e)))

pub returns-in-Some-next_columns-clause-whole : goal.returns-in-Some-next_columns-clause-whole
returns-in-Some-next_columns-clause-whole c = sheet_is_read c.args.form c.args.number c.args.text.now c.read_values.result (returns-in-Some-next_columns-clause-read c)

pub returns-in-Some-next_columns-clause-full : goal.returns-in-Some-next_columns-clause-full
returns-in-Some-next_columns-clause-full c = read_is_full c.args.form c.args.number c.args.text.now c.read_values.result (returns-in-Some-next_columns-clause-read c)

pub returns-in-None-clause-whole : goal.returns-in-None-clause-whole
returns-in-None-clause-whole c = sheet_is_read c.args.form c.args.number c.args.text.now (Err (BadNames c.place-in-None.result)) (returns-in-None-clause-read c)
