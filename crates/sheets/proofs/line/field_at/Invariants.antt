use Rattle.std.proofs.Common.{◌≡◌, drop}
use Rattle.sheets.specs.Readers.{left}
use Rattle.sheets.specs.Texts.{fields_in}
use Rattle.sheets.proofs.line.field_at.Given as goal

abbrev pub invariant-loop : goal.invariant-loop
invariant-loop l = record {
  rest : drop l.counter (fields_in l.line) ≡ left l.fields;
  counted : l.fields.number ≡ l.counter;
}
