use Rattle.std.proofs.Common.{◌≡◌, ℕ, ◌<◌, drop}
use Rattle.sheets.specs.Lines.{FitsAt}
use Rattle.sheets.specs.Readers.{left}
use Rattle.sheets.specs.Texts.{fields_in}
use Rattle.sheets.proofs.line.first_misfit.Given as goal

abbrev pub invariant-loop-column : goal.invariant-loop-column
invariant-loop-column l = record {
  rest : drop l.column-index (fields_in l.line) ≡ left l.fields;
  counted : l.fields.number ≡ l.column-index;
  fit : (j : ℕ) → j < l.column-index → FitsAt l.columns (fields_in l.line) j;
}
