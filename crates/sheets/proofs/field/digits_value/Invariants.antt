use Rattle.std.proofs.Common.{◌≡◌, ◌≤◌, take}
use Rattle.std.specs.List.{All}
use Rattle.sheets.specs.Fields.{IsDigit, value}
use Rattle.sheets.specs.declared.field.TheConstants.{MOST}
use Rattle.sheets.proofs.field.digits_value.Given as goal

abbrev pub invariant-loop-digit : goal.invariant-loop-digit
invariant-loop-digit l = record {
  digits : All IsDigit (take l.digit-index l.digits);
  number : value (take l.digit-index l.digits) ≡ l.n;
  small : l.n ≤ MOST;
}
