use Rattle.std.proofs.Common.{◌+◌, arith, rules}
use Rattle.std.proofs.lemmas.List.Elements.{All-nil, All-more}
use Rattle.sheets.specs.Fields.{IsDigit}
use Rattle.sheets.proofs.Values.{value-none, value_more, value-take-le}
use Rattle.sheets.proofs.field.digits_value.Goals as goal

pub loop-digit-init : goal.loop-digit-init
loop-digit-init c = record { digits = All-nil IsDigit; number = value-none; small = omega arith }

pub returns-then-n-gt-MOST : goal.returns-then-n-gt-MOST
returns-then-n-gt-MOST c = λ digits small. omega (arith, value_more c.args.digits.now c.loop-digit.digit-index (omega arith), value-take-le c.args.digits.now (c.loop-digit.digit-index + 1), c.from.ensures)

pub loop-digit-preserved : goal.loop-digit-preserved
loop-digit-preserved c = record {
  digits = All-more IsDigit c.args.digits.now c.loop-digit.digit-index 0 (omega arith) c.loop-digit.invariant.digits (search rules);
  number = omega (arith, value_more c.args.digits.now c.loop-digit.digit-index (omega arith), c.from.ensures);
  small = omega arith;
}
