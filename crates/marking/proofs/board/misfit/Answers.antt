use Rattle.std.proofs.Common.{◌<◌, ◌∙◌, sym, ap, subst, refl, arith}
use Rattle.table.specs.declared.fault.Fault.TheVariants.{BadTest}
use Rattle.std.proofs.lemmas.Bool.{false≢true}
use Rattle.bounds.specs.Named.{IsTestName}
use Rattle.sheets.specs.declared.form.Form.TheVariants.{Board}
use Rattle.sheets.specs.declared.form.Column.TheVariants.{Processors, Test}
use Rattle.sheets.specs.Sheets.{left_of}
use Rattle.marking.proofs.Full.{test_there, has_field}
use Rattle.marking.proofs.Suited.{all_suit}
use Rattle.marking.proofs.board.misfit.Goals as goal

pub field-test-requires : goal.field-test-requires
field-test-requires c = has_field c.args.board.now Board c.requires.sheet.0 c.requires.sheet.2 Test test_there 1 (omega arith) (omega (arith, c.requires.sheet.1))

pub returns-in-false-true : goal.returns-in-false-true
returns-in-false-true c = (
  Processors,
  ap BadTest c.field.ensures.place,
  λ h. absurd (false≢true (sym c.in-false-true.is-0 ∙ c.requires.allowed.1 h)),
  all_suit c.args.board.now (λ d. left_of c.args.board.now d < left_of c.args.board.now Processors) (λ l. absurd (omega arith)) (λ l. subst IsTestName c.field-test.ensures.bytes (c.in-false-true.ensures.0 refl)),
)
