use Rattle.std.proofs.Common.{sym, subst, ◌∙◌, arith}
use Rattle.table.proofs.Asked.{ok_err}
use Rattle.bounds.specs.Made.{MadeProcessors}
use Rattle.bounds.specs.Named.{IsNamed}
use Rattle.sheets.specs.declared.form.Form.TheVariants.{Board}
use Rattle.sheets.specs.declared.form.Column.TheVariants.{Overhead, Test}
use Rattle.marking.proofs.Full.{test_there, overhead_there, has_field, has_number, small_number}
use Rattle.marking.proofs.Suited.{known_here, allowed_here, processors_made, named_made, test_made}
use Rattle.marking.proofs.board.test_of.Goals as goal

pub field-requires : goal.field-requires
field-requires c = has_field c.args.board.now Board c.requires.0 c.requires.2 Test test_there 1 (omega arith) (omega (arith, c.requires.1))

pub number-requires-2 : goal.number-requires-2
number-requires-2 c = has_number c.args.board.now Board c.requires.0 c.requires.2 Overhead overhead_there 1 (omega arith) (omega (arith, c.requires.1)) (λ h. h)

pub returns-in_err-processors : goal.returns-in_err-processors
returns-in_err-processors c =
    let made = c.new-processors.ensures.1 (allowed_here c.args.board.now _ c.number.ensures c.in_default.ensures) in
    absurd (ok_err _ _ (sym made.1 ∙ c.in_err-processors.was))

pub returns-in_err-test : goal.returns-in_err-test
returns-in_err-test c =
    let made = c.new.ensures.1 (known_here c.args.board.now _ c.field.ensures.bytes c.in_default.ensures) in
    absurd (ok_err _ _ (sym made.1 ∙ c.in_err-test.was))

pub returns : goal.returns
returns c =
    let board = c.args.board.now in
    let has = c.in_default.ensures in
    let small = small_number board 1 Overhead (has_number board Board c.requires.0 c.requires.2 Overhead overhead_there 1 (omega arith) (omega (arith, c.requires.1)) (λ h. h)) in
    let name = c.field.result.bytes.now in
    let p = c.in_ok-processors.field-0 in
    let many = processors_made c.number.result p (subst (λ r. MadeProcessors c.number.result r) c.in_ok-processors.was c.new-processors.ensures) (allowed_here board _ c.number.ensures has) in
    let named : IsNamed name c.number.result c.in_ok-test.test = subst (λ m. IsNamed name m c.in_ok-test.test) many (named_made name p c.in_ok-test.test c.in_ok-test.ensures (known_here board name c.field.ensures.bytes has)) in
    test_made board _ _ _ c.in_ok-test.test _ c.field.ensures.bytes c.number.ensures c.number-2.ensures (omega (arith, c.number-2.ensures, small)) has named c.new-2.ensures
