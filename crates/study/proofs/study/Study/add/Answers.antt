use Rattle.std.proofs.Common.{rules, ◌≡◌, Err}
use Rattle.table.specs.Rows.{Adds}
use Rattle.study.specs.declared.edit.Edit.TheVariants.{Add}
use Rattle.study.proofs.Edited.{edited, edit_refused, adds_refused, same_study}
use Rattle.study.proofs.Called.{edit_promise}
use Rattle.study.proofs.study.Study.add.Goals as goal

pub returns : goal.returns
returns c =
    let n = c.args.numbers in
    let does = edited (λ t r u. Adds t n r u) c.args.self.now _ _ _ c.add.ensures c.in_ok-add.was c.redraft.ensures.table c.redraft.ensures.draft in
    record { does = does; promise = λ meaning laws l p tally history. edit_promise meaning laws (Add n) _ _ _ does l p tally history }

pub returns-in_err-add : goal.returns-in_err-add
returns-in_err-add c =
    let n = c.args.numbers in
    let same = adds_refused c.args.self.now.table c.add.new.self n _ c.in_err-add.ensures in
    let is : c.from_residual.result ≡ Err c.in_err-add.field-0.0 = search rules in
    let does = edit_refused (λ t r u. Adds t n r u) c.args.self.now _ _ _ c.in_err-add.ensures is (same_study c.args.self.now _ _ same) in
    record { does = does; promise = λ meaning laws l p tally history. edit_promise meaning laws (Add n) _ _ _ does l p tally history }
