use Rattle.std.proofs.Common.{rules, ◌≡◌, Err}
use Rattle.table.specs.Rows.{Removes}
use Rattle.study.specs.declared.edit.Edit.TheVariants.{Remove}
use Rattle.study.proofs.Edited.{edited, edit_refused, removes_refused, same_study}
use Rattle.study.proofs.Called.{edit_promise}
use Rattle.study.proofs.study.Study.remove.Goals as goal

pub returns : goal.returns
returns c =
    let k = c.args.k in
    let does = edited (λ t r u. Removes t k r u) c.args.self.now _ _ _ c.remove.ensures c.in_ok-remove.was c.redraft.ensures.table c.redraft.ensures.draft in
    record { does = does; promise = λ meaning laws l p tally history. edit_promise meaning laws (Remove k) _ _ _ does l p tally history }

pub returns-in_err-remove : goal.returns-in_err-remove
returns-in_err-remove c =
    let k = c.args.k in
    let same = removes_refused c.args.self.now.table c.remove.new.self k _ c.in_err-remove.ensures in
    let is : c.from_residual.result ≡ Err c.in_err-remove.field-0.0 = search rules in
    let does = edit_refused (λ t r u. Removes t k r u) c.args.self.now _ _ _ c.in_err-remove.ensures is (same_study c.args.self.now _ _ same) in
    record { does = does; promise = λ meaning laws l p tally history. edit_promise meaning laws (Remove k) _ _ _ does l p tally history }
