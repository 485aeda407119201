use Rattle.std.proofs.Common.{rules, ◌≡◌, Err}
use Rattle.table.specs.Rows.{Alters}
use Rattle.study.specs.declared.edit.Edit.TheVariants.{Alter}
use Rattle.study.proofs.Edited.{edited, edit_refused, alters_refused, same_study}
use Rattle.study.proofs.Called.{edit_promise}
use Rattle.study.proofs.study.Study.alter.Goals as goal

pub returns : goal.returns
returns c =
    let k = c.args.k in
    let n = c.args.numbers in
    let does = edited (λ t r u. Alters t k n r u) c.args.self.now _ _ _ c.alter.ensures c.in_ok-alter.was c.redraft.ensures.table c.redraft.ensures.draft in
    record { does = does; promise = λ meaning laws l p tally history. edit_promise meaning laws (Alter k n) _ _ _ does l p tally history }

pub returns-in_err-alter : goal.returns-in_err-alter
returns-in_err-alter c =
    let t = c.args.self.now.table in
    let k = c.args.k in
    let n = c.args.numbers in
    let same = alters_refused t c.alter.new.self k n _ c.in_err-alter.ensures in
    let is : c.from_residual.result ≡ Err c.in_err-alter.field-0.0 = search rules in
    let does = edit_refused (λ t r u. Alters t k n r u) c.args.self.now _ _ _ c.in_err-alter.ensures is (same_study c.args.self.now _ _ same) in
    record { does = does; promise = λ meaning laws l p tally history. edit_promise meaning laws (Alter k n) _ _ _ does l p tally history }
