-- What the edits of a study do.
use Rattle.std.specs.Prelude.{◌≡◌, [], IfOk, IfErr}
use Rattle.table.specs.Asking.{Reply}
use Rattle.table.specs.Rows.{Table, view, Adds, Alters, Removes}
use Rattle.study.specs.declared.edit.Edit.{Edit}
use Rattle.study.specs.declared.edit.Edit.TheVariants.{Add, Alter, Remove}
use Rattle.study.specs.declared.state.State.TheVariants as state
use Rattle.study.specs.declared.study.Study.{Study}

-- a draft: nothing is counted
pub record IsDraft (study : Study) : Type 0 where
  pub state : study.state ≡ state.Draft
  pub ledger_count : study.ledger_count ≡ 0
  pub pending_count : study.pending_count ≡ 0
  pub steps : study.steps ≡ 0

-- a new study: an empty draft
abbrev pub IsNew : Study → Type 0
IsNew study = (view study.table ≡ []) × IsDraft study

-- An edit: the table is as its own call leaves it. Where that is accepted the study is then a
-- draft, and where it is refused as it was.
abbrev pub Edits : (Table → Reply → Table → Type 0) → Study → Reply → Study → Type 0
Edits call before reply after =
    call before.table reply after.table
    × IfOk reply (λ _. IsDraft after) × IfErr reply (λ _. after ≡ before)

-- for each edit, what it does with a study
abbrev pub EditsBy : Edit → Study → Reply → Study → Type 0
EditsBy (Add n) before reply after = Edits (λ t r u. Adds t n r u) before reply after
EditsBy (Alter k n) before reply after = Edits (λ t r u. Alters t k n r u) before reply after
EditsBy (Remove k) before reply after = Edits (λ t r u. Removes t k r u) before reply after
