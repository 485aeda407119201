-- A study with the two lists that are lent to it.
use Rattle.std.specs.Prelude.{ℕ, List}
use Rattle.table.specs.declared.row.Row.{Row}
use Rattle.table.specs.Rows.{view}
use Rattle.study.specs.declared.study.Study.{Study}

-- a study, its ledger and its pending list
pub record Moment : Type 0 where
  pub study : Study
  pub ledger : List ℕ
  pub pending : List ℕ

abbrev pub moment : Study → List ℕ → List ℕ → Moment
moment study ledger pending = record { study = study; ledger = ledger; pending = pending }

-- the rows of its table
abbrev pub rows_of : Moment → List Row
rows_of now = view now.study.table
