-- The fields of a sheet that was read.
use Rattle.std.proofs.Common.{◌≡◌, ℕ, ◌≤◌, refl, sym, subst, arith}
use Rattle.std.specs.List.{Contains}
use Rattle.sheets.specs.declared.form.Column.{Column}
use Rattle.sheets.specs.declared.form.Form.{Form}
use Rattle.sheets.specs.declared.form.Form.TheVariants.{Board, Tasks, Answer}
use Rattle.sheets.specs.declared.form.Column.TheVariants.{Processors, Overhead, Test, Task, Wcet, Period, Deadline, Estimate}
use Rattle.sheets.specs.declared.sheet.Sheet.{Sheet}
use Rattle.sheets.specs.Forms.{kind_of, columns_of}
use Rattle.sheets.specs.Fields.{Writes}
use Rattle.sheets.specs.Reading.{IsOfKind}
use Rattle.sheets.specs.Sheets.{HasField, field_of, IsFull}
use Rattle.sheets.specs.Pairs.{count_of}
use Rattle.marking.specs.Questions.{number_under, HasNumber}

pub test_there : Contains (columns_of Board) Test
test_there = (2, omega arith, refl)

pub processors_there : Contains (columns_of Board) Processors
processors_there = (0, omega arith, refl)

pub overhead_there : Contains (columns_of Board) Overhead
overhead_there = (1, omega arith, refl)

pub task_there : Contains (columns_of Tasks) Task
task_there = (0, omega arith, refl)

pub wcet_there : Contains (columns_of Tasks) Wcet
wcet_there = (1, omega arith, refl)

pub period_there : Contains (columns_of Tasks) Period
period_there = (2, omega arith, refl)

pub deadline_there : Contains (columns_of Tasks) Deadline
deadline_there = (3, omega arith, refl)

pub named_there : Contains (columns_of Answer) Task
named_there = (0, omega arith, refl)

pub estimate_there : Contains (columns_of Answer) Estimate
estimate_there = (1, omega arith, refl)

module _ (s : Sheet) (form : Form) (is : s.form ≡ form) (full : IsFull s) (c : Column) (there : Contains (columns_of form) c) (k : ℕ) (low : 1 ≤ k) (high : k ≤ count_of s) where
  both : HasField s k c × IsOfKind (kind_of c) (field_of s k c)
  both = full k c low high (subst (λ f. Contains (columns_of f) c) (sym is) there)

  pub has_field : HasField s k c
  has_field = both.0

  pub has_number : (IsOfKind (kind_of c) (field_of s k c) → (n : ℕ) × Writes (field_of s k c) n) → HasNumber s k c
  has_number number = (both.0, number both.1)

pub small_number : (s : Sheet) (k : ℕ) (c : Column) → HasNumber s k c → number_under s k c ≤ 1000000
small_number s k c has = omega (arith, has.1.1.number, has.1.1.small)
