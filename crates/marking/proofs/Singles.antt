-- Three texts have one outcome.
use Rattle.std.proofs.Common.{◌≡◌, ℕ, List, Err, inl, inr}
use Rattle.std.proofs.lemmas.Bool.{false≢true}
use Rattle.table.specs.declared.fault.Fault.{Fault}
use Rattle.sheets.specs.declared.form.Form.{Form}
use Rattle.sheets.specs.declared.form.Form.TheVariants.{Board, Tasks, Answer}
use Rattle.sheets.specs.Reading.{IsFirst}
use Rattle.sheets.proofs.Outcomes.{one_first}
use Rattle.sheets.proofs.Readings.{sheet_is_read}
use Rattle.sheets.specs.declared.sheet.Sheet.{Sheet}
use Rattle.marking.specs.declared.report.Report.{Report}
use Rattle.marking.specs.Reports.{Read, Marked, Refused}
use Rattle.marking.specs.Questions.{IsForm, sheet_of, TextsFail, in_board, in_tasks, in_answer, SheetsFail}
use Rattle.marking.proofs.Alike.{read_alike, sheets_fail}
use Rattle.marking.proofs.Faults.{no_sheets_fault, one_sheets_fault}

-- what is a sheet has no fault
no_fault : (form : Form) (number : ℕ) (text : List ℕ) (fault : Fault) → IsForm form text → IsFirst form number text fault → ⊥
no_fault form number text fault is first = false≢true (sheet_is_read form number text (Err fault) first is.0 is.1 is.2)

-- three texts that are not all sheets have one first fault
one_fault : (x y z : List ℕ) (f g : Fault) → TextsFail x y z f → TextsFail x y z g → f ≡ g
one_fault x y z f g (in_board a) (in_board b) = one_first Board (sheet_of Board) x f g a b
one_fault x y z f g (in_board a) (in_tasks p b) = absurd (no_fault Board (sheet_of Board) x f p a)
one_fault x y z f g (in_board a) (in_answer p q b) = absurd (no_fault Board (sheet_of Board) x f p a)
one_fault x y z f g (in_tasks p a) (in_board b) = absurd (no_fault Board (sheet_of Board) x g p b)
one_fault x y z f g (in_tasks p a) (in_tasks q b) = one_first Tasks (sheet_of Tasks) y f g a b
one_fault x y z f g (in_tasks p a) (in_answer q r b) = absurd (no_fault Tasks (sheet_of Tasks) y f r a)
one_fault x y z f g (in_answer p q a) (in_board b) = absurd (no_fault Board (sheet_of Board) x g p b)
one_fault x y z f g (in_answer p q a) (in_tasks r b) = absurd (no_fault Tasks (sheet_of Tasks) y g q b)
one_fault x y z f g (in_answer p q a) (in_answer r t b) = one_first Answer (sheet_of Answer) z f g a b

-- and such texts are read as no sheets
not_read : (x y z : List ℕ) (f : Fault) → TextsFail x y z f → (board tasks answer : Sheet) → Read x y z board tasks answer → ⊥
not_read x y z f (in_board a) board tasks answer read = no_fault Board (sheet_of Board) x f (read.0.0, read.0.1, read.0.2) a
not_read x y z f (in_tasks p a) board tasks answer read = no_fault Tasks (sheet_of Tasks) y f (read.1.0, read.1.1, read.1.2) a
not_read x y z f (in_answer p q a) board tasks answer read = no_fault Answer (sheet_of Answer) z f (read.2.0, read.2.1, read.2.2) a

-- the sheets of one reading have the faults of another's
sheets_again : (x y z : List ℕ) (b t a c u d : Sheet) → Read x y z b t a → Read x y z c u d → (f : Fault) → SheetsFail c u d f → SheetsFail b t a f
sheets_again x y z b t a c u d one other f m =
    sheets_fail c b (read_alike Board (sheet_of Board) x c b other.0 one.0) u t (read_alike Tasks (sheet_of Tasks) y u t other.1 one.1) d a (read_alike Answer (sheet_of Answer) z d a other.2 one.2) f m

-- three texts have one fault at most
pub one_refusal : (x y z : List ℕ) (f g : Fault) → Refused x y z f → Refused x y z g → f ≡ g
one_refusal x y z f g (inl a) (inl b) = one_fault x y z f g a b
one_refusal x y z f g (inl a) (inr b) = absurd (not_read x y z f a b.0 b.1 b.2 b.3)
one_refusal x y z f g (inr a) (inl b) = absurd (not_read x y z g b a.0 a.1 a.2 a.3)
one_refusal x y z f g (inr a) (inr b) = one_sheets_fault a.0 a.1 a.2 f g a.4 (sheets_again x y z a.0 a.1 a.2 b.0 b.1 b.2 a.3 b.3 g b.4)

-- and no report beside it
pub no_refusal : (x y z : List ℕ) (r : Report) (f : Fault) → Marked x y z r → Refused x y z f → ⊥
no_refusal x y z r f m (inl a) = not_read x y z f a m.board m.tasks m.answer m.read
no_refusal x y z r f m (inr a) = no_sheets_fault m.board m.tasks m.answer f m.has_test m.paired m.lines m.lie (sheets_again x y z m.board m.tasks m.answer a.0 a.1 a.2 m.read a.3 f a.4)
