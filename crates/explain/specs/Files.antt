-- The files that a folder of sheets has.
use Rattle.std.specs.Prelude.{◌≡◌, ℕ, zero, suc, List, Option, None, Some, codes}
use Rattle.sheets.specs.declared.form.Form.{Form}
use Rattle.sheets.specs.declared.form.Form.TheVariants.{Board, Tasks, Answer}
use Rattle.marking.specs.Questions.{sheet_of}

-- the name of the file that has a sheet
abbrev pub file_name : Form → List ℕ
file_name Board = codes "board.txt"
file_name Tasks = codes "tasks.txt"
file_name Answer = codes "answer.txt"

-- the form of the sheet of a number; 0 is none
abbrev pub form_at : ℕ → Option Form
form_at zero = None
form_at (suc zero) = Some Board
form_at (suc (suc zero)) = Some Tasks
form_at (suc (suc (suc zero))) = Some Answer
form_at (suc (suc (suc (suc n)))) = None

-- the sheet of the number that marking gives a form is of this form
abbrev pub FormsNumbered : Type 0
FormsNumbered = (form : Form) → form_at (sheet_of form) ≡ Some form
