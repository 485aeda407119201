use Rattle.std.proofs.lemmas.Result.{IfOk-weaker}
use Rattle.folder.proofs.TextLemmas.{sheet_is_text}
use Rattle.folder.proofs.print.explain_folder.Goals as goal

pub returns : goal.returns
returns g c = IfOk-weaker c.explain_sheets.result _ _ (λ status sheets. record {
  texts = sheets.texts;
  board = sheet_is_text _ _ sheets.texts.board sheets.are.board;
  tasks = sheet_is_text _ _ sheets.texts.tasks sheets.are.tasks;
  answer = sheet_is_text _ _ sheets.texts.answer sheets.are.answer;
  prints = sheets.prints;
  explains = sheets.explains;
}) c.explain_sheets.ensures
