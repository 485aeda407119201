use Rattle.std.proofs.lemmas.Result.{IfOk-weaker}
use Rattle.folder.proofs.TextLemmas.{sheet_is_text}
use Rattle.folder.proofs.files.read_folder.Goals as goal

pub returns-clause-texts : goal.returns-clause-texts
returns-clause-texts g c = IfOk-weaker c.read_sheets.result _ _ (λ texts are.
    (sheet_is_text _ _ texts.board are.board, sheet_is_text _ _ texts.tasks are.tasks, sheet_is_text _ _ texts.answer are.answer)) c.read_sheets.ensures.texts
