use Rattle.std.proofs.lemmas.Result.{IfOk-weaker}
use Rattle.folder.proofs.print.print_sheets.Goals as goal

pub returns : goal.returns
returns g c = IfOk-weaker c.print_texts.result _ _ (λ status prints. record {
  texts = c.in_ok-texts.texts;
  are = c.in_ok-texts.ensures.texts;
  prints = prints;
}) c.print_texts.ensures
