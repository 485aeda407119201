use Rattle.std.proofs.Common.{sym, ◌∙◌}
use Rattle.std.proofs.lemmas.Result.{IfOk-weaker}
use Rattle.explain.proofs.Worded.{placed}
use Rattle.explain.proofs.lines.place_words.Goals as goal

pub returns : goal.returns
returns c = IfOk-weaker c.format.result _ _ (λ text is. is ∙ placed c.args.place c.in-Some.form _ _ _ (sym c.form_at.ensures.form ∙ c.in-Some.is) c.file_name-file.ensures c.in_ok-line.ensures c.in_ok-field.ensures) c.format.ensures.ok
