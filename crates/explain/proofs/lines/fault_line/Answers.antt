use Rattle.std.proofs.Common.{ap, ◌∙◌}
use Rattle.std.proofs.lemmas.Result.{IfOk-weaker}
use Rattle.explain.specs.Files.{form_at}
use Rattle.explain.specs.Explained.{place_words}
use Rattle.explain.proofs.Worded.{faulted}
use Rattle.explain.proofs.lines.fault_line.Goals as goal

pub returns : goal.returns
returns c = IfOk-weaker c.format.result _ _ (λ text is. is ∙ faulted c.args.fault _ _ (c.in_ok-place.ensures ∙ ap (λ p. place_words (form_at p.sheet) p) c.place.ensures) c.number-number.ensures) c.format.ensures.ok
