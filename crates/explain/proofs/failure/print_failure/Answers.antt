use Rattle.std.proofs.Common.{string_bytes, ◌∙◌}
use Rattle.std.proofs.lemmas.Result.{on_ok_weaker}
use Rattle.explain.proofs.failure.print_failure.Goals as goal

pub returns-in_ok-line-in_default : goal.returns-in_ok-line-in_default
returns-in_ok-line-in_default g c = on_ok_weaker c.write_all-in_default.result (λ bytes. (
  c.as_bytes.result.now,
  record {
    memory = λ is. absurd (c.in_default.not-OutOfMemory (c.kind.ensures ∙ is));
    output = λ _. (string_bytes c.in_ok-words-in_default.words, c.as_bytes.ensures.value ∙ c.in_ok-line-in_default.ensures.ok);
  },
  bytes,
)) c.write_all-in_default.ensures.bytes
