use Rattle.std.proofs.Common.{rules, ◌≡◌, ◌==◌, ◌+◌, sym, ap, ◌∙◌}
use Rattle.std.specs.List.{count_by}
use Rattle.std.proofs.lemmas.List.Splits.{length-slice_split}
use Rattle.sheets.proofs.line.count_fields.Goals as goal

pub returns : goal.returns
returns c =
    let spaces : c.count.result ≡ count_by (λ b. b == 32) c.args.line.now = search rules in
    ap (λ n. n + 1) spaces ∙ sym (length-slice_split (λ b. b == 32) c.args.line.now)
