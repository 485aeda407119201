use Rattle.std.proofs.Common.{◌==◌, length, ap, ◌∙◌}
use Rattle.std.proofs.lemmas.List.{take_rest}
use Rattle.std.specs.Option.{unwrap_or}
use Rattle.sheets.proofs.Parts.{next_part, unwrap_or-position}
use Rattle.sheets.proofs.reader.Reader.next.Goals as goal

pub returns-clause-left : goal.returns-clause-left
returns-clause-left c =
    let h = c.in_ok-rest.ensures.lookup.0 in
    next_part c.args.self.now.separator c.args.self.now.at c.unwrap_or-len.result c.args.self.now.text.now c.in_ok-rest.rest.now h.0 (h.2 ∙ take_rest c.args.self.now.text.now c.args.self.now.at)
    (c.unwrap_or-len.ensures ∙ ap (λ o. unwrap_or o (length c.in_ok-rest.rest.now)) c.first_separator.ensures ∙ unwrap_or-position (λ b. b == c.args.self.now.separator) c.in_ok-rest.rest.now)
