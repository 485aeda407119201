use Rattle.std.proofs.Common.{[], ◌∷◌, ◌++◌, ap, ◌∙◌, codes, decimal}
use Rattle.sheets.specs.declared.form.Column.TheVariants.{Task, Estimate}
use Rattle.sheets.specs.Forms.{name_of}
use Rattle.sheets.specs.Texts.{line_of}
use Rattle.marking.specs.Rendered.{word_of, levels_shown, level_lines, outcome_line}
use Rattle.marking.proofs.Written.{report-whole}
use Rattle.marking.proofs.render.render_report.Goals as goal

pub returns : goal.returns
returns c =
    let r = c.args.report.now in
    let named = ap (λ l. line_of (codes "level" ∷ l ∷ c.name-2.result.now ∷ [])) c.name.ensures ∙ ap (λ l. line_of (codes "level" ∷ name_of Task ∷ l ∷ [])) c.name-2.ensures in
    let valued =
    ap (λ l. line_of (l ∷ c.as_bytes-ranges.result.now ∷ c.as_bytes-steps.result.now ∷ [])) c.word.ensures
    ∙ ap (λ l. line_of (word_of r.verdict ∷ l ∷ c.as_bytes-steps.result.now ∷ [])) (c.as_bytes-ranges.ensures.value ∙ c.format.ensures.text)
    ∙ ap (λ l. line_of (word_of r.verdict ∷ decimal r.ranges ∷ l ∷ [])) (c.as_bytes-steps.ensures.value ∙ c.format-2.ensures.text) in
    let answered = ap (λ l. line_of (codes "answer" ∷ l ∷ codes "bound" ∷ [])) c.name-3.ensures in
    report-whole
    (codes "verdict" ∷ codes "ranges" ∷ codes "steps" ∷ [])
    (word_of r.verdict ∷ decimal r.ranges ∷ decimal r.steps ∷ [])
    (codes "level" ∷ name_of Task ∷ name_of Estimate ∷ [])
    (level_lines r (levels_shown r))
    (codes "answer" ∷ name_of Task ∷ codes "bound" ∷ [])
    (outcome_line r.outcome)
    c.new-out.ensures.items
    c.in_ok-push_line.ensures
    (c.in_ok-push_line-2.ensures ∙ ap (λ l. c.push_line.new.out.items ++ l ++ 10 ∷ []) valued)
    (c.in_ok-push_line-3.ensures ∙ ap (λ l. c.push_line-2.new.out.items ++ l ++ 10 ∷ []) named)
    c.in_ok-push_levels.ensures
    (c.in_ok-push_line-4.ensures ∙ ap (λ l. c.push_levels.new.out.items ++ l ++ 10 ∷ []) answered)
    c.in_ok-push_outcome.ensures
