use Rattle.std.proofs.Common.{◌≤◌, ◌+◌, ◌<◌, ℕ, List, [], map, length, take, refl, sym, ap, subst, ◌∙◌, arith}
use Rattle.std.specs.List.{All}
use Rattle.std.proofs.lemmas.List.{length-drop, length-set, take_all}
use Rattle.std.proofs.lemmas.Result.{err_from_is_err_and}
use Rattle.std.proofs.lemmas.List.Elements.{All-replicate, All-set}
use denote.Bor.{Bor}
use Rattle.sheets.specs.Forms.{first_columns, most_of, place}
use Rattle.sheets.specs.declared.form.Column.{Column}
use Rattle.sheets.specs.declared.form.TheConstants.{MOST_LINES}
use Rattle.sheets.specs.declared.reader.TheConstants.{LONGEST}
use Rattle.sheets.specs.Lines.{Fits, LineFails}
use Rattle.sheets.specs.Readers.{left}
use Rattle.sheets.specs.Texts.{fields_in}
use Rattle.sheets.proofs.Parts.{next_left, none_left}
use Rattle.sheets.proofs.Lined.{fails_here, fit_here, kept_more, count_fails, few_lines, line_past}
use Rattle.sheets.proofs.sheet.Sheet.read_values.Goals as goal
use Rattle.sheets.proofs.sheet.Sheet.read_values.Goals.{then-len-lt32, else-len-lt32}

abbrev Short : Bor (List ℕ) → Type 0
Short line = length line.now ≤ LONGEST

pub loop-line-init : goal.loop-line-init
loop-line-init c = record {
  rest = refl;
  within = omega arith;
  counted = c.requires;
  fit = λ i l. absurd (omega arith);
  long = refl;
  kept = λ _. refl;
  short = All-replicate Short MOST_LINES _ (omega arith);
}

pub returns-in_err-ask_line : goal.returns-in_err-ask_line
returns-in_err-ask_line c =
    let columns = ap (λ (cs : List Column). take (length cs) c.args.given) c.columns.ensures in
    let p = err_from_is_err_and c.from_residual.result c.from_residual.ensures.1 in
    rw (p.1, p.2) (fails_here c.args.form c.args.number (first_columns c.args.form c.args.given) (left c.args.lines) c.loop-line.len c.loop-line.invariant.fit c.in-Some.line.bytes.now _ (c.loop-line.invariant.rest ∙ c.in-Some.ensures.left)
    c.in-Some.line.number _ (omega (arith, c.in-Some.ensures.number.0)) (subst (λ cs. LineFails c.args.number cs c.in-Some.line.number (fields_in c.in-Some.line.bytes.now) c.in_err-ask_line.field-0.0) columns c.in_err-ask_line.ensures))

pub loop-line-preserved : goal.loop-line-preserved
loop-line-preserved c =
    let columns = ap (λ (cs : List Column). take (length cs) c.args.given) c.columns.ensures in
    let rest = c.loop-line.invariant.rest ∙ c.in-Some.ensures.left in
    let here = next_left (left c.args.lines) c.loop-line.len [] c.in-Some.line.bytes.now _ rest in
    let inside : c.loop-line.len < length (left c.args.lines) = omega (arith, ap length rest, length-drop c.loop-line.len (left c.args.lines)) in
    record {
      rest = here.1;
      within = omega arith;
      counted = omega (arith, c.in-Some.ensures.number.1);
      fit = fit_here c.args.form c.args.number (first_columns c.args.form c.args.given) (left c.args.lines) c.loop-line.len c.loop-line.invariant.fit c.in-Some.line.bytes.now _ rest (subst (λ cs. Fits cs (fields_in c.in-Some.line.bytes.now)) columns c.in_ok-ask_line.ensures);
      long = elim c.if-len-lt32.branch [
        | then-len-lt32 w ↦ ap length w.kept-is ∙ length-set c.loop-line.kept c.loop-line.len c.in-Some.line.bytes ∙ c.loop-line.invariant.long
        | else-len-lt32 w ↦ ap length w.kept-is ∙ c.loop-line.invariant.long
      ];
      kept = elim c.if-len-lt32.branch [
        | then-len-lt32 w ↦ λ few. ap (λ k. map (λ line. line.now) (take (c.loop-line.len + 1) k)) w.kept-is ∙ kept_more c.loop-line.kept (left c.args.lines) c.loop-line.len c.in-Some.line.bytes (omega (arith, c.loop-line.invariant.long)) inside here.0 (c.loop-line.invariant.kept (omega arith))
        | else-len-lt32 w ↦ λ few. absurd (omega arith)
      ];
      short = elim c.if-len-lt32.branch [
        | then-len-lt32 w ↦ subst (All Short) (sym w.kept-is) (All-set Short c.loop-line.kept c.loop-line.len c.in-Some.line.bytes c.in-Some.ensures.short c.loop-line.invariant.short)
        | else-len-lt32 w ↦ subst (All Short) (sym w.kept-is) c.loop-line.invariant.short
      ];
    }

pub returns-then-len-most : goal.returns-then-len-most
returns-then-len-most c =
    let end = none_left (left c.args.lines) c.loop-line.len (c.loop-line.invariant.rest ∙ c.in_default.ensures.left) in
    count_fails c.args.form c.args.number (first_columns c.args.form c.args.given) (left c.args.lines) c.loop-line.len c.place-then-len-most.result c.loop-line.invariant.fit (omega arith) (λ few. omega arith)
    (c.place-then-len-most.ensures ∙ ap (λ n. place c.args.number n 0) (ap (λ m. m + 2) c.most-then-len-most.ensures ∙ line_past c.loop-line.len (most_of c.args.form) c.if-len-eq0.false))

pub returns : goal.returns
returns c =
    let end = none_left (left c.args.lines) c.loop-line.len (c.loop-line.invariant.rest ∙ c.in_default.ensures.left) in
    (refl, refl, refl, c.loop-line.invariant.kept (omega (arith, few_lines c.args.form)) ∙ take_all c.loop-line.len (left c.args.lines) end, λ i l. c.loop-line.invariant.fit i (omega arith), (omega arith, omega arith))
