use Rattle.std.proofs.Common.{◌≡◌, ◌+◌, ◌<◌, ◌≤◌, length, slice_set, refl, sym, ap, subst, ◌∙◌, arith}
use Rattle.std.proofs.lemmas.List.{length-set}
use Rattle.table.specs.declared.fault.Fault.TheVariants.{BadAnswer}
use Rattle.table.specs.Places.{nth}
use Rattle.sheets.specs.declared.form.TheConstants.{MOST_LINES}
use Rattle.sheets.specs.Pairs.{Answers, HasTaskAt, count_of, task_of}
use Rattle.sheets.proofs.Paired.{each_more, first_line, some_line, no_line, set_here, set_there, all_zero}
use Rattle.sheets.proofs.pairing.rows_named.Goals as goal

pub loop-i-init : goal.loop-i-init
loop-i-init c = record {
  each = λ k low high. absurd (omega arith);
  size = refl;
  named = λ k low high. absurd (omega arith);
  rest = λ k low. all_zero MOST_LINES k;
}

pub returns-in_default : goal.returns-in_default
returns-in_default c = (
  c.loop-i.i + 1,
  ap BadAnswer c.name-name.ensures.place,
  first_line (Answers c.args.tasks.now c.args.answer.now) c.loop-i.i c.loop-i.invariant.each (count_of c.args.answer.now) (omega (arith, c.len-i-end.ensures.count)) (λ h. c.in_default.ensures h.0.0 h.0.1.0 (omega (arith, h.0.1.1, c.len.ensures.count)) (h.0.1.2 ∙ sym c.name-name.ensures.name)),
)

pub returns-then-is_some : goal.returns-then-is_some
returns-then-is_some c =
    let line = some_line _ _ c.line_named-in-loop-i.result (sym c.if-is_some.ensures) c.line_named-in-loop-i.ensures in (
      c.loop-i.i + 1,
      ap BadAnswer c.name-name.ensures.place,
      first_line (Answers c.args.tasks.now c.args.answer.now) c.loop-i.i c.loop-i.invariant.each (count_of c.args.answer.now) (omega (arith, c.len-i-end.ensures.count)) (λ h. h.1 line.0 line.1.0 (omega (arith, line.1.1)) (line.1.2 ∙ c.name-name.ensures.name)),
    )

pub loop-i-preserved : goal.loop-i-preserved
loop-i-preserved c =
    let tasks = c.args.tasks.now in
    let answer = c.args.answer.now in
    let i = c.loop-i.i in
    let row = c.in-Some.row in
    let told = c.in-Some.ensures in
    let inside : i < length c.loop-i.rows = omega (arith, c.loop-i.invariant.size, c.len-i-end.ensures.few) in
    let none = no_line _ _ c.line_named-in-loop-i.result (sym c.if-is_some.ensures) c.line_named-in-loop-i.ensures in
    let high : row ≤ count_of tasks = omega (arith, told.1, c.len.ensures.count) in
    let same = told.2 ∙ c.name-name.ensures.name in
    record {
      each = each_more (Answers tasks answer) i c.loop-i.invariant.each ((row, (told.0, high, same)), λ k low less e. none k low (omega arith) (e ∙ sym c.name-name.ensures.name));
      size = length-set c.loop-i.rows i row ∙ c.loop-i.invariant.size;
      named = each_more (λ k. HasTaskAt tasks (task_of answer k) (nth (slice_set c.loop-i.rows i row) k 0)) i
          (λ k low less. subst (HasTaskAt tasks (task_of answer k)) (sym (set_there c.loop-i.rows i row k low (λ e. omega arith))) (c.loop-i.invariant.named k low less))
          (subst (HasTaskAt tasks (task_of answer (i + 1))) (sym (set_here c.loop-i.rows i row inside)) (told.0, high, same));
      rest = λ k more. set_there c.loop-i.rows i row k (omega arith) (λ e. omega arith) ∙ c.loop-i.invariant.rest k (omega arith);
    }

pub returns : goal.returns
returns c =
    let end : c.loop-i.i ≡ count_of c.args.answer.now = omega (arith, c.len-i-end.ensures.count) in (
      λ k low high. c.loop-i.invariant.each k low (omega arith),
      record {
        size = c.loop-i.invariant.size;
        named = λ k low high. c.loop-i.invariant.named k low (omega arith);
        rest = λ k more. c.loop-i.invariant.rest k (omega arith);
      },
    )
