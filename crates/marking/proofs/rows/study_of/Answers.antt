use Rattle.std.proofs.Common.{◌+◌, ◌<◌, ◌≡◌, subst, sym, ap, ◌∙◌, arith}
use Rattle.table.specs.declared.fault.Fault.TheVariants.{BadRow}
use Rattle.sheets.specs.declared.form.Form.TheVariants.{Tasks}
use Rattle.sheets.specs.declared.form.Column.TheVariants.{Task}
use Rattle.sheets.specs.Pairs.{count_of, EachLine}
use Rattle.sheets.proofs.Paired.{first_line}
use Rattle.table.specs.Rows.{view}
use Rattle.marking.specs.Reports.{RowsOf, HasHistory}
use Rattle.marking.specs.Questions.{HasRow}
use Rattle.marking.proofs.Full.{task_there, has_field}
use Rattle.marking.proofs.Rowed.{whole_place, none_yet, new_history, no_row, row_more, rows_more, history_more}
use Rattle.marking.proofs.rows.study_of.Goals as goal

pub loop-i-init : goal.loop-i-init
loop-i-init c = record {
  each = λ k low high. absurd (omega arith);
  rows = none_yet c.args.tasks.now _ c.new-study.ensures.0;
  history = new_history c.new-study.result c.new-study.ensures;
}

pub numbers_at-requires : goal.numbers_at-requires
numbers_at-requires c = record { sheet = c.requires; line = (omega arith, omega (arith, c.len-i-end.ensures.count)) }

pub field-requires : goal.field-requires
field-requires c = has_field c.args.tasks.now Tasks c.requires.0 c.requires.1 Task task_there (c.loop-i.i + 1) (omega arith) (omega (arith, c.len-i-end.ensures.count))

pub loop-i-preserved : goal.loop-i-preserved
loop-i-preserved c =
    let few : c.loop-i.i < 32 = omega (arith, c.len-i-end.ensures.few) in
    let on = c.loop-i.invariant in
    let good = sym c.is_err.ensures.value ∙ c.if-is_err.false in
    record {
      each = row_more c.args.tasks.now c.loop-i.i few c.loop-i.study c.add.new.self _ c.numbers_at.ensures _ c.add.ensures.does on.rows good on.each;
      rows = rows_more c.args.tasks.now c.loop-i.i few c.loop-i.study c.add.new.self _ c.numbers_at.ensures _ c.add.ensures.does on.rows good;
      history = history_more c.args.tasks.now c.loop-i.i few c.loop-i.study c.add.new.self _ c.numbers_at.ensures _ c.add.ensures.does on.rows on.history;
    }

pub returns-then-is_err : goal.returns-then-is_err
returns-then-is_err c =
    let few : c.loop-i.i < 32 = omega (arith, c.len-i-end.ensures.few) in
    let bad = no_row c.args.tasks.now c.loop-i.i few c.loop-i.study c.add.new.self _ c.numbers_at.ensures _ c.add.ensures.does c.loop-i.invariant.rows (sym c.is_err.ensures.value ∙ c.if-is_err.true) in (
      c.loop-i.i + 1,
      ap BadRow (whole_place c.whole_line.result c.field.result.place _ _ _ c.whole_line.ensures c.field.ensures.place),
      first_line (HasRow c.args.tasks.now) c.loop-i.i c.loop-i.invariant.each (count_of c.args.tasks.now) (omega (arith, c.len-i-end.ensures.count)) bad,
    )

pub returns : goal.returns
returns c =
    let end : c.loop-i.i ≡ count_of c.args.tasks.now = omega (arith, c.len-i-end.ensures.count) in
    subst (λ n. EachLine (HasRow c.args.tasks.now) n × RowsOf c.args.tasks.now n (view c.loop-i.study.table) × HasHistory c.loop-i.study) end (c.loop-i.invariant.each, c.loop-i.invariant.rows, c.loop-i.invariant.history)
