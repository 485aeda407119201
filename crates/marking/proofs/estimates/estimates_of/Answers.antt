use Rattle.std.proofs.Common.{◌≡◌, ◌+◌, ◌<◌, ◌≤◌, get_or, ap, ◌∙◌, arith}
use Rattle.std.proofs.lemmas.List.{length-set}
use Rattle.std.proofs.lemmas.Bool.{both_ways}
use Rattle.table.specs.declared.fault.Fault.TheVariants.{BadOrder}
use Rattle.sheets.specs.declared.form.Form.TheVariants.{Tasks, Answer}
use Rattle.sheets.specs.declared.form.Column.TheVariants.{Wcet, Deadline, Estimate}
use Rattle.sheets.specs.Pairs.{count_of}
use Rattle.sheets.proofs.Paired.{each_more, first_line}
use Rattle.marking.specs.Questions.{HasEstimate}
use Rattle.marking.proofs.Full.{wcet_there, deadline_there, estimate_there, has_field, has_number}
use Rattle.marking.proofs.Claimed.{row_here, row_few, estimate_lies, estimate_not, held_more}
use Rattle.marking.proofs.estimates.estimates_of.Goals as goal

pub number-wcet-requires : goal.number-wcet-requires
number-wcet-requires c =
    let row = row_here c.args.tasks.now c.args.answer.now c.args.order.now c.requires.order.0 c.loop-i.i (omega (arith, c.len-i-end.ensures.count)) in
    has_number c.args.tasks.now Tasks c.requires.tasks.0 c.requires.tasks.1 Wcet wcet_there (get_or c.args.order.now c.loop-i.i 0) row.0 row.1 (λ h. h)

pub number-deadline-requires : goal.number-deadline-requires
number-deadline-requires c =
    let row = row_here c.args.tasks.now c.args.answer.now c.args.order.now c.requires.order.0 c.loop-i.i (omega (arith, c.len-i-end.ensures.count)) in
    has_number c.args.tasks.now Tasks c.requires.tasks.0 c.requires.tasks.1 Deadline deadline_there (get_or c.args.order.now c.loop-i.i 0) row.0 row.1 (λ h. h)

pub number-estimate-requires : goal.number-estimate-requires
number-estimate-requires c = has_number c.args.answer.now Answer c.requires.answer.0 c.requires.answer.1 Estimate estimate_there (c.loop-i.i + 1) (omega arith) (omega (arith, c.len-i-end.ensures.count)) (λ h. h)

pub field-requires : goal.field-requires
field-requires c = has_field c.args.answer.now Answer c.requires.answer.0 c.requires.answer.1 Estimate estimate_there (c.loop-i.i + 1) (omega arith) (omega (arith, c.len-i-end.ensures.count))

pub returns-then-not-lies : goal.returns-then-not-lies
returns-then-not-lies c = (
  c.loop-i.i + 1,
  ap BadOrder c.field.ensures.place,
  first_line (HasEstimate c.args.tasks.now c.args.answer.now) c.loop-i.i c.loop-i.invariant.each (count_of c.args.answer.now) (omega (arith, c.len-i-end.ensures.count))
      (estimate_not c.args.tasks.now c.args.answer.now c.args.order.now c.requires.order.0 c.loop-i.i (omega (arith, c.len-i-end.ensures.count)) _ _ _ c.number-wcet.ensures c.number-deadline.ensures c.number-estimate.ensures (λ low high. both_ways _ c.if-not-lies.true (c.lies.ensures.1 (low, high)))),
)

pub overflow_sub-estimates : goal.overflow_sub-estimates
overflow_sub-estimates c = (row_here c.args.tasks.now c.args.answer.now c.args.order.now c.requires.order.0 c.loop-i.i (omega (arith, c.len-i-end.ensures.count))).0

pub bounds-estimates-row : goal.bounds-estimates-row
bounds-estimates-row c = row_few c.args.tasks.now c.args.answer.now c.args.order.now c.requires.order.0 c.loop-i.i (omega (arith, c.len-i-end.ensures.count)) (omega (arith, c.requires.order.1.0, c.len-i-end.ensures.count, c.len-i-end.ensures.few))

pub offset_bounds-estimates-row : goal.offset_bounds-estimates-row
offset_bounds-estimates-row c = omega (arith, row_few c.args.tasks.now c.args.answer.now c.args.order.now c.requires.order.0 c.loop-i.i (omega (arith, c.len-i-end.ensures.count)) (omega (arith, c.requires.order.1.0, c.len-i-end.ensures.count, c.len-i-end.ensures.few)))

pub loop-i-preserved : goal.loop-i-preserved
loop-i-preserved c =
    let inside : c.loop-i.i < count_of c.args.answer.now = omega (arith, c.len-i-end.ensures.count) in
    let few : count_of c.args.tasks.now ≤ 32 = omega (arith, c.requires.order.1.0, c.len-i-end.ensures.count, c.len-i-end.ensures.few) in
    record {
      each = each_more (HasEstimate c.args.tasks.now c.args.answer.now) c.loop-i.i c.loop-i.invariant.each
          (estimate_lies c.args.tasks.now c.args.answer.now c.args.order.now c.requires.order.0 c.loop-i.i inside _ _ _ c.number-wcet.ensures c.number-deadline.ensures c.number-estimate.ensures (c.lies.ensures.0 c.if-not-lies.false).0 (c.lies.ensures.0 c.if-not-lies.false).1);
      held = held_more c.args.tasks.now c.args.answer.now c.args.order.now c.requires.order.0 c.loop-i.i inside _ _ _ c.number-wcet.ensures c.number-deadline.ensures c.number-estimate.ensures c.requires.order.1 c.loop-i.estimates c.loop-i.invariant.size few c.loop-i.invariant.held;
      size = length-set c.loop-i.estimates _ _ ∙ c.loop-i.invariant.size;
    }

pub returns : goal.returns
returns c =
    let end : c.loop-i.i ≡ count_of c.args.answer.now = omega (arith, c.len-i-end.ensures.count) in
    (λ k low high. c.loop-i.invariant.each k low (omega arith), λ k low high. c.loop-i.invariant.held k low (omega arith), c.loop-i.invariant.size)
