use Rattle.std.proofs.Common.{◌≡◌, ◌+◌, false, [], ◌∷◌, length, length-append, sym, ap, ◌∙◌, arith}
use Rattle.std.proofs.lemmas.Bool.{cond-true, cond-false}
use Rattle.std.proofs.lemmas.Slice.Zip.{zip_turn}
use Rattle.bounds.specs.Loads.{sum_over, deadline_part}
use Rattle.bounds.specs.Questions.{own}
use Rattle.bounds.specs.Posing.{question_of}
use Rattle.bounds.proofs.DeadlineLoads.{deadline_load_le, deadline_part_lem}
use Rattle.bounds.proofs.Summing.{sum_none, over_more}
use Rattle.bounds.proofs.ReadRows.{row_read}
use Rattle.bounds.proofs.da.load_above.Goals as goal

pub loop-row-init : goal.loop-row-init
loop-row-init c = sym (sum_none _)

pub overflow_add-sum : goal.overflow_add-sum
overflow_add-sum c =
    let q = c.args.q.now in
    let turn = zip_turn q.rows.now q.above.now c.loop-row.yielded c.into_iter-row-iterator.result c.loop-row.row-iterator c.next.new.self c.next.result (cc) (cc) c.loop-row.yielded_by (c.in-Some.row, c.in-Some.above) c.in-Some.is c.next.ensures.steps in
    omega (arith, c.loop-row.invariant, deadline_load_le (question_of q) (length c.loop-row.yielded), q.sound.few, turn.0)

pub loop-row-preserved-then-above : goal.loop-row-preserved-then-above
loop-row-preserved-then-above c =
    let q = c.args.q.now in
    let place = length c.loop-row.yielded in
    let part = deadline_part (question_of q) in
    let turn = zip_turn q.rows.now q.above.now c.loop-row.yielded c.into_iter-row-iterator.result c.loop-row.row-iterator c.next.new.self c.next.result (cc) (cc) c.loop-row.yielded_by (c.in-Some.row, c.in-Some.above) c.in-Some.is c.next.ensures.steps in
    let one = row_read q.rows.now place c.in-Some.row.now turn.0 (turn.2 c.in-Some.row.now) in
    let deadline : c.deadline.result ≡ (own (question_of q)).deadline = cc in
    let load = deadline_part_lem (question_of q) (place + 1) c.in-Some.row.now c.deadline.result c.deadline-then-above.result c.carried_load-load.result one deadline c.deadline-then-above.ensures c.carried_load-load.ensures in
    let adds = cond-true _ (part (place + 1)) 0 (sym (turn.3 false) ∙ c.if-above.true) in
    let more = over_more q.above.now part place in
    let long = ap (sum_over q.above.now part) (length-append c.loop-row.yielded ((c.in-Some.row, c.in-Some.above) ∷ [])) in
    let inv = c.loop-row.invariant in
    omega (arith, load, adds, more, long, inv)

pub loop-row-preserved : goal.loop-row-preserved
loop-row-preserved c =
    let q = c.args.q.now in
    let place = length c.loop-row.yielded in
    let part = deadline_part (question_of q) in
    let turn = zip_turn q.rows.now q.above.now c.loop-row.yielded c.into_iter-row-iterator.result c.loop-row.row-iterator c.next.new.self c.next.result (cc) (cc) c.loop-row.yielded_by (c.in-Some.row, c.in-Some.above) c.in-Some.is c.next.ensures.steps in
    let adds = cond-false _ (part (place + 1)) 0 (sym (turn.3 false) ∙ c.if-above.false) in
    let more = over_more q.above.now part place in
    let long = ap (sum_over q.above.now part) (length-append c.loop-row.yielded ((c.in-Some.row, c.in-Some.above) ∷ [])) in
    let inv = c.loop-row.invariant in
    omega (arith, adds, more, long, inv)
