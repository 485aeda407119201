use Rattle.std.proofs.Common.{◌≡◌, ℕ, ◌+◌, ◌-◌, ◌<◌, List, [], length, get_or, set, refl, sym, ap, subst, ◌∙◌, arith}
use Rattle.std.proofs.lemmas.List.{map-set, length-map, length-set}
use Rattle.table.specs.Places.{nth}
use Rattle.table.proofs.Placed.{nth_at, nth_next, nth_replicate}
use Rattle.sheets.specs.declared.form.Form.TheVariants.{Tasks}
use Rattle.sheets.specs.declared.form.Column.TheVariants.{Task}
use Rattle.sheets.specs.Pairs.{task_of}
use Rattle.marking.specs.declared.report.Level.{Level}
use Rattle.marking.specs.Reports.{names_of, estimates_of, LevelsOf, BlankPast}
use Rattle.marking.proofs.Full.{task_there, has_field}
use Rattle.marking.proofs.Levelled.{levels_more, blank_more, no_levels, task_row}
use Rattle.marking.proofs.shown.levels_of.Goals as goal

pub loop-i-init : goal.loop-i-init
loop-i-init c = record {
  levels = no_levels c.args.tasks.now c.args.finding.now _ _;
  rest = λ k past. (nth_replicate {A = List ℕ} 32 [] k, nth_replicate {A = ℕ} 32 0 k);
  many = refl;
}

pub field-requires : goal.field-requires
field-requires c =
    let row = task_row c.args.tasks.now c.args.finding.now.order c.requires.order c.loop-i.i (omega (arith, c.len-i-end.ensures.count)) in
    has_field c.args.tasks.now Tasks c.requires.tasks.0 c.requires.tasks.1 Task task_there (get_or c.args.finding.now.order c.loop-i.i 0) row.0 row.1

pub overflow_sub-levels : goal.overflow_sub-levels
overflow_sub-levels c = (task_row c.args.tasks.now c.args.finding.now.order c.requires.order c.loop-i.i (omega (arith, c.len-i-end.ensures.count))).0

pub bounds-finding-task : goal.bounds-finding-task
bounds-finding-task c = let row = task_row c.args.tasks.now c.args.finding.now.order c.requires.order c.loop-i.i (omega (arith, c.len-i-end.ensures.count)) in omega (arith, row.0, row.1, c.len-i-end.ensures.few, c.len-i-end.ensures.count)

pub loop-i-preserved : goal.loop-i-preserved
loop-i-preserved c =
    let tasks = c.args.tasks.now in
    let f = c.args.finding.now in
    let i = c.loop-i.i in
    let task = get_or f.order i 0 in
    let row = task_row tasks f.order c.requires.order i (omega (arith, c.len-i-end.ensures.count)) in
    let name = c.field.result.bytes.now in
    let estimate = get_or f.estimates (task - 1) 0 in
    let level : Level = record { task = c.field.result.bytes; estimate = estimate } in
    let levels = c.loop-i.levels in
    let more = set levels i level in
    let names = names_of levels in
    let estimates = estimates_of levels in
    let named : names_of more ≡ set names i name = map-set (λ (l : Level). l.task.now) levels i level in
    let estimated : estimates_of more ≡ set estimates i estimate = map-set (λ (l : Level). l.estimate) levels i level in
    let many : i < length names = omega (arith, length-map levels (λ (l : Level). l.task.now), c.loop-i.invariant.many, c.len-i-end.ensures.few) in
    let size : i < length estimates = omega (arith, length-map levels (λ (l : Level). l.estimate), c.loop-i.invariant.many, c.len-i-end.ensures.few) in
    let shown = levels_more tasks f i names estimates name estimate many size c.loop-i.invariant.levels
    (c.field.ensures.bytes ∙ ap (task_of tasks) (sym (nth_next f.order i 0)))
    (sym (nth_at f.estimates task 0 row.0) ∙ ap (λ k. nth f.estimates k 0) (sym (nth_next f.order i 0))) in
    let rest = blank_more tasks f i names estimates name estimate many size c.loop-i.invariant.rest in
    record {
      levels = subst (λ n. LevelsOf tasks f (i + 1) n (estimates_of more)) (sym named) (subst (λ e. LevelsOf tasks f (i + 1) (set names i name) e) (sym estimated) shown);
      rest = subst (λ n. BlankPast (i + 1) n (estimates_of more)) (sym named) (subst (λ e. BlankPast (i + 1) (set names i name) e) (sym estimated) rest);
      many = length-set levels _ _ ∙ c.loop-i.invariant.many;
    }
