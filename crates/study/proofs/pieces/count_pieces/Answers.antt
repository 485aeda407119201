use Rattle.std.proofs.Common.{◌≡◌, length, ap, sym, ◌∙◌, arith}
use Rattle.study.specs.Pieces.{pieces}
use Rattle.study.proofs.Pieced.{count_none, count_more, count_same, count_most}
use Rattle.study.proofs.pieces.count_pieces.Goals as goal
use Rattle.study.proofs.pieces.count_pieces.Goals.{then-grown-place, else-grown-place}

pub loop-place-init : goal.loop-place-init
loop-place-init c = sym (count_none c.args.taken.now c.args.grown.now)

pub overflow_add-count : goal.overflow_add-count
overflow_add-count c = omega (arith, count_most c.args.taken.now c.args.grown.now c.loop-place.place, c.loop-place.invariant, c.requires, c.loop-place-test.true)

pub loop-place-preserved : goal.loop-place-preserved
loop-place-preserved c = elim c.if-grown-place.branch [
  | then-grown-place w ↦ omega (arith, w.count-is, c.loop-place.invariant, count_more c.args.taken.now c.args.grown.now c.loop-place.place w.if-grown-place.true)
  | else-grown-place w ↦ omega (arith, w.count-is, c.loop-place.invariant, count_same c.args.taken.now c.args.grown.now c.loop-place.place w.if-grown-place.false)
]

pub returns : goal.returns
returns c =
    let end : c.loop-place.place ≡ c.args.rows = omega arith in
    c.loop-place.invariant ∙ ap (λ n. length (pieces c.args.taken.now c.args.grown.now n)) end
