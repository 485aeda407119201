use Rattle.std.proofs.Common.{◌≡◌, ℕ, ◌+◌, List, set, ap, sym, subst, ◌∙◌, arith}
use Rattle.study.specs.Pieces.{pieces, put_slots}
use Rattle.study.proofs.Pieced.{Written, count_most, count_below, written_none, written_given, written_not}
use Rattle.study.proofs.pieces.write_pieces.Goals as goal
use Rattle.study.proofs.pieces.write_pieces.Goals.{then-high-taken, else-high-taken}

pub loop-place-init : goal.loop-place-init
loop-place-init c = written_none c.args.taken.now c.args.grown.now c.args.list.now c.args.k

pub write_slot-requires : goal.write_slot-requires
write_slot-requires c =
    let here = c.loop-place.invariant.place_is in
    let more = count_below c.args.taken.now c.args.grown.now c.args.list.now c.args.k c.loop-place.place c.args.rows c.loop-place-test.true c.if-high-taken.true in
    (omega (arith, here, c.requires.room.0), omega (arith, here, more, c.requires.room.0, c.requires.room.1, c.loop-place.auto.list))

pub overflow_add-slot : goal.overflow_add-slot
overflow_add-slot c = omega (arith, c.loop-place.invariant.place_is, count_most c.args.taken.now c.args.grown.now c.loop-place.place, c.loop-place-test.true, c.requires.few.0, c.requires.few.1)

pub loop-place-preserved : goal.loop-place-preserved
loop-place-preserved c =
    let taken = c.args.taken.now in
    let grown = c.args.grown.now in
    let so_far = c.loop-place.invariant in
    let next : List ℕ → ℕ → Type 0 = λ now slot. Written taken grown c.args.list.now c.args.k (c.loop-place.place + 1) now slot (record { lows = c.loop-place.cut.lows; highs = set c.loop-place.cut.highs c.loop-place.place c.min.result }) in
    elim c.if-high-taken.branch [
      | then-high-taken w ↦
          let on = written_given taken grown c.args.list.now c.args.k c.loop-place.place c.loop-place.list c.loop-place.slot c.loop-place.cut so_far w.write_slot.new.list c.min.result c.min.ensures w.if-high-taken.true w.write_slot.ensures in
          subst (λ slot. next c.if-high-taken.list slot) (sym w.slot-is) (subst (λ now. next now (c.loop-place.slot + 1)) (sym w.list-is) on)
      | else-high-taken w ↦
          let on = written_not taken grown c.args.list.now c.args.k c.loop-place.place c.loop-place.list c.loop-place.slot c.loop-place.cut so_far c.min.result c.min.ensures w.if-high-taken.false in
          subst (λ slot. next c.if-high-taken.list slot) (sym w.slot-is) (subst (λ now. next now c.loop-place.slot) (sym w.list-is) on)
    ]

pub returns : goal.returns
returns c =
    let end : c.loop-place.place ≡ c.args.rows = omega arith in
    c.loop-place.invariant.put ∙ ap (λ n. put_slots c.args.list.now c.args.k (pieces c.args.taken.now c.args.grown.now n)) end
