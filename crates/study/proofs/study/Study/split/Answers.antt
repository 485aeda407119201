use Rattle.std.proofs.Common.{ℕ, ◌+◌, ◌-◌, List, length, ap, subst, ◌∙◌, inl, inr, arith}
use Rattle.table.proofs.View.{few_rows}
use Rattle.study.specs.declared.state.State.TheVariants as state
use Rattle.study.specs.Moments.{moment}
use Rattle.study.specs.Pieces.{put_slots}
use Rattle.study.specs.Steps.{Leaves, recorded, pieces_of}
use Rattle.study.proofs.Pieced.{count_most}
use Rattle.study.proofs.Stepping.{counted_fits, pieces_at}
use Rattle.study.proofs.study.Study.split.Goals as goal

pub overflow_add-left : goal.overflow_add-left
overflow_add-left c =
    let s = c.args.self.now in
    omega (arith, s.counted.2, s.counted.3, c.count_pieces.ensures, count_most c.args.taken.now c.args.grown.now c.len-rows.result, c.len-rows.ensures.rows, few_rows s.table)

pub returns-then-self-room : goal.returns-then-self-room
returns-then-self-room c =
    let before = moment c.args.self.now c.args.ledger.now c.args.pending.now in
    let count = c.count_pieces.ensures ∙ ap length (pieces_at before c.args.taken.now c.args.grown.now _ c.requires.taken c.len-rows.ensures.rows) in (
      λ lacks. c.end.ensures c.args.ledger.now c.args.pending.now,
      λ fits. absurd (elim c.then-self-room.either [ inl no_ledger ↦ omega (arith, fits.0, no_ledger) | inr no_pending ↦ omega (arith, fits.1, no_pending, count) ]),
    )

pub returns : goal.returns
returns c =
    let s = c.args.self.now in
    let before = moment s c.args.ledger.now c.args.pending.now in
    let after = moment c.record.new.self c.record.new.ledger c.write_pieces.new.list in
    let is = pieces_at before c.args.taken.now c.args.grown.now _ c.requires.taken c.len-rows.ensures.rows in
    let count = c.count_pieces.ensures ∙ ap length is in
    let counted = counted_fits c.args.room before c.requires.runs in
    let left : ℕ → List ℕ → Type 0 = λ m p. Leaves before (record { state = state.Running c.args.room; ledger_count = s.ledger_count + 1; pending_count = m; ledger = recorded before c.args.grown.now; pending = p }) after in (
      λ lacks. absurd (lacks (omega (arith, counted.0, c.if-self-room.false), omega (arith, count, c.if-left-room.false))),
      λ fits.
          subst (λ p. left (s.pending_count - 1 + length (pieces_of before c.args.grown.now)) p) (c.write_pieces.ensures ∙ ap (put_slots c.args.pending.now s.pending_count) is)
          (subst (λ m. left m c.write_pieces.new.list) (ap (λ n. s.pending_count - 1 + n) count) (c.record.ensures c.args.pending.now c.write_pieces.new.list)),
    )
