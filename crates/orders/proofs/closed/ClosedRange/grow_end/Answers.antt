use Rattle.std.proofs.Common.{◌≡◌, ℕ, ◌+◌, ◌-◌, ◌^◌, inl, inr, refl, sym, ap, ◌∙◌, subst, arith}
use Rattle.table.specs.Rows.{view}
use Rattle.table.proofs.View.{few_rows}
use Rattle.orders.specs.Growth.{reach, moved}
use Rattle.orders.specs.Ranges.{Closed}
use Rattle.orders.proofs.Grows.{MovedOut, narrowed, out_none, short, left_in_reach, out_more, out_less, end_grown}
use Rattle.orders.proofs.closed.ClosedRange.grow_end.Goals as goal
use Rattle.orders.proofs.closed.ClosedRange.grow_end.Goals.{in-Ok, in-Err}

pub loop-round-init : goal.loop-round-init
loop-round-init g c =
    let s = c.args.self in
    let rows = view s.range.table.now in
    let out = out_none (g.met.T.Test.kept s.test.now) rows (few_rows s.range.table.now) c.args.end s.range.ends s.range.within c.args.place c.requires in
    let few = short (g.met.T.Test.kept s.test.now) rows (few_rows s.range.table.now) c.args.end s.range.ends s.range.within c.args.place c.requires in
    (refl, refl, subst (λ left. MovedOut (g.T.Test.answer s.test.now) rows c.args.end s.range.ends (c.args.place + 1) left s.range.ends) (sym c.reach-left.ensures) out, omega (arith, few, c.reach-left.ensures))

pub moved-wider-requires-clause-short : goal.moved-wider-requires-clause-short
moved-wider-requires-clause-short g c =
    let s = c.args.self in
    let q = c.loop-round.grown.range.ends in
    let inside = left_in_reach (g.met.T.Test.kept s.test.now) (view s.range.table.now) (few_rows s.range.table.now) c.args.end s.range.ends s.range.within c.args.place c.requires c.loop-round.left q c.loop-round.invariant.2 in
    let same = ap (λ t. reach c.args.end (view t) q (c.args.place + 1)) c.loop-round.invariant.1 in
    omega (arith, c.tried_in-tried.ensures.within.0, c.tried_in-tried.ensures.within.1)

pub loop-round-preserved : goal.loop-round-preserved
loop-round-preserved g c =
    let s = c.args.self in
    let rows = view s.range.table.now in
    let q = c.loop-round.grown.range.ends in
    let tried = c.tried_in-tried.result in
    let wider = moved c.args.end q (c.args.place + 1) tried in
    let less = λ (rest : ℕ). narrowed c.loop-round.round c.loop-round.left tried rest c.loop-round-test.true c.loop-round.invariant.3 c.tried_in-tried.ensures.within.0 c.tried_in-tried.ensures.within.1 c.tried_in-tried.ensures.halves in
    elim c.match-new.branch [
      | in-Ok w ↦
          let made = w.in-Ok.ensures.ok in
          let out = out_more (g.met.T.Test.kept s.test.now) rows (few_rows s.range.table.now) c.args.end s.range.ends s.range.within c.args.place c.requires c.loop-round.left tried q w.in-Ok.wider.range.ends c.loop-round.invariant.2 (omega (arith, c.tried_in-tried.ensures.within.0, c.tried_in-tried.ensures.within.1)) (made.2 ∙ c.moved-wider.ensures.ends) in
          rw (w.grown-is, w.left-is) (made.0 ∙ c.loop-round.invariant.0, made.1 ∙ c.moved-wider.ensures.table ∙ c.loop-round.invariant.1, out, less _ (inl refl))
      | in-Err w ↦
          let opened : Closed (g.T.Test.answer s.test.now) rows wider → ⊥ = rw (c.moved-wider.ensures.ends, c.moved-wider.ensures.table, c.loop-round.invariant.0, c.loop-round.invariant.1) at w.in-Err.ensures.err.2 in
          let out = out_less (g.met.T.Test.kept s.test.now) rows (few_rows s.range.table.now) c.args.end s.range.ends s.range.within c.args.place c.requires c.loop-round.left tried q c.loop-round.invariant.2 (omega (arith, c.tried_in-tried.ensures.within.0, c.tried_in-tried.ensures.within.1)) (omega (arith, c.tried_in-tried.ensures.within.0, c.tried_in-tried.ensures.within.1)) opened in
          rw (w.grown-is, w.left-is) (c.loop-round.invariant.0, c.loop-round.invariant.1, out, less _ (inr refl))
    ]

pub returns-then-left-eq0-clause-grown : goal.returns-then-left-eq0-clause-grown
returns-then-left-eq0-clause-grown g c =
    let s = c.args.self in
    let q = c.loop-round.grown in
    let shut : Closed (g.T.Test.answer s.test.now) (view s.range.table.now) q.range.ends = rw (c.loop-round.invariant.0, c.loop-round.invariant.1) at q.closed in
    end_grown (g.met.T.Test.kept s.test.now) (view s.range.table.now) (few_rows s.range.table.now) c.args.end s.range.ends s.range.within c.args.place c.requires c.loop-round.left q.range.ends c.loop-round.invariant.2 c.if-left-eq0.true shut

pub returns-clause-grown : goal.returns-clause-grown
returns-clause-grown g c =
    let s = c.args.self in
    let q = c.loop-round.grown in
    let last : c.loop-round.round ≡ 23 = omega (arith, c.loop-round-test.false) in
    let none : c.loop-round.left ≡ 0 = omega (arith, c.loop-round.invariant.3, ap (λ n. 2 ^ (20 - (n - 3))) last) in
    let shut : Closed (g.T.Test.answer s.test.now) (view s.range.table.now) q.range.ends = rw (c.loop-round.invariant.0, c.loop-round.invariant.1) at q.closed in
    end_grown (g.met.T.Test.kept s.test.now) (view s.range.table.now) (few_rows s.range.table.now) c.args.end s.range.ends s.range.within c.args.place c.requires c.loop-round.left q.range.ends c.loop-round.invariant.2 none shut
