use Rattle.std.proofs.Common.{◌≡◌, ◌+◌, ◌≤◌, min, get_or, take, sym, subst, arith, rules}
use Rattle.std.proofs.lemmas.List.{length-take-le}
use Rattle.bounds.specs.declared.tally.Tally.{Tally}
use Rattle.bounds.specs.Climbs.{Tallied}
use Rattle.bounds.proofs.Tallies.{tallied_none, tallied_big, tallied_small, tallied_past, tally_limits}
use Rattle.bounds.proofs.tally.Tally.of.Goals as goal
use Rattle.bounds.proofs.tally.Tally.of.Goals.{then-load-cap, else-load-cap}

pub loop-load-init : goal.loop-load-init
loop-load-init c = (tallied_none (take c.args.rows c.args.loads.now) c.args.cap, omega arith)

pub overflow_add-tally : goal.overflow_add-tally
overflow_add-tally c = omega (arith, tally_limits (take c.args.rows c.args.loads.now) c.loop-load.load-index c.args.cap c.loop-load.tally c.loop-load.invariant.0 c.requires.short, c.requires.short)

pub overflow_add-tally-then-load-cap : goal.overflow_add-tally-then-load-cap
overflow_add-tally-then-load-cap c = omega (arith, tally_limits (take c.args.rows c.args.loads.now) c.loop-load.load-index c.args.cap c.loop-load.tally c.loop-load.invariant.0 c.requires.short)

pub overflow_add-tally-else-load-cap : goal.overflow_add-tally-else-load-cap
overflow_add-tally-else-load-cap c = omega (arith, tally_limits (take c.args.rows c.args.loads.now) c.loop-load.load-index c.args.cap c.loop-load.tally c.loop-load.invariant.0 c.requires.short, c.requires.short)

pub overflow_add-tally-else-load-cap-2 : goal.overflow_add-tally-else-load-cap-2
overflow_add-tally-else-load-cap-2 c = omega (arith, tally_limits (take c.args.rows c.args.loads.now) c.loop-load.load-index c.args.cap c.loop-load.tally c.loop-load.invariant.0 c.requires.short, c.requires.short)

pub loop-load-preserved : goal.loop-load-preserved
loop-load-preserved c =
    let loads = take c.args.rows c.args.loads.now in
    let p = c.loop-load.load-index in
    let y = c.args.cap in
    let t = c.loop-load.tally in
    let turn : Tally → Type 0 = λ u. Tallied loads (p + 1) y u × (u.least ≤ 2000000) in
    elim c.if-load-cap.branch [
      | then-load-cap w ↦
          let least : w.min.result ≡ min t.least (get_or loads p 0) = search rules in
          subst turn (sym w.tally-is) (tallied_big loads p y t c.loop-load.invariant.0 w.min.result least w.if-load-cap.true, omega (arith, least, c.loop-load.invariant.1))
      | else-load-cap w ↦ subst turn (sym w.tally-is) (tallied_small loads p y t c.loop-load.invariant.0 w.if-load-cap.false, c.loop-load.invariant.1)
    ]

pub returns-clause-limits : goal.returns-clause-limits
returns-clause-limits c =
    let limits = tally_limits (take c.args.rows c.args.loads.now) c.loop-load.load-index c.args.cap c.loop-load.tally c.loop-load.invariant.0 c.requires.short in
    (omega (arith, limits.0), c.loop-load.invariant.1, omega (arith, limits.2))

pub returns-clause-sums : goal.returns-clause-sums
returns-clause-sums c =
    let loads = c.args.loads.now in
    let end : c.loop-load.load-index ≡ c.args.rows = omega (arith, length-take-le c.args.rows loads (omega (arith, c.requires.few))) in
    tallied_past loads c.args.rows c.args.cap c.loop-load.tally c.requires.few c.requires.past (subst (λ n. Tallied (take c.args.rows loads) n c.args.cap c.loop-load.tally) end c.loop-load.invariant.0)
