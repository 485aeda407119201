use Rattle.std.proofs.Common.{◌≡◌, ◌*◌, sym, ap, arith}
use Rattle.bounds.specs.Questions.{own}
use Rattle.bounds.specs.Posing.{question_of}
use Rattle.bounds.specs.Climbs.{loads}
use Rattle.bounds.proofs.UncappedLoads.{never_falls}
use Rattle.bounds.proofs.Skips.{passed_all, turn_found, turn_passed}
use Rattle.bounds.proofs.climb.least_window.Goals as goal

pub returns-then-tally-count-clause-found : goal.returns-then-tally-count-clause-found
returns-then-tally-count-clause-found c =
    let q = question_of c.args.q.now in
    let load = loads c.args.limit q in
    let wcet : c.wcet-wcet.result ≡ (own q).wcet = cc in
    let deadline : c.deadline.result ≡ (own q).deadline = cc in
    turn_found c.args.m.count (omega (arith, c.args.m.ok)) (own q) load c.loop-cap.cap c.loop-cap.invariant.0 c.loop-cap.invariant.1
    c.wcet-wcet.result wcet c.uncapped_loads-loads.result c.of-tally.result c.uncapped_loads-loads.ensures.uncapped c.of-tally.ensures.sums
    (omega (arith, c.loop-cap-test.true, wcet, deadline))
    (omega (arith, c.if-tally-count.true, ap (λ n. n * c.loop-cap.cap) c.count.ensures))

pub returns-then-tally-count-clause-rises : goal.returns-then-tally-count-clause-rises
returns-then-tally-count-clause-rises c = never_falls c.args.limit (question_of c.args.q.now) c.args.q.now.sound

pub loop-cap-preserved : goal.loop-cap-preserved
loop-cap-preserved c =
    let q = question_of c.args.q.now in
    let load = loads c.args.limit q in
    let wcet : c.wcet-wcet.result ≡ (own q).wcet = cc in
    let next = c.next_cap-cap.ensures in (
      omega (arith, next.rises 0 (omega arith)),
      turn_passed c.args.m.count (omega (arith, c.args.m.ok)) (own q) load c.loop-cap.cap c.loop-cap.invariant.0 c.loop-cap.invariant.1
          c.wcet-wcet.result wcet c.uncapped_loads-loads.result c.of-tally.result c.uncapped_loads-loads.ensures.uncapped c.of-tally.ensures.sums
          c.next_cap-cap.result (next.skips c.uncapped_loads-loads.result c.loop-cap.cap c.of-tally.ensures.sums),
    )

pub returns-clause-found : goal.returns-clause-found
returns-clause-found c =
    let q = question_of c.args.q.now in
    let load = loads c.args.limit q in
    let wcet : c.wcet-wcet.result ≡ (own q).wcet = cc in
    let deadline : c.deadline.result ≡ (own q).deadline = cc in
    sym (passed_all c.args.m.count (omega (arith, c.args.m.ok)) (own q) load c.loop-cap.cap c.loop-cap.invariant.0 c.loop-cap.invariant.1
    (omega (arith, c.loop-cap-test.false, wcet, deadline)))

pub returns-clause-rises : goal.returns-clause-rises
returns-clause-rises c = never_falls c.args.limit (question_of c.args.q.now) c.args.q.now.sound
