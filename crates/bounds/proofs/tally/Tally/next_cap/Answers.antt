use Rattle.std.proofs.Common.{◌≡◌, ◌<◌, sym, subst, arith, rules}
use Rattle.bounds.proofs.Skips.{next_cap, next_rises, skips}
use Rattle.bounds.proofs.tally.Tally.next_cap.Goals as goal

pub returns : goal.returns
returns c =
    let next : c.max.result ≡ next_cap c.args.self c.args.m.count = search rules in
    let pos : 0 < c.args.m.count = omega (arith, c.args.m.ok) in
    record {
      rises = λ y h. subst (λ z. y < z) (sym next) (next_rises c.args.self c.args.m.count y pos h);
      skips = λ loads y tallied x from below. skips loads y c.args.self tallied c.args.m.count x pos from (subst (λ z. x < z) next below);
    }
