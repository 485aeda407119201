use Rattle.std.proofs.Common.{rules, ◌≡◌, ◌+◌, ◌-◌, ◌*◌, length, ap, ap₂, sym, ◌∙◌, arith}
use Rattle.study.specs.Slots.{written_over}
use Rattle.study.proofs.Overs.{over_over}
use Rattle.study.proofs.lists.write_slot.Goals as goal

pub returns : goal.returns
returns c =
    let r = c.args.range.now in
    let at = 64 * (c.args.k - 1) in
    let long : length r.lows ≡ 32 = search rules in
    c.write_part-2.ensures ∙ ap₂ (λ l b. written_over l b r.highs) c.write_part.ensures (ap (λ n. at + n) (sym long)) ∙ over_over c.args.list.now at r.lows (omega (arith, c.requires)) r.highs
