use Rattle.std.proofs.Common.{◌≡◌, ◌+◌, ◌<◌, IfSome, refl, ap, ◌∙◌, subst, arith, rules}
use Rattle.std.proofs.lemmas.List.{places}
use Rattle.std.specs.List.{remove}
use Rattle.table.specs.Rows.{view}
use Rattle.table.proofs.Asked.{met}
use Rattle.table.proofs.Moves.{turned}
use Rattle.table.proofs.rows.Rows+Row.remove.Goals as goal

pub returns : goal.returns
returns c =
    let t = c.args.self.now in
    let place = c.in_ok-place.place in
    let at = subst (λ r. IfSome r (λ p. (c.args.k ≡ p + 1) × (p < t.len))) c.in_ok-place.ensures.ok_part c.place_of.ensures.named in
    met (search rules) (
      refl,
      turned place t.len t.rows c.rotate_left.new.self at.1 (search rules) (search (rules, places)) (λ j d h. c.rotate_left.ensures.by_index.0 j d (search (rules, places)))
          ∙ ap (remove (view t)) (omega (arith, at.0)),
    )
