use Rattle.std.proofs.Common.{◌≡◌, ◌+◌, ◌<◌, IfSome, Ok, sym, ap, ◌∙◌, subst, rules}
use Rattle.std.proofs.lemmas.List.{get_or_default, get_or-take}
use Rattle.table.specs.Places.{nth}
use Rattle.table.specs.Rows.{view}
use Rattle.table.proofs.Asked.{met}
use Rattle.table.proofs.Placed.{nth_next}
use Rattle.table.proofs.rows.Rows+Row.row.Goals as goal

pub returns : goal.returns
returns c =
    let t = c.args.self.now in
    let place = c.in_ok-place.place in
    let at = subst (λ r. IfSome r (λ p. (c.args.k ≡ p + 1) × (p < t.len))) c.in_ok-place.ensures.ok_part c.place_of.ensures.named in
    met (search rules) (λ d. ap Ok (
    get_or_default t.rows place _ d (search rules)
    ∙ sym (get_or-take t.len t.rows place d at.1)
    ∙ sym (nth_next (view t) place d)
    ∙ ap (λ k. nth (view t) k d) (sym at.0)))
