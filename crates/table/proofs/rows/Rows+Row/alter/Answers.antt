use Rattle.std.proofs.Common.{◌≡◌, ℕ, ◌-◌, ◌≤◌, length, IfSome, refl, subst}
use Rattle.table.specs.declared.row.Row.{Row}
use Rattle.table.specs.Places.{put}
use Rattle.table.specs.Rows.{view, with_row}
use Rattle.table.proofs.Asked.{met}
use Rattle.table.proofs.Made.{makes_row}
use Rattle.table.proofs.rows.Rows+Row.alter.Goals as goal

pub returns : goal.returns
returns c =
    let t = c.args.self.now in
    let k : ℕ = c.args.k in
    let new = c.in_ok-row-2.field-0 in
    let some = c.in_ok-row.ensures.ok_part in
    met (subst (λ r. IfSome r (λ _. (1 ≤ k) × (k ≤ length (view t)))) some c.row_mut.ensures.named)
    (makes_row c.args.numbers new c.in_ok-row-2.ensures
    (refl, subst (λ r. IfSome r (λ _. (w : Row) → view (with_row t (k - 1) w) ≡ put (view t) k w)) some c.row_mut.ensures.rows new))
