use Rattle.std.proofs.Common.{◌≡◌, ℕ, ◌-◌, ◌≤◌, ◌⊎◌, List, get_or, set, sym, ap, ◌∙◌, inl, arith, rules}
use native.Mathlib.Bridge.{le_prop}
use mathlib.Core.Path.{fun_ext}
use lib.Seq.{take-set-lt, set-get_or}
use Rattle.std.proofs.lemmas.List.{get_or_default, get_or-take}
use Rattle.table.specs.declared.rows.Rows.{Rows}
use Rattle.table.specs.Rows.{view, with_row}
use Rattle.table.proofs.Placed.{nth_at, put_at}
use Rattle.table.proofs.rows.Rows.row_mut.Goals as goal

abbrev made : {X : Type 0} (t : Rows X) → List X → t.len ≤ 32 → Rows X
made t rows ok = record { rows = rows; len = t.len; ok = ok }

-- of an order there is one proof at most, so two tables of the same rows are one
same_loan : {G X Y : Type 0} (name : G) (t : Rows X) (a : X → t.len ≤ 32) (place k : ℕ) → place ≡ k - 1 → ◌≡◌ {A = (G × (X → Rows X)) ⊎ Y} (inl (name, λ w. made t (set t.rows place w) (a w))) (inl (name, with_row t (k - 1)))
same_loan {G} {X} {Y} name t a place k is =
    let lent : (X → Rows X) → (G × (X → Rows X)) ⊎ Y = λ f. inl (name, f) in
    ap lent (fun_ext (λ w. ap (made t (set t.rows place w)) (le_prop (a w) t.ok))) ∙ ap (λ p. lent (with_row t p)) is

pub returns : goal.returns
returns g c =
    let t : Rows g.row.X.Denot = c.args.self.now in
    let k : ℕ = c.args.k in
    let place = c.in_ok-place.place in
    let is : place ≡ k - 1 = omega (arith, c.in_ok-place.ensures.named.0) in (
      same_loan _ t _ place k is,
      record {
        follows = tt;
        value = λ d.
            get_or_default t.rows place _ d (search rules) ∙ sym (get_or-take t.len t.rows place d (search rules))
            ∙ ap (λ p. get_or (view t) p d) is
            ∙ sym (nth_at (view t) k d (search rules));
        same = ap (λ p. with_row t p (get_or t.rows place c.index-self-place.result)) (sym is) ∙ ap (λ rows. made t rows t.ok) (set-get_or t.rows place c.index-self-place.result);
        rows = λ w. take-set-lt t.len t.rows (k - 1) w (search rules) ∙ sym (put_at (view t) k w (search rules));
        named = search rules;
        none = tt;
      },
    )
