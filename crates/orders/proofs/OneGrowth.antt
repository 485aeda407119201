-- A range grows to one range.
use Rattle.std.proofs.Common.{◌≡◌, ℕ, suc, List, sym, refl, ap, subst, ◌∙◌, inl, inr, arith}
use Rattle.std.proofs.lemmas.Bool.{cases_lt}
use Rattle.table.specs.declared.row.Row.{Row}
use Rattle.orders.specs.declared.range.Range.{Range}
use Rattle.orders.specs.declared.end.End.{End}
use Rattle.orders.specs.declared.end.End.TheVariants.{Low, High}
use Rattle.orders.specs.Ranges.{Closed}
use Rattle.orders.specs.Growth.{moved, EndGrown, GrownTo, start, next}
use Rattle.bounds.specs.Questions.{Meaning}

module _ (meaning : Meaning) (rows : List Row) where
  one_end : (end : End) (r : Range) (k : ℕ) (p q : Range) → EndGrown meaning rows end r k p → EndGrown meaning rows end r k q → p ≡ q
  one_end end r k p q a b =
      let shut : (x : Range) (g : EndGrown meaning rows end r k x) → Closed meaning rows (moved end r k g.by) = λ x g. subst (Closed meaning rows) g.is g.closed in
      elim (cases_lt a.by b.by) [
        | inl less ↦ absurd (a.farther b.by less b.inside (shut q b))
        | inr more ↦ elim (cases_lt b.by a.by) [
          | inl less ↦ absurd (b.farther a.by less a.inside (shut p a))
          | inr same ↦ let e : a.by ≡ b.by = omega arith in a.is ∙ ap (moved end r k) e ∙ sym b.is
        ]
      ]

  pub one_growth : (r : Range) {k : ℕ} {p q : Range} → GrownTo meaning rows r k p → GrownTo meaning rows r k q → p ≡ q
  one_growth r start start = refl
  one_growth r (next {k} {before} {lower} {after = p} a al ah) (next {before = before'} {lower = lower'} {after = q} b bl bh) =
      let same = sym (one_growth r a b) in
      let low = one_end Low before (suc k) lower lower' al (subst (λ x. EndGrown meaning rows Low x (suc k) lower') same bl) in
      one_end High lower (suc k) p q ah (subst (λ x. EndGrown meaning rows High x (suc k) q) (sym low) bh)
