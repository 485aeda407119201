use Rattle.std.proofs.Common.{rules, ◌==◌, ◌≡◌, ap, sym, ◌∙◌, ◌-◌, nat_eq, [], ◌∷◌, arith, unwrap_or}
use Rattle.std.specs.List.{ends_with}
use Rattle.std.proofs.lemmas.Option.{unwrap_or-slice_get}
use Rattle.std.proofs.lemmas.Iterator.Consumers.{nth_from_yields_List}
use Rattle.std.proofs.lemmas.Iterator.Splits.{YieldsList-from_slice_split}
use borrow.Author.Tests.{tests}
use Rattle.table.proofs.Placed.{nth_at, nth_none}
use Rattle.table.specs.Places.{nth}
use Rattle.sheets.specs.Texts.{parts}
use Rattle.explain.specs.Explained.{ends_in_return}
use Rattle.explain.proofs.explanation.ends_in_return.Goals as goal

pub returns-then-line-eq0 : goal.returns-then-line-eq0
returns-then-line-eq0 c =
    ap (λ line. ends_with nat_eq line (13 ∷ [])) (sym (nth_none (parts 10 c.args.text.now) [])) ∙ ap (ends_in_return c.args.text.now) (sym c.if-line-eq0.true)

pub returns-in-Some : goal.returns-in-Some
returns-in-Some c =
    let text = c.args.text.now in
    let k = c.args.line in
    let found = nth_from_yields_List c.nth.result c.nth.new.self (k - 1) c.nth.ensures.ran (YieldsList-from_slice_split _ (λ b. b == 10) text c.split.ensures.rest c.split.ensures.done c.split.ensures.closure (λ x r q k. search (rules, tests))) in
    let part : c.in-Some.part.now ≡ nth (parts 10 text) k [] = ap (λ o. unwrap_or o []) (rw c.in-Some.is at found) ∙ unwrap_or-slice_get (parts 10 text) (k - 1) [] ∙ sym (nth_at (parts 10 text) k [] (omega arith)) in
    c.ends_with.ensures.value ∙ ap (λ line. ends_with nat_eq line (13 ∷ [])) part

pub returns-in-None : goal.returns-in-None
returns-in-None c =
    let text = c.args.text.now in
    let k = c.args.line in
    let found = nth_from_yields_List c.nth.result c.nth.new.self (k - 1) c.nth.ensures.ran (YieldsList-from_slice_split _ (λ b. b == 10) text c.split.ensures.rest c.split.ensures.done c.split.ensures.closure (λ x r q k. search (rules, tests))) in
    let part : [] ≡ nth (parts 10 text) k [] = ap (λ o. unwrap_or o []) (rw c.in-None.is at found) ∙ unwrap_or-slice_get (parts 10 text) (k - 1) [] ∙ sym (nth_at (parts 10 text) k [] (omega arith)) in
    ap (λ line. ends_with nat_eq line (13 ∷ [])) part
