use Rattle.std.proofs.Common.{ap, ◌≡◌, codes, inl, inr, refl, rules}
use Rattle.std.proofs.lemmas.Slice.Eq.{text_from_reads}
use Rattle.bounds.specs.declared.processors.Processors.{Processors}
use Rattle.table.proofs.Asked.{met}
use Rattle.bounds.proofs.named.NamedTest.new.Goals as goal

pub returns-in-da : goal.returns-in-da
returns-in-da c =
    let name : c.args.name.now ≡ codes "da" = text_from_reads _ _ (search rules) (search rules) in
    met (inl name) (_, refl, (name, ap (λ (p : Processors). p.count) c.new.ensures.made))

pub returns-in-rta : goal.returns-in-rta
returns-in-rta c =
    let name : c.args.name.now ≡ codes "rta" = text_from_reads _ _ (search rules) (search rules) in
    met (inr (inl name)) (_, refl, (name, ap (λ (p : Processors). p.count) c.new-in-rta.ensures.made))

pub returns-in-lc : goal.returns-in-lc
returns-in-lc c =
    let name : c.args.name.now ≡ codes "lc" = text_from_reads _ _ (search rules) (search rules) in
    met (inr (inr name)) (_, refl, (name, ap (λ (p : Processors). p.count) c.new-in-lc.ensures.made))
