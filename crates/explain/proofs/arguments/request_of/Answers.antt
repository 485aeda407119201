use Rattle.std.proofs.Common.{[], ◌∷◌, map, string_bytes, codes, sym, ap, ◌∙◌}
use Rattle.std.proofs.lemmas.Slice.Eq.{bytes_eq-Decides}
use Rattle.explain.proofs.Sole.{sole}
use Rattle.explain.proofs.arguments.request_of.Goals as goal

pub returns-in-len1 : goal.returns-in-len1
returns-in-len1 c =
    ap (λ l. map (λ argument. string_bytes argument) l) (sole c.args.arguments.now c.only-item.result c.in-len1.len_at_least c.in-len1.len_below c.only-item.is)
    ∙ ap (λ text. text ∷ []) (sym c.as_str.ensures.value ∙ (bytes_eq-Decides c.as_str.result.now (codes "--explain")).0 (sym c.eq.ensures ∙ c.if-eq.true))
