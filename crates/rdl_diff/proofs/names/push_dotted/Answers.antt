use Rattle.std.proofs.Common.{◌++◌, ap, sym, ◌∙◌, arith, codes, flat_map, string_bytes}
use Rattle.std.proofs.lemmas.List.{take_all}
use Rattle.std.proofs.lemmas.List.Folds.{flat_map-map}
use Rattle.rdl_diff.proofs.names.push_dotted.Goals as goal

pub returns : goal.returns
returns c =
    let names = c.args.names.now in
    c.names.invariant
    ∙ (λ i. string_bytes c.args.text.now ++ flat_map (λ n. codes "." ++ n.now) (take_all c.names.name-index names (omega (arith, c.names-test.false)) i))
    ∙ ap (λ t. string_bytes c.args.text.now ++ t) (sym (flat_map-map (λ u. codes "." ++ u) (λ n. n.now) names))
