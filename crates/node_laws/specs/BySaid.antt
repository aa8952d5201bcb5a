-- Layouts take of an instance neither its name nor its reset nor whether it is external.
use Rattle.std.proofs.Common.{◌≡◌, List, [], ◌∷◌, map, refl, ap, sym, ◌∙◌}
use Rattle.rdl_elab.specs.Layouts.{layout_values}
use Rattle.rdl_elab.specs.MadeOf.{layouts_made}
use Rattle.rdl_nodes.specs.Bare.{bare, GoesBySaid}
use Rattle.rdl_seen.specs.Layouts.{Member}
use Rattle.node_laws.specs.Laid.{value_in, each_of, seen_layouts, laying}

each_said : (ms : List Member) → map each_of (map bare ms) ≡ map each_of ms
each_said [] = refl
each_said (m ∷ ms) = ap (λ xs. each_of m ∷ xs) (each_said ms)

pub goes_by_said : GoesBySaid laying
unfolding laying
goes_by_said k v ms ns e =
    ap (λ xs. seen_layouts (layouts_made (record { kind = k; values = layout_values (value_in v); members = xs })))
    (sym (each_said ms) ∙ (ap (map each_of) e ∙ each_said ns))
