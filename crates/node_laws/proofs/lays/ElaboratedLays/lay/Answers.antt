use Rattle.std.proofs.Common.{◌≡◌, map, ap, ◌∙◌, rules}
use Rattle.std.specs.Prelude.{true}
use Rattle.rdl_nodes.specs.Part.{member_of}
use Rattle.node_laws.specs.Laying.{is_small, one_by, each_by}
use Rattle.node_laws.proofs.AsLaid.{each_laid, small_laid, map_laid, if_ok}
use Rattle.node_laws.proofs.lays.ElaboratedLays.lay.Goals as goal

pub returns-in-Addrmap : goal.returns-in-Addrmap
returns-in-Addrmap c =
    let k = c.args.kind in
    let ms = map member_of c.args.parts.now in
    let values = c.layout_values-values.ensures.values in
    if_ok c.one_layout.result (λ x e. e ∙ (ap (λ v. one_by k v v.addressing ms) values ∙ map_laid k c.args.values.now ms c.in-Addrmap.is)) c.one_layout.ensures

pub returns-in-Regfile : goal.returns-in-Regfile
returns-in-Regfile c =
    let k = c.args.kind in
    let ms = map member_of c.args.parts.now in
    let values = c.layout_values-values.ensures.values in
    if_ok c.each_layout.result (λ x e. e ∙ (ap (λ v. each_by k v ms) values ∙ each_laid k c.args.values.now ms c.in-Regfile.is)) c.each_layout.ensures

pub returns-in-Reg : goal.returns-in-Reg
returns-in-Reg c =
    let k = c.args.kind in
    let ms = map member_of c.args.parts.now in
    let values = c.layout_values-values.ensures.values in
    let small : is_small k ≡ true = search rules in
    if_ok c.small_layouts.result (λ x e. e ∙ (ap (λ v. each_by k v ms) values ∙ small_laid k c.args.values.now ms small)) c.small_layouts.ensures
