use Rattle.std.proofs.Common.{map, sym, ◌∙◌}
use Rattle.rdl_nodes.specs.Part.{member_of}
use Rattle.node_laws.proofs.AsLaid.{sizes_are, one_laid, if_ok}
use Rattle.node_laws.proofs.lays.small_layouts.Goals as goal

pub returns-then-are_of_one_size : goal.returns-then-are_of_one_size
returns-then-are_of_one_size c =
    let one = sym (sizes_are c.args.parts.now) ∙ (sym c.are_of_one_size.ensures ∙ c.if-are_of_one_size.true) in
    if_ok c.one_layout.result (λ x e. e ∙ one_laid c.args.kind c.args.values (map member_of c.args.parts.now) c.requires.kind one) c.one_layout.ensures
