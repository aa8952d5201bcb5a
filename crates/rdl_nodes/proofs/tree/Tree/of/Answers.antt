use Rattle.std.proofs.Common.{◌≡◌, ap, sym, ◌∙◌}
use Rattle.rdl_seen.proofs.KeptAt.{kept_are_nodes}
use Rattle.rdl_seen.specs.Meaning.{nothing_around, node_at}
use Rattle.rdl_seen.specs.Node.{Around, Walked, body_of}
use Rattle.rdl_nodes.specs.View.{slots_of}
use Rattle.rdl_nodes.proofs.tree.Tree.of.Goals as goal

pub returns-clause-nodes : goal.returns-clause-nodes
returns-clause-nodes g c = λ at m a there around n here.
    let lay = g.L.Lays.laying in
    let d = c.args.description.now.items in
    let slots : slots_of c.in_ok-walked.walked.slots.items ≡ (body_of lay nothing_around d).slots =
    ap (λ (w : Walked). w.slots) (c.in_ok-walked.ensures.walked ∙ ap (λ (x : Around). body_of lay x d) c.nothing-around.ensures) in
    kept_are_nodes lay d at m a there around n (ap (node_at at) (sym slots) ∙ here)
