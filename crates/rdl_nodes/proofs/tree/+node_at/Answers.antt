use Rattle.std.proofs.Common.{◌-◌, length, take, drop, ap, sym, ◌∙◌}
use Rattle.std.specs.Prelude.{option_map}
use Rattle.rdl_seen.specs.Meaning.{node_at}
use Rattle.rdl_nodes.specs.KeptNode.{kept_of}
use Rattle.rdl_nodes.specs.View.{slots_of}
use Rattle.rdl_nodes.proofs.Paths.{deeper}
use Rattle.rdl_nodes.proofs.tree.+node_at.Goals as goal

pub returns-in-Some : goal.returns-in-Some
returns-in-Some t c =
    let path = c.args.path.now in
    let here = sym c.kept_at-in-len1-up.ensures ∙ ap (option_map kept_of) c.in-Some.is in
    c.node_at.ensures
    ∙ ap (node_at (take (length path - 1) (drop 1 path))) c.slots.ensures
    ∙ deeper path (slots_of c.args.slots.now) (kept_of c.in-Some.kept) c.in-len1-up.len_at_least here
