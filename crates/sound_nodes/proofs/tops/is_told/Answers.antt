use Rattle.std.proofs.Common.{◌≡◌, ℕ, List, ◌∷◌, [], ◌++◌, Some, sym, ap, ◌∙◌, option_copied}
use Rattle.rdl_elab.specs.Faults.{top_from}
use Rattle.rdl_elab.specs.Rows.{rows_of}
use Rattle.rdl_nodes.specs.KeptNode.{kept_of}
use Rattle.rdl_seen.specs.Meaning.{nothing_around, node_at}
use Rattle.rdl_seen.specs.Node.{body_of}
use Rattle.node_laws.specs.Laid.{laying}
use Rattle.sound_nodes.proofs.Nodes.{sound_top_is_its_rows}
use Rattle.sound_nodes.proofs.TopsFound.{top_stands}
use Rattle.sound_nodes.proofs.tops.is_told.Goals as goal

pub returns-then-has : goal.returns-then-has
returns-then-has c e =
    let d = c.args.description.now.items in
    let wanted = option_copied c.args.wanted in
    let top : ℕ × List ℕ = (c.top.inside.number, c.top.inside.name.now) in
    let found : top_from wanted 0 d ≡ Some top = sym c.in-Some.ensures ∙ ap Some (sym c.top.view_is) in
    let stands = top_stands d wanted top.0 top.1 found in
    let address = c.push.ensures ∙ ap (λ a. a ++ top.0 ∷ []) c.new-address.ensures in
    let kept : node_at (top.0 ∷ []) (body_of laying nothing_around d).slots ≡ Some (kept_of c.in-Some-node.kept) =
    sym (c.in-Some-node.ensures ∙ (λ i. node_at (address i) (c.requires.kept i))) in
    record {
      rows = rows_of d top.1 stands.0;
      are =
          sound_top_is_its_rows d wanted top stands.0 (kept_of c.in-Some-node.kept) c.requires.faultless found stands.1 kept (sym c.has.ensures ∙ c.if-has.true)
          (sym c.is_within.ensures ∙ e);
    }
