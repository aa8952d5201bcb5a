use Rattle.std.proofs.Common.{◌≡◌, ℕ, ◌+◌, List, ◌∷◌, [], ◌++◌, Some, false, sym, ap, subst, ◌∙◌, option_copied}
use Rattle.rdl_elab.specs.Faults.{top_from}
use Rattle.rdl_nodes.specs.KeptNode.{kept_of}
use Rattle.rdl_seen.specs.declared.mode.Mode.TheVariants.{Regalign}
use Rattle.rdl_seen.specs.Meaning.{nothing_around, node_at}
use Rattle.rdl_seen.specs.Node.{body_of}
use Rattle.node_laws.specs.Laid.{laying}
use Rattle.node_laws.proofs.AsLaid.{if_ok}
use Rattle.node_laws.proofs.Nodes.{kept_are_seen}
use Rattle.sound_nodes.specs.Maps.{map_found, IsJudged}
use Rattle.sound_nodes.specs.Rows.{searched}
use Rattle.sound_nodes.proofs.MapsFound.{map-tells, judged}
use Rattle.sound_nodes.proofs.TopsFound.{top_stands, top_kind}
use Rattle.sound_nodes.proofs.tops.found_of.Goals as goal

pub returns-in-Some-node : goal.returns-in-Some-node
returns-in-Some-node c =
    let d = c.args.description.now.items in
    let wanted = option_copied c.args.wanted in
    let top : ℕ × List ℕ = (c.top.inside.number, c.top.inside.name.now) in
    let a = top.0 ∷ [] in
    let s = c.in-Some-node.kept.seen.now in
    let tree = (body_of laying nothing_around d).slots in
    let found : top_from wanted 0 d ≡ Some top = sym c.in-Some.ensures ∙ ap Some (sym c.top.view_is) in
    let stands = top_stands d wanted top.0 top.1 found in
    let address : c.push.new.self ≡ a = c.push.ensures ∙ ap (λ b. b ++ a) c.new-address.ensures in
    let kept : node_at a tree ≡ Some (kept_of c.in-Some-node.kept) = sym (c.in-Some-node.ensures ∙ (λ i. node_at (address i) (c.requires.kept i))) in
    let core = kept_are_seen d a stands.0 c.requires.faultless stands.1 (kept_of c.in-Some-node.kept) kept in
    let tells =
    judged d wanted top stands.0 c.requires.faultless found stands.1 (map_found a s (searched (s.levels + 1) d tree false Regalign a))
    (map-tells d c.requires.faultless a top.1 stands.0 stands.1 (top_kind d wanted top.0 top.1 stands.0 found stands.1) s core.seen (s.levels + 1)) in
    if_ok c.found_below.result
    (λ f e. subst (IsJudged d wanted) (sym (e ∙ (λ i. map_found (address i) s (searched (s.levels + 1) d (c.requires.kept i) false Regalign (address i))))) tells)
    c.found_below.ensures
