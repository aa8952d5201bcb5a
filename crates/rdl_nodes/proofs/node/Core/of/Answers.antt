use Rattle.std.proofs.Common.{◌≡◌, ◌||◌, ◌∙◌}
use Rattle.rdl_seen.specs.Fields.{are_fields_sound, clash_none, members}
use Rattle.rdl_seen.specs.Layouts.{Layouts}
use Rattle.rdl_seen.specs.Node.{is_ordered, apart_of, values_of}
use Rattle.rdl_nodes.specs.CoreWith.{core_made}
use Rattle.rdl_nodes.specs.View.{slots_of}
use Rattle.rdl_nodes.proofs.Kept.{members_are, resets_are, accesses_are}
use Rattle.rdl_nodes.proofs.node.Core.of.Goals as goal

pub returns-clause-with_layouts : goal.returns-clause-with_layouts
returns-clause-with_layouts c = λ defaults own weight values parts.
    let k = c.args.kind in
    let v = defaults in
    let t = c.args.body.now in
    let s = slots_of c.args.slots.now in
    let l : Layouts = c.args.layouts.value in
    let ps = c.args.parts.now in
    let kept : c.as_ref.result.now ≡ l = c.as_ref.ensures in
    let apart : c.apart_of-apart.result ≡ apart_of k (values_of k v t) l (members v t s) = c.apart_of-apart.ensures ∙ (λ i. apart_of k (values i) (kept i) (members_are v t s ps parts i)) in
    c.made.ensures
    ∙ (λ i. core_made k (own i) (weight i) (values i) l (apart i) t s
    (are_fields_sound (values i) l.compact.spans (resets_are v t s ps parts i) (is_ordered k l || clash_none l.compact.spans (accesses_are v t s ps parts i))))
