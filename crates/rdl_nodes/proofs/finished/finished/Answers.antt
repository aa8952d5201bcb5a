use Rattle.std.proofs.Common.{◌≡◌, List, ap, sym, ◌∙◌}
use Rattle.std.specs.Prelude.{map}
use Rattle.rdl_seen.specs.Node.{values_of, layouts_of, core_of}
use Rattle.rdl_seen.specs.Values.{of_kind, over}
use Rattle.rdl_nodes.specs.declared.node.Slot.{Slot}
use Rattle.rdl_nodes.specs.CoreWith.{core_with}
use Rattle.rdl_nodes.specs.Part.{member_of}
use Rattle.rdl_nodes.specs.Parts.{parts_of}
use Rattle.rdl_nodes.specs.View.{slots_of}
use Rattle.rdl_nodes.proofs.Kept.{members_are}
use Rattle.rdl_nodes.proofs.finished.finished.Given.{Over}
use Rattle.rdl_nodes.proofs.finished.finished.Goals as goal
use Rattle.rdl_nodes.proofs.finished.finished.Goals.{After-drop-parts-2}

-- what is kept of the component, and its layouts
core_is : (g : Over) (c : After-drop-parts-2 g)
    → c.of-core.result ≡ core_of g.L.Lays.laying c.args.component.now.kind c.args.defaults.now c.args.component.now.body (slots_of c.args.slots.items)
core_is g c =
    let k = c.args.component.now.kind in
    let v = c.args.defaults.now in
    let t = c.args.component.now.body in
    let xs = c.args.slots.items in
    let lay = g.L.Lays.laying in
    let first : c.as_slice-2.result.now ≡ xs = c.as_slice-2.ensures.value in
    let third : c.as_slice-4.result.now ≡ xs = c.as_slice-4.ensures.value in
    let parts : c.in_ok-parts.parts.items ≡ parts_of v t (slots_of xs) = c.in_ok-parts.ensures ∙ ap (λ (ys : List Slot). parts_of v t (slots_of ys)) first in
    let second : c.as_slice-3.result.now ≡ parts_of v t (slots_of xs) = c.as_slice-3.ensures.value ∙ parts in
    let last : c.as_slice-5.result.now ≡ parts_of v t (slots_of c.as_slice-4.result.now) = c.as_slice-5.ensures.value ∙ (parts ∙ ap (λ (ys : List Slot). parts_of v t (slots_of ys)) (sym third)) in
    let values : c.of_kind-values.result ≡ values_of k v t = c.of_kind-values.ensures ∙ ap (of_kind k) (c.over.ensures ∙ ap (λ o. over o v) c.own_of-own.ensures.values) in
    let said : c.in_ok-layouts.layouts ≡ lay k c.of_kind-values.result (map member_of c.as_slice-3.result.now) = c.in_ok-layouts.ensures in
    let laid : c.in_ok-layouts.layouts ≡ layouts_of lay k v t (slots_of xs) = said ∙ (λ i. lay k (values i) (members_are v t (slots_of xs) c.as_slice-3.result.now second i)) in
    let boxed : c.in_ok-layouts-2.layouts.value ≡ c.in_ok-layouts.layouts = c.in_ok-layouts-2.ensures.ok in
    c.of-core.ensures.with_layouts v c.own_of-own.ensures.values c.own_of-own.ensures.weight values last ∙ (λ i. core_with k v t (slots_of (third i)) ((boxed ∙ laid) i))

pub returns : goal.returns
returns g c =
    let core = core_is g c in
    let made : c.new-2.result ≡ record { core = c.of-core.result; slots = slots_of c.args.slots.items } = c.new-2.ensures in
    made ∙ (λ i. record { core = core i; slots = slots_of c.args.slots.items })
