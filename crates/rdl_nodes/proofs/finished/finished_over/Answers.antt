use Rattle.std.proofs.Common.{◌≡◌, List, ap, sym, subst, ◌∙◌}
use Rattle.std.specs.Prelude.{map, Option, IfSome}
use Rattle.rdl_seen.specs.Node.{values_of, layouts_of, core_of}
use Rattle.rdl_seen.specs.Slots.{Core}
use Rattle.rdl_seen.specs.Values.{of_kind, over}
use Rattle.rdl_nodes.specs.declared.node.Slot.{Slot}
use Rattle.rdl_nodes.specs.Bare.{AreStillLayouts, StaysLaidOut, StaysOwn}
use Rattle.rdl_nodes.specs.CoreWith.{core_with}
use Rattle.rdl_nodes.specs.Part.{member_of}
use Rattle.rdl_nodes.specs.Parts.{parts_of}
use Rattle.rdl_nodes.specs.View.{slots_of}
use Rattle.rdl_nodes.proofs.Kept.{members_are}
use Rattle.rdl_nodes.proofs.finished.finished_over.Given.{Over}
use Rattle.rdl_nodes.proofs.finished.finished_over.Goals as goal
use Rattle.rdl_nodes.proofs.finished.finished_over.Goals.{After-drop-parts-2}

pub returns-in-Some-clause-node : goal.returns-in-Some-clause-node
returns-in-Some-clause-node g c = λ own stays.
    let lay = g.L.Lays.laying in
    let k = c.args.component.now.kind in
    let v = c.args.defaults.now in
    let t = c.args.component.now.body in
    let a = c.args.likeness.are_alike in
    let states = c.own_over-own.ensures (subst (λ (b : Core). StaysOwn c.args.likeness.is_own_same b t) (sym c.core.ensures) own) in
    let values : c.of_kind-values.result ≡ values_of k v t = c.of_kind-values.ensures ∙ ap (of_kind k) (c.over.ensures ∙ ap (λ o. over o v) states.0) in
    let same : c.as_slice-items.result.now ≡ c.args.slots.items = c.as_slice-items.ensures.value in
    let again = c.in_ok-again.ensures.core lay v states.0 states.1 values
    (λ yes was. (subst (λ (xs : List Slot). StaysLaidOut lay a c.core-before.result.now k v t (slots_of xs)) (sym same) (subst (λ (b : Core). StaysLaidOut lay a b k v t (slots_of c.args.slots.items)) (sym c.core-before.ensures) stays)) yes was) in
    let is : c.in-Some.core ≡ core_of lay k v t (slots_of c.as_slice-items.result.now) =
    subst (λ (o : Option Core). IfSome o (λ n. n ≡ core_of lay k v t (slots_of c.as_slice-items.result.now))) c.in-Some.is again in
    c.new.ensures ∙ (λ i. record { core = (is ∙ ap (λ (xs : List Slot). core_of lay k v t (slots_of xs)) same) i; slots = slots_of c.args.slots.items })

-- what is kept of the component, and its layouts
core_is : (g : Over) (c : After-drop-parts-2 g) → StaysOwn c.args.likeness.is_own_same c.args.before.now.core c.args.component.now.body
    → StaysLaidOut g.L.Lays.laying c.args.likeness.are_alike c.args.before.now.core c.args.component.now.kind c.args.defaults.now c.args.component.now.body (slots_of c.args.slots.items)
    → c.of-core.result ≡ core_of g.L.Lays.laying c.args.component.now.kind c.args.defaults.now c.args.component.now.body (slots_of c.args.slots.items)
core_is g c own stays =
    let k = c.args.component.now.kind in
    let v = c.args.defaults.now in
    let t = c.args.component.now.body in
    let xs = c.args.slots.items in
    let lay = g.L.Lays.laying in
    let states = c.own_over-own.ensures (subst (λ (b : Core). StaysOwn c.args.likeness.is_own_same b t) (sym c.core.ensures) own) in
    let values : c.of_kind-values.result ≡ values_of k v t = c.of_kind-values.ensures ∙ ap (of_kind k) (c.over.ensures ∙ ap (λ o. over o v) states.0) in
    let first : c.as_slice-2.result.now ≡ xs = c.as_slice-2.ensures.value in
    let third : c.as_slice-4.result.now ≡ xs = c.as_slice-4.ensures.value in
    let parts : c.in_ok-parts.parts.items ≡ parts_of v t (slots_of xs) = c.in_ok-parts.ensures ∙ ap (λ (ys : List Slot). parts_of v t (slots_of ys)) first in
    let second : c.as_slice-3.result.now ≡ parts_of v t (slots_of xs) = c.as_slice-3.ensures.value ∙ parts in
    let last : c.as_slice-5.result.now ≡ parts_of v t (slots_of c.as_slice-4.result.now) = c.as_slice-5.ensures.value ∙ (parts ∙ ap (λ (ys : List Slot). parts_of v t (slots_of ys)) (sym third)) in
    let same : lay k c.of_kind-values.result (map member_of c.as_slice-3.result.now) ≡ layouts_of lay k v t (slots_of xs) = λ i. lay k (values i) (members_are v t (slots_of xs) c.as_slice-3.result.now second i) in
    let kept : c.core-before.result.now ≡ c.args.before.now.core = c.core-before.ensures in
    let still : AreStillLayouts lay c.args.likeness.are_alike c.core-before.result.now k c.of_kind-values.result (map member_of c.as_slice-3.result.now) =
    λ alike was. ap (λ (b : Core). b.layouts) kept ∙ ((stays alike (sym values ∙ (was ∙ ap (λ (b : Core). b.values) kept))).layouts ∙ sym same) in
    let laid : c.in_ok-layouts.layouts.value ≡ layouts_of lay k v t (slots_of xs) = c.in_ok-layouts.ensures.layouts still ∙ same in
    c.of-core.ensures.with_layouts v states.0 states.1 values last ∙ (λ i. core_with k v t (slots_of (third i)) (laid i))

pub returns-clause-node : goal.returns-clause-node
returns-clause-node g c =
    λ own stays.
    let core = core_is g c own stays in
    let made : c.new-2.result ≡ record { core = c.of-core.result; slots = slots_of c.args.slots.items } = c.new-2.ensures in
    made ∙ (λ i. record { core = core i; slots = slots_of c.args.slots.items })
