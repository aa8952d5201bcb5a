use Rattle.std.proofs.Common.{◌≡◌, ◌+◌, ◌++◌, ◌<◌, drop, length, sym, ap, ◌∙◌, append_assoc, arith, option_copied, slice_get}
use Rattle.rdl_tree.specs.View.{items_of}
use Rattle.rdl_nodes.specs.Parts.{of_item}
use Rattle.rdl_nodes.specs.View.{slots_of}
use Rattle.rdl_nodes.proofs.Bodies.{items_all, items_at}
use Rattle.sound_nodes.specs.Instances.{instances_from, item_instances}
use Rattle.sound_nodes.proofs.Steps.{slots-first, slots-rest, instances-step}
use Rattle.sound_nodes.proofs.instances.instances.Goals as goal

pub loop-i-init : goal.loop-i-init
loop-i-init c =
    let all = items_all c.as_slice-item-items.result.now c.args.body.now c.as_slice-item-items.ensures in
    λ i. (sym c.in_ok-instances.ensures.items i) ++ instances_from 0 (sym all i) (slots_of c.args.slots.now)

pub loop-i-preserved : goal.loop-i-preserved
loop-i-preserved c =
    let items = c.as_slice-item-items.result.now in
    let ss = c.args.slots.now in
    let i = c.loop-i.i in
    let x = c.item-item.result in
    let old = c.loop-i.instances.items in
    let rest = items_of (drop (i + 1) items) in
    let within : i < length items = omega (arith, c.loop-i-test.true) in
    let slot : option_copied c.slot_at.result ≡ slice_get ss i = c.slot_at.ensures in
    let put : c.put_instance.new.instances.items ≡ old ++ item_instances i x (of_item (slice_get ss i)) = c.in_ok-put_instance.ensures ∙ ap (λ o. old ++ item_instances i x (of_item o)) slot in
    c.loop-i.invariant
    ∙ ap (λ t. old ++ instances_from i t (slots_of (drop i ss))) (items_at items i x within c.item-item.is)
    ∙ ap (λ zs. old ++ zs) (instances-step i x rest (slots_of (drop i ss)))
    ∙ (λ k. old ++ (item_instances i x (slots-first ss i k) ++ instances_from (i + 1) rest (slots-rest ss i k)))
    ∙ sym (append_assoc old (item_instances i x (of_item (slice_get ss i))) (instances_from (i + 1) rest (slots_of (drop (i + 1) ss))))
    ∙ ap (λ zs. zs ++ instances_from (i + 1) rest (slots_of (drop (i + 1) ss))) (sym put)
