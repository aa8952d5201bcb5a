use Rattle.std.proofs.Common.{◌≡◌, false, rules, ap, Some}
use Rattle.rdl_nodes.specs.KeptNode.{slot_node}
use Rattle.rdl_seen.specs.Alert.{reaches}
use Rattle.rdl_seen.specs.Slots.{Node, written, type_slot, no_slots}
use Rattle.rdl_renew.proofs.component.define_again.Goals as goal

pub returns-in_ok-node-in-Define : goal.returns-in_ok-node-in-Define
returns-in_ok-node-in-Define c =
    let node : Node = record { core = record c.in-Define.node.value.core { seen = c.in-Define.seen.value }; slots = c.in-Define.node.value.slots } in
    let kept : slot_node c.args.slot.now ≡ Some node = ap slot_node c.in-Define.is in
    let deaf : reaches c.args.alert.now c.in-Define.seen.value ≡ false = search rules in
    let seen : c.in_ok-seen-in-Define.seen.value ≡ c.in-Define.seen.value = search rules in
    let same : c.in_ok-node-in-Define.node.value ≡ c.in-Define.node.value = search rules in
    record { node = node; kept = kept; deaf = deaf; front = λ j. written (type_slot (c.class_of.ensures j)) (record (same j).core { seen = seen j }) (same j).slots no_slots }
