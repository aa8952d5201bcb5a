use Rattle.std.proofs.Common.{◌≡◌, drop, ap, ◌∙◌, arith}
use Rattle.rdl_tree.specs.View.{items_of}
use Rattle.rdl_seen.specs.Fields.{field_takes}
use Rattle.rdl_nodes.specs.View.{slots_of}
use Rattle.rdl_nodes.proofs.Bodies.{items_all}
use Rattle.rdl_nodes.proofs.fields.field_takes.Goals as goal

pub returns : goal.returns
returns c =
    let xs = c.as_slice-items.result.now in
    let ss = c.args.slots.now in
    let first : c.loop-i.i ≡ 0 = omega arith in
    let all = items_all xs c.args.body.now c.as_slice-items.ensures in
    c.loop-i.invariant ∙ (λ j. field_takes (items_of (drop (first j) xs)) (slots_of (drop (first j) ss))) ∙ ap (λ t. field_takes t (slots_of ss)) all
