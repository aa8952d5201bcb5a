use Rattle.std.proofs.Common.{◌≡◌, length, refl, ap, sym, ◌∙◌}
use Rattle.std.specs.Prelude.{option_and_then, slice_get, None}
use Rattle.std.proofs.lemmas.Option.{slice_get_read, slice_get_past}
use Rattle.rdl_nodes.specs.KeptNode.{slot_node}
use Rattle.rdl_nodes.proofs.Paths.{kept_at_is}
use Rattle.rdl_renew.proofs.renew.kept_slot.Goals as goal

pub returns-in-Some : goal.returns-in-Some
returns-in-Some c =
    let xs = c.args.slots.now in
    let i = c.args.number in
    let x = c.in-Some.slot.now in
    let there = slice_get_read xs (length xs) i x refl c.in-Some.ensures.lookup.3.0 c.in-Some.ensures.lookup.1 in
    c.kept.ensures ∙ sym (kept_at_is xs i ∙ ap (option_and_then slot_node) there)

pub returns-in-None : goal.returns-in-None
returns-in-None c =
    let xs = c.args.slots.now in
    let i = c.args.number in
    let past : slice_get xs i ≡ None = slice_get_past xs i c.in-None.ensures.lookup.3 in
    sym (kept_at_is xs i ∙ ap (option_and_then slot_node) past)
