use Rattle.std.proofs.Common.{length, refl, ap, sym, ◌∙◌}
use Rattle.std.proofs.lemmas.Option.{slice_get_read}
use Rattle.rdl_nodes.specs.KeptNode.{kept_of, slot_node}
use Rattle.rdl_places.proofs.AtPlaces.{kept_of_slot, seen_in}
use Rattle.rdl_places.proofs.scope.Holder.shared_seen.Goals as goal

pub returns-in_ok-shared-in-Some-Define : goal.returns-in_ok-shared-in-Some-Define
returns-in_ok-shared-in-Some-Define c =
    let s = c.args.self.now in
    let xs = s.scope.slots.now in
    let x = c.in-Some-Define.field-0.now in
    let there = slice_get_read xs (length xs) s.scope.number x refl c.in-Some-Define.ensures.lookup.3.0 c.in-Some-Define.ensures.lookup.1 in
    let kept = kept_of_slot xs s.scope.number x (kept_of s.kept) there c.requires in
    c.in_ok-shared-in-Some-Define.ensures.cases ∙ seen_in (sym (ap slot_node c.in-Some-Define.field-0-is) ∙ kept)
