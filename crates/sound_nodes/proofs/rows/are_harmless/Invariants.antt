use Rattle.std.proofs.Common.{◌≡◌, drop}
use Rattle.rdl_seen.specs.Contents.{are_harmless}
use Rattle.rdl_seen.specs.Inside.{Spots}
use Rattle.rdl_nodes.specs.View.{slots_of}
use Rattle.sound_nodes.proofs.rows.are_harmless.Given as goal

abbrev pub invariant-loop-slot : goal.invariant-loop-slot
invariant-loop-slot l =
    let spots : Spots = record { spans = l.spans; is_ordered = l.is_ordered } in
    are_harmless spots (slots_of l.slots) ≡ are_harmless spots (slots_of (drop l.slot-index l.slots))
