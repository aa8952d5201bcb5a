use Rattle.std.proofs.Common.{◌≡◌, drop}
use Rattle.std.specs.Prelude.{map}
use Rattle.rdl_seen.specs.Fields.{have_room}
use Rattle.rdl_nodes.specs.Part.{reset_of}
use Rattle.rdl_nodes.proofs.fields.have_room.Given as goal

abbrev pub invariant-loop-i : goal.invariant-loop-i
invariant-loop-i l = have_room l.spans (map reset_of l.parts) ≡ have_room (drop l.i l.spans) (map reset_of (drop l.i l.parts))
