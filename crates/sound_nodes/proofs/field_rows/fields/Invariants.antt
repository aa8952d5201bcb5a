use Rattle.std.proofs.Common.{◌≡◌, [], take, drop}
use Rattle.sound_nodes.specs.Rows.{fields}
use Rattle.sound_nodes.proofs.field_rows.fields.Given as goal

abbrev pub invariant-loop-i : goal.invariant-loop-i
invariant-loop-i l =
    fields l.assigned l.at l.bits [] [] l.spans l.instances l.parts ≡ fields l.assigned l.at l.bits (take l.i l.spans) (take l.i l.parts) (drop l.i l.spans) (drop l.i l.instances) (drop l.i l.parts)
