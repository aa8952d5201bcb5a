use Rattle.std.proofs.Common.{◌≡◌, drop}
use Rattle.std.specs.Prelude.{map}
use Rattle.rdl_seen.specs.Layouts.{are_strides_wide}
use Rattle.rdl_nodes.specs.Part.{member_of}
use Rattle.rdl_nodes.proofs.apart.are_strides_wide.Given as goal

abbrev pub invariant-loop-part : goal.invariant-loop-part
invariant-loop-part l = are_strides_wide l.mode (map member_of l.parts) ≡ are_strides_wide l.mode (map member_of (drop l.part-index l.parts))
