use Rattle.std.proofs.Common.{◌≡◌, drop}
use Rattle.rdl_elab.specs.PartNames.{part_named}
use Rattle.rdl_elab.proofs.walk.part_list.first_named.Given as goal

abbrev pub invariant-loop-part : goal.invariant-loop-part
invariant-loop-part l = part_named l.name l.parts ≡ part_named l.name (drop l.part-index l.parts)
