use Rattle.std.proofs.Common.{◌≡◌, drop}
use Rattle.rdl_elab.specs.Inside.{kept_empty}
use Rattle.rdl_elab.proofs.walk.instances.first_empty.Given as goal

abbrev pub invariant-loop-part : goal.invariant-loop-part
invariant-loop-part l = kept_empty l.components (drop l.part-index l.parts) ≡ kept_empty l.components l.parts
