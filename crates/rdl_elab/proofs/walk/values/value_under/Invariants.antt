use Rattle.std.proofs.Common.{◌≡◌, drop}
use Rattle.rdl_elab.specs.Reaches.{value_under}
use Rattle.rdl_elab.proofs.walk.values.value_under.Given as goal

abbrev pub invariant-loop-value : goal.invariant-loop-value
invariant-loop-value l = value_under l.property l.own ≡ value_under l.property (drop l.value-index l.own)
