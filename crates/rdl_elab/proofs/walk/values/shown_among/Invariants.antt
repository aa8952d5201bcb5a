use Rattle.std.proofs.Common.{◌≡◌, take}
use Rattle.rdl_elab.specs.Shown.{bare, shown_among}
use Rattle.rdl_elab.proofs.walk.values.shown_among.Given as goal

abbrev pub invariant-loop-property : goal.invariant-loop-property
invariant-loop-property l = l.items.items ≡ shown_among (bare l.kind l.own l.defaults) (take l.property-index l.properties)
