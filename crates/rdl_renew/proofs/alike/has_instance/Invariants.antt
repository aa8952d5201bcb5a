use Rattle.std.proofs.Common.{◌≡◌, drop, map}
use Rattle.rdl_marks.specs.View.{gone_item}
use Rattle.rdl_renew.specs.AlikeSlots.{has_instance}
use Rattle.rdl_renew.proofs.alike.has_instance.Given as goal

abbrev pub invariant-loop-one : goal.invariant-loop-one
invariant-loop-one l = has_instance (map gone_item l.gone) ≡ has_instance (map gone_item (drop l.one-index l.gone))
