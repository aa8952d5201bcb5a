use Rattle.std.proofs.Common.{◌≡◌, ◌++◌, ◌-◌, length}
use Rattle.rdl_elab.specs.Onward.{chain}
use Rattle.rdl_elab.specs.Reaches.{behind}
use Rattle.rdl_elab.proofs.Onward.{going_from}
use Rattle.rdl_elab.proofs.walk.reaches.put_behind.Given as goal

abbrev pub invariant-assignments : goal.invariant-assignments
invariant-assignments l = behind l.instance (chain 0 l.links l.reaching l.first) ≡ l.list.items ++ behind l.instance (going_from l.links l.reaching l.number)

abbrev pub decreases-assignments : goal.decreases-assignments
decreases-assignments l = length l.reaching - l.number
