use Rattle.std.proofs.Common.{◌≡◌, length, take}
use Rattle.rdl_nodes.proofs.types.Types.truncate.Given as goal

abbrev pub invariant-loop-self : goal.invariant-loop-self
invariant-loop-self l = take l.len l.self.list.items ≡ take l.len l.fn.self.list.items

abbrev pub decreases-loop-self : goal.decreases-loop-self
decreases-loop-self l = length l.self.list.items
