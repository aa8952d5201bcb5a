use Rattle.std.proofs.Common.{length}
use Rattle.rdl_nodes.proofs.LastOnes.{IsAlong}
use Rattle.rdl_nodes.proofs.lasts.Lasts.find.Given as goal

abbrev pub invariant-loop-next : goal.invariant-loop-next
invariant-loop-next l = IsAlong l.name l.instances (length l.self.slots.items) (length l.self.links.items) l.next

abbrev pub decreases-loop-next : goal.decreases-loop-next
decreases-loop-next l = l.next
