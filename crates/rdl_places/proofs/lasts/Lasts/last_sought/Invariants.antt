use Rattle.std.proofs.Common.{length}
use Rattle.rdl_places.proofs.LastOnes.{IsAlong}
use Rattle.rdl_places.proofs.lasts.Lasts.last_sought.Given as goal

abbrev pub invariant-loop-next : goal.invariant-loop-next
invariant-loop-next l = IsAlong l.sought l.name l.body (length l.self.slots.items) (length l.self.links.items) l.count l.next

abbrev pub decreases-loop-next : goal.decreases-loop-next
decreases-loop-next l = l.next
