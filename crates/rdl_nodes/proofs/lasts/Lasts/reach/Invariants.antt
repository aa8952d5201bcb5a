use Rattle.std.proofs.Common.{◌<◌, length}
use Rattle.rdl_nodes.specs.Lasting.{AreLasts}
use Rattle.rdl_nodes.proofs.lasts.Lasts.reach.Given as goal

abbrev pub invariant-loop : goal.invariant-loop
invariant-loop l = record { slots : 0 < length l.self.slots.items; are : AreLasts l.instances l.self }
