use Rattle.std.proofs.Common.{◌<◌, length}
use Rattle.rdl_places.specs.Lasting.{AreLasts}
use Rattle.rdl_places.proofs.lasts.Lasts.reach.Given as goal

abbrev pub invariant-loop : goal.invariant-loop
invariant-loop l = record { slots : 0 < length l.self.slots.items; are : AreLasts l.body l.self }
