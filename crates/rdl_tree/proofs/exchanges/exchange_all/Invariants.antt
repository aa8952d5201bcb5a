use Rattle.std.proofs.Common.{take, drop}
use Rattle.rdl_tree.specs.Patch.{image, inverses}
use Rattle.rdl_tree.proofs.Exchanging.{AreTurned}
use Rattle.rdl_tree.proofs.exchanges.exchange_all.Given as goal

abbrev pub invariant-patches : goal.invariant-patches
invariant-patches l = AreTurned (take l.patch-index l.patch-items) (drop l.patch-index l.patch-items) l.description.items (image l.initial.patch-items l.initial.description.items) (inverses l.initial.patch-items l.initial.description.items)
