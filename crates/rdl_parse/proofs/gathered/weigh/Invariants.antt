use Rattle.std.proofs.Common.{◌≡◌, take}
use Rattle.rdl_parse.specs.Finds.{weight_of}
use Rattle.rdl_tree.specs.Weight.{capped}
use Rattle.rdl_parse.proofs.gathered.weigh.Given as goal

abbrev pub invariant-items : goal.invariant-items
invariant-items l = l.sum ≡ capped (weight_of (take l.item-index l.items))
