use Rattle.std.proofs.Common.{◌≡◌, take, map}
use Rattle.rdl_rewrite.specs.Names.{instance_names}
use Rattle.rdl_rewrite.proofs.names.instance_names.Given as goal

abbrev pub invariant-items : goal.invariant-items
invariant-items l = map (λ n. n.now) l.names.items ≡ instance_names (take l.item-index l.item-items)
