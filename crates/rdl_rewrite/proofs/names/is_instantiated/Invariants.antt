use Rattle.std.proofs.Common.{◌≡◌, drop}
use Rattle.rdl_rewrite.specs.Names.{instance_names, has_name}
use Rattle.rdl_rewrite.proofs.names.is_instantiated.Given as goal

abbrev pub invariant-items : goal.invariant-items
invariant-items l = has_name l.name (instance_names (drop l.item-index l.item-items)) ≡ has_name l.name (instance_names l.item-items)
