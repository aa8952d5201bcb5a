use Rattle.std.proofs.Common.{◌≡◌, drop}
use Rattle.std.specs.List.{list_any}
use Rattle.rdl_rewrite.specs.Names.{instance_names, is_among}
use Rattle.rdl_rewrite.proofs.names.instantiates_any.Given as goal

abbrev pub invariant-items : goal.invariant-items
invariant-items l = list_any (is_among l.names) (instance_names (drop l.item-index l.item-items)) ≡ list_any (is_among l.names) (instance_names l.item-items)
