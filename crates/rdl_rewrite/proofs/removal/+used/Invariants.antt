use Rattle.std.proofs.Common.{◌≡◌, ◌+◌, ◌*◌, ◌++◌, ◌∷◌, [], drop}
use Rattle.std.specs.List.{list_any}
use Rattle.rdl_tree.specs.Items.{count}
use Rattle.rdl_tree.specs.View.{items_of}
use Rattle.rdl_tree.proofs.Sizes.{item_count}
use Rattle.rdl_scope.specs.Types.{type_of}
use Rattle.rdl_rewrite.specs.Addresses.{leads_to, addresses}
use Rattle.rdl_rewrite.specs.Led.{IsLed}
use Rattle.rdl_rewrite.proofs.removal.+used.Given as goal

abbrev pub decreases-is_used : goal.decreases-is_used
decreases-is_used l = 2 * count l.body.now + 1

abbrev pub decreases-is_used_by : goal.decreases-is_used_by
decreases-is_used_by l = 2 * item_count l.found.now

abbrev pub invariant-is_used-items : goal.invariant-is_used-items
invariant-is_used-items l = record {
  unmet : list_any (λ a. leads_to l.sweep.way.now (type_of l.sweep.whole.now.items a)) (addresses l.at 0 l.body)
      ≡ list_any (λ a. leads_to l.sweep.way.now (type_of l.sweep.whole.now.items a)) (addresses l.at l.number (items_of (drop l.number l.found-items)));
  led : IsLed l.sweep.whole.now.items l.sweep.way.now (l.at ++ l.number ∷ []) l.led;
}
