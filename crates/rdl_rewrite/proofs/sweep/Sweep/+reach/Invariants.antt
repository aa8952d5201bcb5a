use Rattle.std.proofs.Common.{◌≡◌, ◌+◌, ◌*◌, ◌++◌, ◌∷◌, [], drop, true, reverse, option_copied}
use Rattle.rdl_tree.specs.Address.{holder_of}
use Rattle.rdl_tree.specs.Items.{count}
use Rattle.rdl_tree.specs.View.{items_of}
use Rattle.rdl_tree.proofs.Sizes.{item_count}
use Rattle.rdl_rewrite.specs.Fates.{fate, fate_patches}
use Rattle.rdl_rewrite.specs.Firsts.{AreFirsts}
use Rattle.rdl_rewrite.specs.Led.{IsLed}
use Rattle.rdl_rewrite.proofs.sweep.Sweep.+reach.Given as goal

abbrev pub decreases-push_body : goal.decreases-push_body
decreases-push_body l = 2 * count l.body.now + 1

abbrev pub decreases-push_item : goal.decreases-push_item
decreases-push_item l = 2 * item_count l.found.now

abbrev pub invariant-push_body-items : goal.invariant-push_body-items
invariant-push_body-items l = record {
  reached : fate_patches (fate l.self.whole.now.items l.self.way.now (option_copied l.self.name)) l.at 0 l.body ++ reverse l.initial.patches.items
      ≡ fate_patches (fate l.self.whole.now.items l.self.way.now (option_copied l.self.name)) l.at l.number (items_of (drop l.number l.found-items)) ++ reverse l.patches.items;
  led : IsLed l.self.whole.now.items l.self.way.now (l.at ++ l.number ∷ []) l.led;
  inside_led : IsLed l.self.whole.now.items (holder_of l.self.way.now) (l.at ++ l.number ∷ []) l.inside_led;
  firsts : l.assigns ≡ true → AreFirsts l.self.whole.now.items (holder_of l.self.way.now) l.at l.number l.firsts;
}
