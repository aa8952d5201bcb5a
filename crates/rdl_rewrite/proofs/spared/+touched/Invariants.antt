use Rattle.std.proofs.Common.{◌≡◌, ◌+◌, ◌*◌, drop, option_copied}
use Rattle.std.specs.List.{list_any}
use Rattle.rdl_tree.specs.Items.{count}
use Rattle.rdl_tree.proofs.Sizes.{item_count}
use Rattle.rdl_rewrite.specs.Touched.{may_touch, is_any_inside}
use Rattle.rdl_rewrite.proofs.Touched.{passes_inside}
use Rattle.rdl_rewrite.proofs.spared.+touched.Given as goal

abbrev pub decreases-is_touched : goal.decreases-is_touched
decreases-is_touched l = 2 * count l.body.now + 1

abbrev pub decreases-is_item_touched : goal.decreases-is_item_touched
decreases-is_item_touched l = 2 * item_count l.found.now

abbrev pub invariant-is_touched-items : goal.invariant-is_touched-items
invariant-is_touched-items l =
    list_any (passes_inside (may_touch (option_copied l.sweep.taken) (option_copied l.sweep.holder))) (drop l.found-index l.found-items)
    ≡ is_any_inside (may_touch (option_copied l.sweep.taken) (option_copied l.sweep.holder)) l.body
