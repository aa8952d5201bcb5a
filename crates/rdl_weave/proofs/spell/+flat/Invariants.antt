use Rattle.std.proofs.Common.{◌+◌, ◌*◌}
use Rattle.rdl_tree.specs.Items.{count}
use Rattle.rdl_tree.proofs.Sizes.{item_count}
use Rattle.rdl_weave.proofs.spell.+flat.Given as goal

abbrev pub decreases-push_flat : goal.decreases-push_flat
decreases-push_flat l = 2 * item_count l.item.now

abbrev pub decreases-push_flat_body : goal.decreases-push_flat_body
decreases-push_flat_body l = 2 * count (l.component.now).body + 1
