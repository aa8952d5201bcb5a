use Rattle.std.proofs.Common.{◌+◌, ◌*◌}
use Rattle.rdl_tree.specs.Items.{count}
use Rattle.rdl_tree.proofs.Sizes.{item_count}
use Rattle.rdl_elab.proofs.walk.targets.+further.Given as goal

abbrev pub decreases-goes_further : goal.decreases-goes_further
decreases-goes_further l = 2 * count l.body.now + 1

abbrev pub decreases-item_goes_further : goal.decreases-item_goes_further
decreases-item_goes_further l = 2 * item_count l.item.now
