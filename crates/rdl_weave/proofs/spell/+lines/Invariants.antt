use Rattle.std.proofs.Common.{◌+◌, ◌*◌}
use Rattle.rdl_tree.specs.Items.{count}
use Rattle.rdl_tree.proofs.Sizes.{item_count}
use Rattle.rdl_weave.proofs.spell.+lines.Given as goal

abbrev pub decreases-push_statement : goal.decreases-push_statement
decreases-push_statement l = 2 * item_count l.item.now

abbrev pub decreases-push_body : goal.decreases-push_body
decreases-push_body l = 2 * count (l.component.now).body + 1
