use Rattle.std.proofs.Common.{◌≡◌, option_copied}
use Rattle.rdl_tree.specs.Properties.{row}
use Rattle.rdl_scope.specs.Closed.{lookup}
use Rattle.rdl_elab.proofs.DefaultStacks.{stack}
use Rattle.rdl_elab.proofs.walk.defaults.Defaults.get.Given as goal

abbrev pub invariant-loop-default : goal.invariant-loop-default
invariant-loop-default l = option_copied l.nearest ≡ lookup (row l.property).name (stack l.default-index l.default-items)
