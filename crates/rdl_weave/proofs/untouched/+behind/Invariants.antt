use Rattle.std.proofs.Common.{◌≡◌, ◌+◌, ◌*◌, drop}
use Rattle.rdl_origin.specs.Traces.{traces_count}
use Rattle.rdl_origin.specs.View.{traces_of}
use Rattle.rdl_weave.specs.Untouched.{behind}
use Rattle.rdl_weave.proofs.untouched.+behind.Given as goal

abbrev pub decreases-behind_item : goal.decreases-behind_item
decreases-behind_item l = 2 * traces_count (l.origin.now).inside + 2

abbrev pub decreases-behind_all : goal.decreases-behind_all
decreases-behind_all l = 2 * traces_count (traces_of l.origins.now) + 1

abbrev pub invariant-behind_all-origins : goal.invariant-behind_all-origins
invariant-behind_all-origins l = behind l.sizes l.number (traces_of l.origins) ≡ behind l.sizes l.next (traces_of (drop l.origin-index l.origins))
