use Rattle.std.proofs.Common.{ℕ, ◌+◌, ◌*◌, ◌<◌, drop, get_or, IsTrue}
use Rattle.rdl_source.specs.Laid.{count, ended}
use Rattle.rdl_source.specs.View.{last_of, put}
use Rattle.rdl_origin.specs.View as origins
use Rattle.rdl_origin.specs.declared.origin.Origin.{Origin}
use Rattle.rdl_weave.specs.InTurn.{InTurnInside, KeepsOrder}
use Rattle.rdl_weave.specs.Keeping.{holds_items}
use Rattle.rdl_weave.proofs.Kept.{inside_count}
use Rattle.rdl_weave.proofs.turn.+turn.Given as goal

abbrev pub decreases-keeps_order : goal.decreases-keeps_order
decreases-keeps_order l = 4 * count l.statements.now + 1

abbrev pub decreases-keeps_inside : goal.decreases-keeps_inside
decreases-keeps_inside l = 4 * count l.statements.now

abbrev pub decreases-keeps_inside_one : goal.decreases-keeps_inside_one
decreases-keeps_inside_one l = 4 * inside_count (l.statement.now).inside + 3

abbrev pub decreases-keep_copies : goal.decreases-keep_copies
decreases-keep_copies l = 4 * count l.body.now + 2

abbrev pub invariant-keeps_inside-statements : goal.invariant-keeps_inside-statements
invariant-keeps_inside-statements l =
    InTurnInside l.check.source.now l.check.sizes.now l.check.text.now (put (drop l.statement-index l.statement-items) (ended (last_of l.statements))) l.rest
    → InTurnInside l.check.source.now l.check.sizes.now l.check.text.now l.statements l.origins

abbrev pub invariant-keep_copies-copies : goal.invariant-keep_copies-copies
invariant-keep_copies-copies l = (k : ℕ) (d : Origin) → k < l.origin-index → IsTrue (holds_items (get_or l.own k d))
    → KeepsOrder l.check.source.now l.check.sizes.now l.check.text.now l.body (origins.list_of (get_or l.own k d).inside)
