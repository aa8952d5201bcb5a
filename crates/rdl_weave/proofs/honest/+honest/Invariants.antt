use Rattle.std.proofs.Common.{ℕ, ◌+◌, ◌*◌, ◌<◌, drop, get_or, IsTrue}
use Rattle.rdl_source.specs.Laid.{count, ended}
use Rattle.rdl_source.specs.View.{last_of, put}
use Rattle.rdl_origin.specs.View as origins
use Rattle.rdl_origin.specs.declared.origin.Origin.{Origin}
use Rattle.rdl_weave.specs.Keeping.{Keeps, holds_items}
use Rattle.rdl_weave.proofs.Kept.{inside_count}
use Rattle.rdl_weave.proofs.honest.+honest.Given as goal

abbrev pub decreases-keeps : goal.decreases-keeps
decreases-keeps l = 4 * count l.statements.now

abbrev pub decreases-keeps_statement : goal.decreases-keeps_statement
decreases-keeps_statement l = 4 * inside_count (l.statement.now).inside + 3

abbrev pub decreases-keeps_inside : goal.decreases-keeps_inside
decreases-keeps_inside l = 4 * inside_count (l.statement.now).inside + 2

abbrev pub decreases-keeps_copies : goal.decreases-keeps_copies
decreases-keeps_copies l = 4 * count l.body.now + 1

abbrev pub invariant-keeps-statements : goal.invariant-keeps-statements
invariant-keeps-statements l =
    Keeps l.check.source.now l.check.sizes.now l.check.text.now (put (drop l.statement-index l.statement-items) (ended (last_of l.statements))) l.rest
    → Keeps l.check.source.now l.check.sizes.now l.check.text.now l.statements l.origins

abbrev pub invariant-keeps_copies-copies : goal.invariant-keeps_copies-copies
invariant-keeps_copies-copies l = (k : ℕ) (d : Origin) → k < l.origin-index → IsTrue (holds_items (get_or l.own k d))
    → Keeps l.check.source.now l.check.sizes.now l.check.text.now l.body (origins.list_of (get_or l.own k d).inside)
