use Rattle.std.proofs.Common.{◌≡◌, ◌+◌, ◌*◌, ◌||◌, drop}
use Rattle.std.specs.List.{list_all}
use Rattle.std.specs.Prelude.{not}
use Rattle.rdl_origin.specs.View as origins
use Rattle.rdl_source.specs.Laid.{count, ended}
use Rattle.rdl_source.specs.View.{last_of, put}
use Rattle.rdl_weave.specs.Coarse.{covers}
use Rattle.rdl_weave.specs.Keeping.{holds_items}
use Rattle.rdl_weave.proofs.Kept.{inside_count}
use Rattle.rdl_weave.proofs.covers.+covers.Given as goal

abbrev pub decreases-covers : goal.decreases-covers
decreases-covers l = 4 * count l.statements.now

abbrev pub decreases-covers_statement : goal.decreases-covers_statement
decreases-covers_statement l = 4 * inside_count (l.statement.now).inside + 3

abbrev pub decreases-covers_inside : goal.decreases-covers_inside
decreases-covers_inside l = 4 * inside_count (l.statement.now).inside + 2

abbrev pub decreases-covers_copies : goal.decreases-covers_copies
decreases-covers_copies l = 4 * count l.body.now + 1

abbrev pub invariant-covers-statements : goal.invariant-covers-statements
invariant-covers-statements l =
    covers l.spans l.sizes l.statements l.origins ≡ covers l.spans l.sizes (put (drop l.statement-index l.statement-items) (ended (last_of l.statements))) l.rest

abbrev pub invariant-covers_copies-copies : goal.invariant-covers_copies-copies
invariant-covers_copies-copies l =
    list_all (λ o. not (holds_items o) || covers l.spans l.sizes l.body (origins.list_of o.inside)) l.own
    ≡ list_all (λ o. not (holds_items o) || covers l.spans l.sizes l.body (origins.list_of o.inside)) (drop l.origin-index l.own)
