use Rattle.std.proofs.Common.{◌≡◌, ◌+◌, ◌*◌, ◌++◌, drop, string_bytes}
use Rattle.rdl_tree.specs.Items.{count}
use Rattle.rdl_tree.specs.View.{items_of}
use Rattle.rdl_tree.proofs.Sizes.{item_count}
use Rattle.rdl_origin.specs.View as origins
use Rattle.rdl_source.specs.View.{list_of}
use Rattle.rdl_weave.specs.Coarse.{text_of, spans_of, walk}
use Rattle.rdl_weave.proofs.coarse.+coarse.Given as goal

abbrev pub decreases-put_body : goal.decreases-put_body
decreases-put_body l = 4 * count l.body.now + 3

abbrev pub decreases-put_inner : goal.decreases-put_inner
decreases-put_inner l = 4 * count l.body.now + 4

abbrev pub decreases-put_item : goal.decreases-put_item
decreases-put_item l = 4 * item_count l.item.now + 2

abbrev pub decreases-put_changed : goal.decreases-put_changed
decreases-put_changed l = 4 * item_count l.item.now + 1

-- what is put in, and what is left of the body, is all
abbrev pub invariant-put_body-items : goal.invariant-put_body-items
invariant-put_body-items l =
    (string_bytes l.sheet.text ++ text_of l.ground.source.now (walk l.ground.source.now l.ground.sizes.now l.indent (list_of l.was.statements.now) (origins.list_of l.was.origins.now) l.skip l.at (items_of (drop l.item-index l.item-items)))
    ≡ string_bytes l.initial.sheet.text ++ text_of l.ground.source.now (walk l.ground.source.now l.ground.sizes.now l.indent (list_of l.was.statements.now) (origins.list_of l.was.origins.now) 0 l.number l.body))
    × (l.sheet.spans.items ++ spans_of (walk l.ground.source.now l.ground.sizes.now l.indent (list_of l.was.statements.now) (origins.list_of l.was.origins.now) l.skip l.at (items_of (drop l.item-index l.item-items)))
    ≡ l.initial.sheet.spans.items ++ spans_of (walk l.ground.source.now l.ground.sizes.now l.indent (list_of l.was.statements.now) (origins.list_of l.was.origins.now) 0 l.number l.body))
