use Rattle.std.proofs.Common.{◌+◌, ◌*◌, ◌<◌, arith, ap, sym, ◌∙◌}
use Rattle.rdl_origin.specs.Traces.{traces_count}
use Rattle.rdl_origin.specs.View.{traces_of}
use Rattle.rdl_origin.proofs.Rounds.{traces_of-list_of}
use Rattle.rdl_weave.specs.Untouched.{behind}
use Rattle.rdl_weave.proofs.Behind.{traces-item, behind_none, behind_some, behind_longer}
use Rattle.rdl_weave.proofs.untouched.+behind.Goals as goal

pub behind_all-behind_item-requires : goal.behind_all-behind_item-requires
behind_all-behind_item-requires t c =
    let h = traces-item c.args.origins.now c.origins.origin-index c.origin-item.result c.origins-test.true c.origin-item.is in
    let less : 2 * traces_count c.origin-item.result.inside + 2 < t = omega (arith, h, c.decreases) in
    (less, tt)

pub behind_item-behind_all-requires : goal.behind_item-behind_all-requires
behind_item-behind_all-requires t c =
    let same = ap traces_count (ap traces_of c.as_slice.ensures ∙ traces_of-list_of (c.args.origin.now).inside) in
    let less : 2 * traces_count (traces_of c.as_slice.result.now) + 1 < t = omega (arith, same, c.decreases) in
    (less, tt)

pub behind_item-returns-in_default-behind_all : goal.behind_item-returns-in_default-behind_all
behind_item-returns-in_default-behind_all t c =
    behind_none c.args.sizes.now c.args.number c.in-Some.next c.args.origin.now c.if-origin.false c.in-Some.ensures.0 c.in-Some.ensures.1
    (c.in_default-behind_all.ensures ∙ ap (behind c.args.sizes.now c.in-Some.next) (ap traces_of c.as_slice.ensures ∙ traces_of-list_of (c.args.origin.now).inside))

pub behind_item-returns-then-ends_before : goal.behind_item-returns-then-ends_before
behind_item-returns-then-ends_before t c =
    behind_some c.args.sizes.now c.args.number c.in-Some.next c.in-Some-behind_all.end c.args.origin.now c.if-origin.false c.in-Some.ensures.0 c.in-Some.ensures.1
    (c.in-Some-behind_all.ensures ∙ ap (behind c.args.sizes.now c.in-Some.next) (ap traces_of c.as_slice.ensures ∙ traces_of-list_of (c.args.origin.now).inside))
    (sym c.ends_before.ensures ∙ c.if-ends_before.true)

pub behind_item-returns-else-ends_before : goal.behind_item-returns-else-ends_before
behind_item-returns-else-ends_before t c =
    behind_longer c.args.sizes.now c.args.number c.in-Some.next c.in-Some-behind_all.end c.args.origin.now c.if-origin.false c.in-Some.ensures.0 c.in-Some.ensures.1
    (c.in-Some-behind_all.ensures ∙ ap (behind c.args.sizes.now c.in-Some.next) (ap traces_of c.as_slice.ensures ∙ traces_of-list_of (c.args.origin.now).inside))
    (sym c.ends_before.ensures ∙ c.if-ends_before.false)
