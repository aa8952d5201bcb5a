use Rattle.std.proofs.Common.{◌≡◌, ◌+◌, ◌*◌, ◌<◌, ap, sym, ◌∙◌, arith}
use Rattle.std.specs.Option.{option_copied}
use Rattle.rdl_tree.specs.Items.{count}
use Rattle.rdl_tree.proofs.Sizes.{item_count}
use Rattle.rdl_origin.specs.Numbered.{capped}
use Rattle.rdl_origin.proofs.Numbers.{count-item, count_own, count_alone, holder_numbered, plain_numbered, numbered_done, next_done, numbered_more}
use Rattle.rdl_origin.proofs.numbered.+numbered.Goals as goal
use Rattle.rdl_origin.proofs.numbered.+numbered.Goals.{numbered_item-in-Some+in_ok-inside-in-Some, numbered_item-in-None}

pub numbered-numbered_item-requires : goal.numbered-numbered_item-requires
numbered-numbered_item-requires t c =
    let h = count-item c.as_slice-item-items.result.now c.items.item-index c.item-item.result c.args.body.now c.items-test.true c.item-item.is c.as_slice-item-items.ensures in
    let same : 2 * count c.args.body.now + 1 ≡ t = c.decreases in
    let less : 2 * item_count c.item-item.result < t = omega (arith, h, same) in
    (less, tt)

pub numbered-items-preserved : goal.numbered-items-preserved
numbered-items-preserved t c =
    numbered_more c.args.next.now c.as_slice-item-items.result.now c.items.item-index c.item-item.result c.items.list.items c.push.new.self.items c.in_ok-numbered_item.field-0 c.items.next c.numbered_item.new.next
    c.items-test.true c.item-item.is c.in_ok-push.ensures.items c.in_ok-numbered_item.ensures.origin c.in_ok-numbered_item.ensures.next c.items.invariant

pub numbered-returns-clause-origins : goal.numbered-returns-clause-origins
numbered-returns-clause-origins t c =
    numbered_done c.args.next.now c.as_slice-item-items.result.now c.items.item-index c.args.body.now c.items.list.items c.items.next c.items-test.false c.as_slice-item-items.ensures c.items.invariant

pub numbered-returns-clause-next : goal.numbered-returns-clause-next
numbered-returns-clause-next t c =
    next_done c.args.next.now c.as_slice-item-items.result.now c.items.item-index c.args.body.now c.items.list.items c.items.next c.items-test.false c.as_slice-item-items.ensures c.items.invariant

pub numbered_item-returns-clause-origin : goal.numbered_item-returns-clause-origin
numbered_item-returns-clause-origin t c =
    let fits : c.args.next.now ≡ capped c.args.next.now = omega arith in
    elim c.match-own_body.branch [
      | numbered_item-in-Some+in_ok-inside-in-Some w ↦ holder_numbered c.args.next.now c.saturating_add.result c.args.item.now w.in-Some.body.now c.match-own_body.inside fits
          (sym c.own_body.ensures ∙ ap option_copied w.in-Some.is) c.saturating_add.ensures (w.inside-is ∙ w.in_ok-inside-in-Some.ensures.origins)
      | numbered_item-in-None w ↦ plain_numbered c.args.next.now c.args.item.now c.match-own_body.inside fits (sym c.own_body.ensures ∙ ap option_copied w.in-None.is) (w.inside-is ∙ w.none-inside.ensures)
    ]

pub numbered_item-returns-clause-next : goal.numbered_item-returns-clause-next
numbered_item-returns-clause-next t c =
    elim c.match-own_body.branch [
      | numbered_item-in-Some+in_ok-inside-in-Some w ↦ (let own = count_own c.args.item.now w.in-Some.body.now (sym c.own_body.ensures ∙ ap option_copied w.in-Some.is) in
          omega (arith, own, c.saturating_add.ensures, w.next-is, w.in_ok-inside-in-Some.ensures.next))
      | numbered_item-in-None w ↦ (let own = count_alone c.args.item.now (sym c.own_body.ensures ∙ ap option_copied w.in-None.is) in
          omega (arith, own, c.saturating_add.ensures, w.next-is))
    ]
