use Rattle.std.proofs.Common.{◌*◌, ◌<◌, arith, rules}
use Rattle.rdl_scope.proofs.Sizes.{count-item}
use Rattle.rdl_tree.proofs.Sizes.{item_count}
use Rattle.rdl_nodes.proofs.leads.+leads.Goals as goal

pub leads_inside-item_leads_inside-requires : goal.leads_inside-item_leads_inside-requires
leads_inside-item_leads_inside-requires t c =
    let few = count-item c.loop-item.item-index c.args.body.now c.as_slice-item-items.result.now c.item-item.result c.item-item.result c.as_slice-item-items.ensures c.loop-item-test.true c.item-item.is in
    let less : 3 * item_count c.item-item.result < t = omega (arith, c.decreases, few) in
    search (rules, less)
