use Rattle.std.proofs.Common.{◌+◌, ◌*◌}
use Rattle.rdl_tree.proofs.Sizes.{item_count}
use Rattle.rdl_tree.specs.Items.{count}
use Rattle.rdl_nodes.proofs.leads.+leads.Given as goal

abbrev pub decreases-leads_inside : goal.decreases-leads_inside
decreases-leads_inside l = 3 * count l.body.now + 1

abbrev pub decreases-component_leads_inside : goal.decreases-component_leads_inside
decreases-component_leads_inside l = 3 * count l.component.now.body + 2

abbrev pub decreases-item_leads_inside : goal.decreases-item_leads_inside
decreases-item_leads_inside l = 3 * item_count l.item.now
