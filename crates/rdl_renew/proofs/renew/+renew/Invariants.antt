-- The measure of a body that is renewed, and what holds of its items that are done.
use Rattle.std.proofs.Common.{◌≡◌, ◌+◌, ◌-◌, ◌*◌, ◌≤◌, ◌||◌, length}
use Rattle.rdl_tree.proofs.Sizes.{item_count}
use Rattle.rdl_tree.specs.Items.{Items, count}
use Rattle.rdl_marks.specs.View.{in_order}
use Rattle.rdl_nodes.specs.View.{slots_of}
use Rattle.rdl_places.specs.HeldScope.{outer_places}
use Rattle.rdl_places.specs.Lasting.{AreLasts}
use Rattle.rdl_seen.specs.Node.{Around}
use Rattle.rdl_seen.specs.PropertySet.{with_properties}
use Rattle.rdl_renew.specs.AlikeSlots.{tells_of_width}
use Rattle.rdl_renew.specs.Along.{HasPassed}
use Rattle.rdl_renew.specs.HeldRenewal.{renewing}
use Rattle.rdl_renew.specs.InPlace.{AddAsSaid}
use Rattle.rdl_renew.specs.Placed.{sets_width}
use Rattle.rdl_renew.specs.Raised.{raised}
use Rattle.rdl_renew.specs.Renewing.{Became, IsReached}
use Rattle.rdl_renew.proofs.PassedOver.{Stand}
use Rattle.rdl_renew.proofs.renew.+renew.Given as goal

abbrev pub decreases-renew_body : goal.decreases-renew_body
decreases-renew_body g l = 9 * count l.renewal.now.body.now + 6

abbrev pub decreases-renewed_component : goal.decreases-renewed_component
decreases-renewed_component g l = 9 * count l.component.now.body + 7

abbrev pub decreases-renewed_slot : goal.decreases-renewed_slot
decreases-renewed_slot g l = 9 * item_count l.item.now + 1

abbrev pub decreases-renew_stayed : goal.decreases-renew_stayed
decreases-renew_stayed g l = 9 * item_count l.item.now + 2

abbrev pub decreases-renew_marked : goal.decreases-renew_marked
decreases-renew_marked g l = 9 * item_count l.item.now + 3

abbrev pub decreases-renew_other : goal.decreases-renew_other
decreases-renew_other g l = 9 * item_count l.item.now + 4

abbrev pub decreases-renew_item : goal.decreases-renew_item
decreases-renew_item g l = 9 * item_count l.item.now + 5

abbrev pub invariant-renew_body-loop-number : goal.invariant-renew_body-loop-number
invariant-renew_body-loop-number g l = record {
  passed : HasPassed (in_order l.marks-inside.pieces) l.marks-inside.behind l.along l.number;
  few : l.number ≤ length l.items;
  lasts : AreLasts l.renewal.body.now l.done.lasts;
  stand : (old : Items) (saw : Around) → Became g.L.Lays.laying saw (slots_of l.renewal.slots.now) l.marks old l.renewal.body.now → IsReached g.L.Lays.laying (outer_places l.renewal.outer) saw l.fn.reach
      → Stand g.L.Lays.laying (renewing l.renewal l.marks old saw) l.items (tells_of_width l.fn.reach.alert || sets_width l.marks l.renewal.body.now) l.fn.account.judge.is_clean l.account.judge.is_clean
      l.fn.account.placed l.account.placed l.number l.done;
  add_same : AddAsSaid (slots_of l.renewal.slots.now) l.done;
  width : l.done.reach.alert.properties ≡ with_properties l.fn.reach.alert.properties (raised l.marks l.renewal.body.now).properties;
}

abbrev pub decreases-renew_body-loop-number : goal.decreases-renew_body-loop-number
decreases-renew_body-loop-number g l = length l.items - l.number
