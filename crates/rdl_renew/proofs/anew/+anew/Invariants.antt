-- The measure of items that are done anew, and what holds of those of a body that are.
use Rattle.std.proofs.Common.{◌≡◌, ◌+◌, ◌*◌, length}
use Rattle.rdl_tree.proofs.Sizes.{item_count}
use Rattle.rdl_tree.specs.Items.{count}
use Rattle.rdl_places.specs.HeldScope.{outer_places}
use Rattle.rdl_places.specs.Lasting.{AreLasts}
use Rattle.rdl_places.specs.Scopes.{around_places, IsScope}
use Rattle.rdl_renew.specs.Judged.{IfStillClean}
use Rattle.rdl_renew.proofs.CleanBelow.{HasCleanBelow}
use Rattle.rdl_renew.proofs.NewItems.{AreFirst}
use Rattle.rdl_renew.proofs.anew.+anew.Given as goal

abbrev pub decreases-body_anew : goal.decreases-body_anew
decreases-body_anew g l = 4 * count l.body.now + 1

abbrev pub decreases-component_anew : goal.decreases-component_anew
decreases-component_anew g l = 4 * count l.component.now.body + 2

abbrev pub decreases-anonymous_anew : goal.decreases-anonymous_anew
decreases-anonymous_anew g l = 4 * count l.component.now.body + 3

abbrev pub decreases-item_anew : goal.decreases-item_anew
decreases-item_anew g l = 4 * item_count l.item.now

abbrev pub invariant-body_anew-loop-i : goal.invariant-body_anew-loop-i
invariant-body_anew-loop-i g l = record {
  number : length l.slots.items ≡ l.i;
  lasts : AreLasts l.body l.lasts;
  done : IsScope g.L.Lays.laying (outer_places l.outer) → l.fn.defaults ≡ (around_places g.L.Lays.laying (outer_places l.outer)).defaults
      → AreFirst g.L.Lays.laying (outer_places l.outer) l.body l.slots.items l.defaults;
  clean : IsScope g.L.Lays.laying (outer_places l.outer) → l.fn.defaults ≡ (around_places g.L.Lays.laying (outer_places l.outer)).defaults
      → IfStillClean l.fn.judge.is_clean l.judge.is_clean (HasCleanBelow g.L.Lays.laying (outer_places l.outer) l.around l.body l.i);
}
