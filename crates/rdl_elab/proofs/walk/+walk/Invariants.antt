use Rattle.std.proofs.Common.{◌≡◌, ◌+◌, ◌-◌, ◌*◌, length, take}
use Rattle.std.specs.Prelude.{IfSome}
use Rattle.rdl_tree.specs.View.{items_of}
use Rattle.rdl_scope.specs.Closed.{Standing, parts, standing}
use Rattle.rdl_elab.specs.Finished.{AreParts}
use Rattle.rdl_elab.specs.OwnValues.{AreOfInstances}
use Rattle.rdl_elab.specs.Stands.{Stands, IsBehind}
use Rattle.rdl_elab.proofs.walk.+walk.Given as goal

abbrev pub decreases-walk_items : goal.decreases-walk_items
decreases-walk_items l = 5 * (17 - length l.at.now) + 4

abbrev pub decreases-walk_item : goal.decreases-walk_item
decreases-walk_item l = 5 * (17 - length l.at.now) + 3

abbrev pub decreases-walk_instance : goal.decreases-walk_instance
decreases-walk_instance l = 5 * (17 - length l.at.now) + 2

abbrev pub decreases-finish_inside : goal.decreases-finish_inside
decreases-finish_inside l = 5 * (17 - length l.at.now) + 1

abbrev pub decreases-finish : goal.decreases-finish
decreases-finish l = 5 * (17 - length l.at.now) + 5

abbrev pub invariant-walk_items-loop-i : goal.invariant-walk_items-loop-i
invariant-walk_items-loop-i l = record {
  parts : (e : Standing) → Stands l.description.items l.initial.walk e → AreParts l.description.items l.walk.components.items (length l.walk.components.items) l.parts.items (parts e l.at 0 (items_of (take l.i l.items)));
  stands : (e : Standing) → Stands l.description.items l.initial.walk e → Stands l.description.items l.walk (standing e l.at 0 (items_of (take l.i l.items)));
  shared : IfSome l.shared (λ a. a ≡ l.at);
  behind : IsBehind l.initial.walk l.walk;
  instances : AreOfInstances l.items l.parts.items;
}
