use Rattle.std.proofs.Common.{◌≡◌, ℕ, List, Some, None, rules}
use Rattle.rdl_tree.specs.Properties.{row}
use Rattle.rdl_scope.specs.Walk.{owned_by}
use Rattle.rdl_elab.specs.OwnValues.{assigned_to}
use Rattle.rdl_elab.proofs.StatedLists.{adds-none}
use Rattle.rdl_elab.proofs.walk.own_values.add_own.Goals as goal

pub returns-in_default : goal.returns-in_default
returns-in_default c =
    let none : (name : List ℕ) → owned_by name (Some c.args.item.now) ≡ None = λ name. search rules in
    λ p. adds-none (assigned_to p c.args.items.now.items) (owned_by (row p).name (Some c.args.item.now)) (none (row p).name)
