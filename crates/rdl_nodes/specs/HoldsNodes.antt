-- What a tree holds of a description.
-- own: SystemRDL 2.0 has no trees of nodes.
use Rattle.std.specs.Prelude.{◌≡◌, ℕ, List, Some}
use Rattle.rdl_tree.specs.Items.{Items}
use Rattle.rdl_scope.specs.Closed.{Made, component}
use Rattle.rdl_seen.specs.Layouts.{Laying}
use Rattle.rdl_seen.specs.Meaning.{nothing_around, around_at, node_at}
use Rattle.rdl_seen.specs.Node.{Around, node}
use Rattle.rdl_seen.specs.Slots.{Node, Slots}

-- what it has at the address of a component is that component's node, by what the address sees
abbrev pub HoldsNodes : Laying → Items → Slots → Type 0
HoldsNodes lay d tree =
    (c : List ℕ) (m : Made) (a : Around) → component d c ≡ Some m → around_at lay nothing_around c d ≡ Some a
    → (n : Node) → node_at c tree ≡ Some n → n ≡ node lay a m.head.kind m.head.body
