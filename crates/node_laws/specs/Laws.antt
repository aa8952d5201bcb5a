-- What the nodes of a description without a fault mean.
-- own: SystemRDL 2.0 has no edits.
use Rattle.std.specs.Prelude.{◌≡◌, ℕ, false, List, [], Some, None}
use Rattle.rdl_tree.specs.Component.{holder_kind}
use Rattle.rdl_tree.specs.ItemAt.{item_at}
use Rattle.rdl_tree.specs.Items.{Items, Plain, Holder}
use Rattle.rdl_scope.specs.Closed as scope
use Rattle.rdl_scope.specs.Closed.{Parts, Made, Standing, head_at, nothing, standing_at, component}
use Rattle.rdl_scope.specs.ItemFaults.{fault_of}
use Rattle.rdl_seen.specs.Layouts.{Laying}
use Rattle.rdl_seen.specs.Meaning.{nothing_around, around_at, node_at}
use Rattle.rdl_seen.specs.Node.{Known, Around, after_plain, after_holder, body_of, node, known}
use Rattle.rdl_seen.specs.Slots.{Node}
use Rattle.node_laws.specs.Kept.{is_field_there, IsKept}
use Rattle.node_laws.specs.Laid.{laying}
use Rattle.node_laws.specs.Meant.{IsCore, IsKnown, MeansAll}

-- what is seen behind an item is what stands there
abbrev pub MeansAllBehind : Type 0
MeansAllBehind = (e : Standing) (a : Around) → MeansAll e a → (p : Plain) → MeansAll (scope.after_plain p e) (after_plain p a)

-- and so behind one with a component, of which this is known
abbrev pub MeansAllBehindComponent : Type 0
MeansAllBehindComponent =
    (e : Standing) (a : Around) → MeansAll e a → (h : Holder) (at : List ℕ) (body : Items) (inside : Parts) (k : Known)
    → IsKnown (record { head = head_at at (holder_kind h) body e; parts = inside }) k
    → MeansAll (scope.after_holder h at body inside e) (after_holder h k a)

-- what an address sees is what stands before the item there
abbrev pub MeansAllAt : Type 0
MeansAllAt =
    (d : Items) (c : List ℕ) (e : Standing) → fault_of d ≡ None → standing_at nothing [] c d ≡ Some e
    → (a : Around) → around_at laying nothing_around c d ≡ Some a → MeansAll e a

-- the node of each component, by what its address sees, is what is seen of the component, and what is known of it
abbrev pub NodesAreSeen : Type 0
NodesAreSeen =
    (d : Items) (c : List ℕ) (m : Made) → fault_of d ≡ None → component d c ≡ Some m
    → (a : Around) → around_at laying nothing_around c d ≡ Some a → IsCore m (node laying a m.head.kind m.head.body).core

abbrev pub NodesAreKnown : Type 0
NodesAreKnown =
    (d : Items) (c : List ℕ) (m : Made) → fault_of d ≡ None → component d c ≡ Some m
    → (a : Around) → around_at laying nothing_around c d ≡ Some a → IsKnown m (known laying a m.head.kind m.head.body)

-- so is the node that is kept there
abbrev pub KeptAreSeen : Type 0
KeptAreSeen =
    (d : Items) (c : List ℕ) (m : Made) → fault_of d ≡ None → component d c ≡ Some m
    → (n : Node) → node_at c (body_of laying nothing_around d).slots ≡ Some n → IsCore m n.core

-- the node of each component is kept, but for fields that are written where they are instantiated
abbrev pub NodesAreKept : Type 0
NodesAreKept =
    (lay : Laying) (d : Items) (c : List ℕ) (m : Made) → fault_of d ≡ None → component d c ≡ Some m → is_field_there (item_at c d) ≡ false
    → IsKept lay d c m
