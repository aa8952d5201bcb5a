-- What the values of a node mean, in a description without a fault.
-- SystemRDL 2.0, clause 5, property assignment.
use Rattle.std.specs.Prelude.{◌≡◌, ℕ, ◌&&◌, not, Bool, true, false, List, [], Some, None}
use Rattle.std.specs.Option.{is_none}
use Rattle.rdl_tree.specs.Items.{Items, Plain, Holder}
use Rattle.rdl_tree.specs.Properties.{row, takes}
use Rattle.rdl_tree.specs.declared.value.Value.{Value}
use Rattle.rdl_tree.specs.declared.property.Property.{Property}
use Rattle.rdl_scope.specs.Closed as scope
use Rattle.rdl_scope.specs.Closed.{Parts, Made, Standing, stated, nothing, standing_at, component}
use Rattle.rdl_scope.specs.ItemFaults.{fault_of, is_too_large}
use Rattle.rdl_seen.specs.declared.values.Values.{Values}
use Rattle.rdl_seen.specs.Clean.{are_clean}
use Rattle.rdl_seen.specs.Contents.{is_large}
use Rattle.rdl_seen.specs.Inside.{no_instances}
use Rattle.rdl_seen.specs.Layouts.{Laying}
use Rattle.rdl_seen.specs.Meaning.{defaults_of, stated_of, HasValues, Means, nothing_around, around_at, IsMeant, node_at, IsLikeNode}
use Rattle.rdl_seen.specs.Node.{Known, Around, values_of, after_plain, after_holder, body_of, node}
use Rattle.rdl_seen.specs.Slots.{Node}

-- each value that is stated of a component is one that its property takes
abbrev pub StatedAreTaken : Type 0
StatedAreTaken =
    (d : Items) (c : List ℕ) (m : Made) → fault_of d ≡ None → component d c ≡ Some m
    → (p : Property) (x : Value) → stated m.head (row p).name ≡ Some x → takes p x ≡ true

-- the values of a component, under what the defaults state that reach it, are what is stated of it
abbrev pub ValuesAreStated : Type 0
ValuesAreStated =
    (d : Items) (c : List ℕ) (m : Made) → fault_of d ≡ None → component d c ≡ Some m
    → values_of m.head.kind (defaults_of m.head.defaults) m.head.body ≡ stated_of m.head

-- with the built-in values, they are those of the component
abbrev pub ValuesAreWhole : Type 0
ValuesAreWhole =
    (d : Items) (c : List ℕ) (m : Made) → fault_of d ≡ None → component d c ≡ Some m
    → HasValues m.head (values_of m.head.kind (defaults_of m.head.defaults) m.head.body)

-- what is seen behind an item is what stands there
abbrev pub MeansBehind : Type 0
MeansBehind = (e : Standing) (a : Around) → Means e a → (p : Plain) → Means (scope.after_plain p e) (after_plain p a)

-- and so behind one with a component, whatever is known of it
abbrev pub MeansBehindComponent : Type 0
MeansBehindComponent =
    (e : Standing) (a : Around) → Means e a → (h : Holder) (at : List ℕ) (body : Items) (inside : Parts) (k : Known)
    → Means (scope.after_holder h at body inside e) (after_holder h k a)

-- what an address sees is what stands before the item there
abbrev pub MeansAt : Type 0
MeansAt =
    (lay : Laying) (d : Items) (c : List ℕ) (e : Standing) → standing_at nothing [] c d ≡ Some e
    → (a : Around) → around_at lay nothing_around c d ≡ Some a → Means e a

-- the node of each component has that component's values
abbrev pub NodesHaveValues : Type 0
NodesHaveValues = (lay : Laying) (d : Items) (c : List ℕ) (m : Made) → fault_of d ≡ None → component d c ≡ Some m → IsMeant lay d c m

-- the node that is kept at the address of a component in a description is that of the component, by what that address sees
abbrev pub KeptAreNodes : Type 0
KeptAreNodes =
    (lay : Laying) (d : Items) (c : List ℕ) (m : Made) (a : Around) → component d c ≡ Some m → around_at lay nothing_around c d ≡ Some a
    → (n : Node) → node_at c (body_of lay nothing_around d).slots ≡ Some n → n ≡ node lay a m.head.kind m.head.body

-- a field that is written where it is instantiated isn't kept by itself; what is kept of it is the same
abbrev pub FieldsAreLikeNodes : Type 0
FieldsAreLikeNodes = (defaults : Values) (body : Items) → IsLikeNode defaults body

-- no item of a description has a fault
abbrev pub is_clean_map : Laying → Items → Bool
is_clean_map lay d = are_clean lay nothing_around None d 0 no_instances d

-- a description that isn't too large has no fault exactly where each item has none by what its body sees
abbrev pub FaultsAreFound : Type 0
FaultsAreFound = (lay : Laying) (d : Items) → is_none (fault_of d) ≡ (not (is_too_large d) && is_clean_map lay d)

-- a description whose items have no fault, and whose slots don't add up to too much, has none
abbrev pub SmallMapsFit : Type 0
SmallMapsFit = (lay : Laying) (d : Items) → is_clean_map lay d ≡ true → is_large (body_of lay nothing_around d).slots d ≡ false → fault_of d ≡ None
