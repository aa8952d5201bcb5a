-- An item's own component, and the item with another in its place.
-- SystemRDL 2.0, clause 5, defining and instantiating components: a definition and an anonymous instance have one.
use Rattle.std.specs.Prelude.{ℕ, zero, suc, Option, Some, None}
use Rattle.rdl_tree.specs.Items.{Items, no_items, plain, holder, Holder, define, anonymous}
use Rattle.rdl_tree.specs.declared.shell.Kind.{Kind}
use Rattle.rdl_tree.specs.declared.description.Item.{Item}
use Rattle.rdl_tree.specs.declared.description.Item.TheVariants.{Define, Instance, Own, Default, Dynamic}
use Rattle.rdl_tree.specs.declared.description.Component.{Component}
use Rattle.rdl_tree.specs.declared.description.Of.{Of}
use Rattle.rdl_tree.specs.declared.description.Of.TheVariants.{Named, Anonymous}

-- an item's own component
abbrev pub of_component : Of → Option Component
of_component (Named t) = None
of_component (Anonymous c) = Some c

abbrev pub own_component : Item → Option Component
own_component (Define n c) = Some c
own_component (Instance s o) = of_component o
own_component (Own p v) = None
own_component (Default p v) = None
own_component (Dynamic t p v) = None

abbrev pub with_of_component : Of → Component → Of
with_of_component (Named t) new = Named t
with_of_component (Anonymous c) new = Anonymous new

abbrev pub with_own_component : Item → Component → Item
with_own_component (Define n c) new = Define n new
with_own_component (Instance s o) new = Instance s (with_of_component o new)
with_own_component (Own p v) new = Own p v
with_own_component (Default p v) new = Default p v
with_own_component (Dynamic t p v) new = Dynamic t p v

abbrev pub holder_kind : Holder → Kind
holder_kind (define n k) = k
holder_kind (anonymous s k) = k

abbrev pub with_kind : Holder → Kind → Holder
with_kind (define n k) new = define n new
with_kind (anonymous s k) new = anonymous s new

-- the component of item i, if it has one of its own
abbrev pub component_at : ℕ → Items → Option Component
component_at i no_items = None
component_at zero (plain p rest) = None
component_at zero (holder h body rest) = Some (record { kind = holder_kind h; body = body })
component_at (suc i) (plain p rest) = component_at i rest
component_at (suc i) (holder h body rest) = component_at i rest

-- the items with the component of item i replaced, where there is one
abbrev pub set_component : ℕ → Component → Items → Items
set_component i new no_items = no_items
set_component zero new (plain p rest) = plain p rest
set_component zero new (holder h body rest) = holder (with_kind h new.kind) new.body rest
set_component (suc i) new (plain p rest) = plain p (set_component i new rest)
set_component (suc i) new (holder h body rest) = holder h body (set_component i new rest)
