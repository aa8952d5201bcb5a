-- One level of a body as the list of its items, where each component's body is already seen as its items.
-- SystemRDL 2.0, clause 5, general concepts: the statements between two braces, in order.
use Rattle.std.specs.Prelude.{List, [], ◌∷◌, Option, Some, None}
use Rattle.rdl_tree.specs.Items.{Items, no_items, plain, holder, Plain, named, own, default, dynamic, Holder, define, anonymous}
use Rattle.rdl_tree.specs.declared.description.Item.{Item}
use Rattle.rdl_tree.specs.declared.description.Item.TheVariants.{Define, Instance, Own, Default, Dynamic}
use Rattle.rdl_tree.specs.declared.description.Of.TheVariants.{Named, Anonymous}

-- the item, and then these
abbrev pub add : Item → Items → Items
add (Define n c) rest = holder (define n c.kind) c.body rest
add (Instance s (Named t)) rest = plain (named s t) rest
add (Instance s (Anonymous c)) rest = holder (anonymous s c.kind) c.body rest
add (Own p v) rest = plain (own p v) rest
add (Default p v) rest = plain (default p v) rest
add (Dynamic t p v) rest = plain (dynamic t p v) rest

abbrev pub items_of : List Item → Items
items_of [] = no_items
items_of (x ∷ xs) = add x (items_of xs)

abbrev pub plain_item : Plain → Item
plain_item (named s t) = Instance s (Named t)
plain_item (own p v) = Own p v
plain_item (default p v) = Default p v
plain_item (dynamic t p v) = Dynamic t p v

abbrev pub holder_item : Holder → Items → Item
holder_item (define n k) body = Define n (record { kind = k; body = body })
holder_item (anonymous s k) body = Instance s (Anonymous (record { kind = k; body = body }))

abbrev pub list_of : Items → List Item
list_of no_items = []
list_of (plain p rest) = plain_item p ∷ list_of rest
list_of (holder h body rest) = holder_item h body ∷ list_of rest

-- the body of an item's own component
abbrev pub own_body : Item → Option Items
own_body (Define n c) = Some c.body
own_body (Instance s (Named t)) = None
own_body (Instance s (Anonymous c)) = Some c.body
own_body (Own p v) = None
own_body (Default p v) = None
own_body (Dynamic t p v) = None
