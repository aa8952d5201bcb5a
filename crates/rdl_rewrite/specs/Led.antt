-- Whether a reference to a definition's name leads to it, as a walk goes down and on.
-- own: no part of what a reference leads to; `type_of` (Types of rdl_scope) says the same by a search through whole bodies.
use Rattle.std.specs.Prelude.{◌≡◌, ℕ, Bool, true, false, if◌then◌else◌, List, Option, Some, None}
use Rattle.rdl_tree.specs.ItemAt.{item_at}
use Rattle.rdl_tree.specs.Items.{Items}
use Rattle.rdl_tree.specs.declared.description.Item.{Item}
use Rattle.rdl_tree.specs.declared.description.Item.TheVariants.{Define, Instance, Own, Default, Dynamic}
use Rattle.rdl_scope.specs.Types.{type_at}
use Rattle.rdl_scope.specs.Walk.{is_definition, reference_of}
use Rattle.rdl_rewrite.specs.Addresses.{same, leads_to}

-- the item is an instance of a type with the name of the taken definition
abbrev pub is_name_of : Option Item → Option (List ℕ) → Bool
is_name_of taken None = false
is_name_of taken (Some t) = is_definition t taken

abbrev pub refers_to : (taken : Option Item) → Item → Bool
refers_to taken x = is_name_of taken (reference_of x)

-- a reference to the name of the definition on the way leads to it, if it stands in the item at this address
pub record IsLed (d : Items) (way at : List ℕ) (led : Bool) : Type 0 where
  pub leads : (name : List ℕ) → is_definition name (item_at way d) ≡ true → led ≡ leads_to way (type_at at d name)

-- the same behind the item at this address, where `led` says so in it
abbrev pub led_behind : (way : List ℕ) → (taken : Option Item) → (at : List ℕ) → Item → (led : Bool) → Bool
led_behind way taken at (Define n c) led = if is_definition n taken then same at way else led
led_behind way taken at (Instance s o) led = led
led_behind way taken at (Own p v) led = led
led_behind way taken at (Default p v) led = led
led_behind way taken at (Dynamic t p v) led = led
