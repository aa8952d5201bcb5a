-- Where the last definition or the last instance of a name stands.
-- own: how items are found by their names.
use Rattle.std.specs.Prelude.{ℕ, zero, suc, List, Bool, Option, Some, None, slice_get, if◌then◌else◌}
use Rattle.std.specs.Option.{is_some}
use Rattle.rdl_tree.specs.Items.{Items}
use Rattle.rdl_tree.specs.View.{list_of}
use Rattle.rdl_tree.specs.declared.description.Item.{Item}
use Rattle.rdl_places.specs.declared.numbers.Sought.{Sought}
use Rattle.rdl_places.specs.declared.numbers.Sought.TheVariants.{Definition, Instance}
use Rattle.rdl_places.specs.Reached.{instance_named}
use Rattle.rdl_places.specs.Scopes.{definition}

-- the item is a definition, or an instance, of this name
abbrev pub is_sought : Sought → List ℕ → Option Item → Bool
is_sought Definition name x = is_some (definition name x)
is_sought Instance name x = is_some (instance_named name x)

-- the number of the last such item among the first ones of a body
abbrev pub last_sought : Sought → List ℕ → ℕ → Items → Option ℕ
last_sought s name zero t = None
last_sought s name (suc i) t = if is_sought s name (slice_get (list_of t) i) then Some i else last_sought s name i t
