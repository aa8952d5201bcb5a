-- The values of a component as those that it states, over those that its kind has built in.
-- own: how a component keeps its values. What they are `shown_values` says.
use Rattle.std.specs.Prelude.{ℕ, List, Option, None, Some, option_map, bytes_eq, if◌then◌else◌}
use Rattle.std.specs.Option.{option_or}
use Rattle.std.specs.List.{filter_map}
use Rattle.rdl_tree.specs.Properties.{row, on, properties}
use Rattle.rdl_tree.specs.declared.shell.Kind.{Kind}
use Rattle.rdl_tree.specs.declared.value.Value.{Value}
use Rattle.rdl_tree.specs.declared.property.Property.{Property}
use Rattle.rdl_tree.specs.declared.property.Property.TheVariants.{Regwidth, Accesswidth}
use Rattle.rdl_scope.specs.Value.{shown}
use Rattle.rdl_scope.specs.Closed.{Head, stated}
use Rattle.rdl_elab.specs.declared.row.PropertyValue.{PropertyValue}
use Rattle.rdl_elab.specs.Shown.{valued}
use Rattle.rdl_elab.specs.Reaches.{value_under}

-- a value as a component of this kind shows it
abbrev pub shown_on : Kind → Property → Option Value → Option Value
shown_on k p v = if on p k then option_map (shown (row p).form) v else None

-- a value, if it is assigned under the name of this property
abbrev pub if_named : List ℕ → Option Value → Property → Option Value
if_named name v p = if bytes_eq name (row p).name then v else None

-- what a component states for a property: an assignment or a default, which for `accesswidth` may be one of `regwidth`
abbrev pub stated_for : Head → Property → Option Value
stated_for h Accesswidth = option_or (stated h (row Accesswidth).name) (stated h (row Regwidth).name)
stated_for h p = stated h (row p).name

-- the value of a property in the first list, or else in the second
abbrev pub under_either : List PropertyValue → List PropertyValue → Property → Option Value
under_either stated built_ins p = option_or (value_under p stated) (value_under p built_ins)

-- the values of all properties, those that are stated over those that are built in
abbrev pub over : Option (List PropertyValue) → List PropertyValue → List PropertyValue
over None built_ins = built_ins
over (Some stated) built_ins = filter_map (λ p. option_map (valued p) (under_either stated built_ins p)) properties
