-- The values of a row as those of its component with those of the instance put in.
-- own: how a row keeps its values. What they are `values_along` says.
use Rattle.std.specs.Prelude.{List, [], ◌∷◌, Option, None, option_map, if◌then◌else◌}
use Rattle.std.specs.List.{filter_map}
use Rattle.std.specs.Option.{option_or}
use Rattle.rdl_tree.specs.Properties.{on, properties}
use Rattle.rdl_tree.specs.declared.shell.Kind.{Kind}
use Rattle.rdl_tree.specs.declared.value.Value.{Value}
use Rattle.rdl_tree.specs.declared.property.Property.{Property}
use Rattle.rdl_tree.specs.declared.property.Property.TheVariants.{Reset}
use Rattle.rdl_elab.specs.declared.row.PropertyValue.{PropertyValue}
use Rattle.rdl_elab.specs.declared.row_values.Instead.{Instead}
use Rattle.rdl_elab.specs.declared.row_values.Instead.TheVariants.{Own, Nothing, Reset as OfReset, Assigned}
use Rattle.rdl_elab.specs.Reaches.{value_under}
use Rattle.rdl_elab.specs.Shown.{valued}

-- the value of a property of an instance of this kind, where these stand in the place of those of its component
abbrev pub instance_value : Kind → List PropertyValue → List PropertyValue → Property → Option Value
instance_value k values own p = if on p k then option_or (value_under p values) (value_under p own) else None

abbrev pub instance_values : Kind → List PropertyValue → List PropertyValue → List PropertyValue
instance_values k values own = filter_map (λ p. option_map (valued p) (instance_value k values own p)) properties

-- the values of a row, whose component has these
abbrev pub with_instance : Instead → List PropertyValue → List PropertyValue
with_instance Own own = own
with_instance (Nothing k) own = instance_values k [] own
with_instance (OfReset k v) own = instance_values k (valued Reset v.value ∷ []) own
with_instance (Assigned k values) own = instance_values k values.value.items own
