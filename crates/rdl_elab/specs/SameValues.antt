-- Lists of values that say the same.
-- own: how rows are compared.
use Rattle.std.specs.Prelude.{◌≡◌, List}
use Rattle.rdl_tree.specs.declared.property.Property.{Property}
use Rattle.rdl_elab.specs.declared.row.PropertyValue.{PropertyValue}
use Rattle.rdl_elab.specs.Reaches.{value_under}

-- each property has the same value in both, or none
abbrev pub HaveSameValues : List PropertyValue → List PropertyValue → Type 0
HaveSameValues values others = (p : Property) → value_under p values ≡ value_under p others
