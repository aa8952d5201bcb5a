-- The values that a component has by itself, as the rows of its instances show them.
-- SystemRDL 2.0, clause 5, property assignment. own: that a row shows them in the order of the table of properties.
use Rattle.std.specs.Prelude.{◌≡◌, ℕ, List, [], Option, None, option_map, if◌then◌else◌}
use Rattle.std.specs.List.{filter_map}
use Rattle.rdl_tree.specs.Items.{Items, no_items}
use Rattle.rdl_tree.specs.Properties.{row, on, properties}
use Rattle.rdl_tree.specs.declared.shell.Kind.{Kind}
use Rattle.rdl_tree.specs.declared.shell.Kind.TheVariants.{Addrmap, Regfile, Reg, Field}
use Rattle.rdl_tree.specs.declared.value.Value.{Value}
use Rattle.rdl_tree.specs.declared.property.Property.{Property}
use Rattle.rdl_scope.specs.Value.{shown}
use Rattle.rdl_scope.specs.Closed.{Head, head_value}
use Rattle.rdl_elab.specs.declared.row.PropertyValue.{PropertyValue}

abbrev pub valued : Property → Value → PropertyValue
valued p v = record { property = p; value = v }

abbrev pub shown_value : Head → Property → Option Value
shown_value h p = if on p h.kind then option_map (shown (row p).form) (head_value h p) else None

-- those that there are of these properties, and of all
abbrev pub shown_among : Head → List Property → List PropertyValue
shown_among h = filter_map (λ p. option_map (valued p) (shown_value h p))

abbrev pub shown_values : Head → List PropertyValue
shown_values h = shown_among h properties

-- the same of a component of this kind with this body, which these defaults reach, wherever it is written
abbrev pub bare : Kind → Items → List (List ℕ × Value) → Head
bare k body defaults = record { at = []; kind = k; body = body; defaults = defaults }

-- those of a component without assignments that no default reaches
abbrev pub built_in_values : Kind → List PropertyValue
built_in_values k = shown_values (bare k no_items [])

-- these are those of each kind
pub record AreBuiltIns (addrmap regfile reg field : List PropertyValue) : Type 0 where
  pub addrmaps : addrmap ≡ built_in_values Addrmap
  pub regfiles : regfile ≡ built_in_values Regfile
  pub regs : reg ≡ built_in_values Reg
  pub fields : field ≡ built_in_values Field
