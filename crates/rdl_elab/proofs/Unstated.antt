-- A component without assignments has the values of one with an empty body.
use Rattle.std.proofs.Common.{◌≡◌, ℕ, List, None, option_map}
use Rattle.std.specs.Prelude.{if◌then◌else◌}
use Rattle.std.specs.List.{filter_map}
use Rattle.std.specs.Option.{option_or}
use Rattle.rdl_tree.specs.Items.{Items, no_items}
use Rattle.rdl_tree.specs.Properties.{row, on, properties}
use Rattle.rdl_tree.specs.declared.shell.Kind.{Kind}
use Rattle.rdl_tree.specs.declared.property.Property.{Property}
use Rattle.rdl_tree.specs.declared.property.Property.TheVariants.{Regwidth, Accesswidth}
use Rattle.rdl_tree.specs.declared.value.Value.{Value}
use Rattle.rdl_scope.specs.Value.{shown, own_value}
use Rattle.rdl_scope.specs.Closed.{head_value, lookup}
use Rattle.rdl_elab.specs.Layouts.{values_of, layout_values}
use Rattle.rdl_elab.specs.Shown.{valued, bare, shown_among, shown_values}

module _ (k : Kind) (t : Items) (ds : List (List ℕ × Value)) (none : (p : Property) → own_value (row p).name t ≡ None) where
  value-unassigned : (p : Property) → head_value (bare k t ds) p ≡ head_value (bare k no_items ds) p
  value-unassigned Accesswidth = λ i. option_or (option_or (none Accesswidth i) (lookup (row Accesswidth).name ds)) (option_or (option_or (none Regwidth i) (lookup (row Regwidth).name ds)) (row Regwidth).built_in)
  value-unassigned p = λ i. option_or (option_or (none p i) (lookup (row p).name ds)) (row p).built_in

  pub layout-unassigned : values_of (bare k t ds) ≡ values_of (bare k no_items ds)
  layout-unassigned = λ i. layout_values (λ p. value-unassigned p i)

  pub shown-unassigned : shown_values (bare k t ds) ≡ shown_values (bare k no_items ds)
  shown-unassigned =
      let all : (xs : List Property) → shown_among (bare k t ds) xs ≡ shown_among (bare k no_items ds) xs =
      λ xs i. filter_map (λ p. option_map (valued p) (if on p k then option_map (shown (row p).form) (value-unassigned p i) else None)) xs in
      all properties
