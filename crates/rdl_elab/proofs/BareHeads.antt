-- The values of a component depend on its kind, its body and the defaults that reach it.
use Rattle.std.proofs.Common.{◌≡◌, ℕ, List, None, refl, ap, ◌∙◌, sym, option_map}
use Rattle.std.specs.Prelude.{if◌then◌else◌}
use Rattle.std.specs.List.{filter_map}
use Rattle.std.specs.Option.{option_or}
use Rattle.rdl_tree.specs.Items.{Items}
use Rattle.rdl_tree.specs.Properties.{row, on, properties}
use Rattle.rdl_tree.specs.declared.shell.Kind.{Kind}
use Rattle.rdl_tree.specs.declared.shell.Kind.TheVariants.{Field}
use Rattle.rdl_tree.specs.declared.property.Property.{Property}
use Rattle.rdl_tree.specs.declared.property.Property.TheVariants.{Accesswidth}
use Rattle.rdl_tree.specs.declared.value.Value.{Value}
use Rattle.rdl_scope.specs.Value.{shown}
use Rattle.rdl_scope.specs.Closed.{Head, stated, built_in, head_value}
use Rattle.rdl_elab.specs.Layouts.{values_of, layout_values}
use Rattle.rdl_elab.specs.Shown.{valued}
use Rattle.rdl_elab.specs.Shown.{bare, shown_value, shown_among, shown_values}

built_in-bare : (h : Head) (p : Property) → built_in (bare h.kind h.body h.defaults) p ≡ built_in h p
built_in-bare h Accesswidth = refl
built_in-bare h p = refl

value-bare : (h : Head) (p : Property) → shown_value (bare h.kind h.body h.defaults) p ≡ shown_value h p
value-bare h p = ap (λ v. if on p h.kind then option_map (shown (row p).form) (option_or (stated h (row p).name) v) else None) (built_in-bare h p)

pub shown-bare : (h : Head) (k : Kind) (b : Items) (ds : List (List ℕ × Value)) → h.kind ≡ k → h.body ≡ b → h.defaults ≡ ds → shown_among (bare k b ds) properties ≡ shown_values h
shown-bare h k b ds e f g =
    let all : (xs : List Property) → shown_among (bare h.kind h.body h.defaults) xs ≡ shown_among h xs = λ xs i. filter_map (λ p. option_map (valued p) (value-bare h p i)) xs in
    (λ i. shown_among (bare (sym e i) (sym f i) (sym g i)) properties) ∙ all properties

-- the same of the values on which a layout depends
pub layout-bare : (h : Head) (b : Items) (ds : List (List ℕ × Value)) → h.body ≡ b → h.defaults ≡ ds → values_of (bare Field b ds) ≡ values_of h
layout-bare h b ds f g =
    (λ i. layout_values (head_value (bare Field (sym f i) (sym g i)))) ∙ (λ i. layout_values (λ p. bare-value p i))
  where
    bare-value : (p : Property) → head_value (bare Field h.body h.defaults) p ≡ head_value h p
    bare-value Accesswidth = refl
    bare-value p = refl
