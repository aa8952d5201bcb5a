-- The values of a row, where assignments reach its instance and where none does.
use Rattle.std.proofs.Common.{◌≡◌, ℕ, Bool, true, false, List, [], ◌∷◌, Option, None, Some, refl, rules}
use Rattle.rdl_tree.specs.declared.shell.Kind.{Kind}
use Rattle.rdl_elab.specs.declared.row.PropertyValue.{PropertyValue}
use Rattle.rdl_elab.specs.Reaches.{Reach, has_ended, reached, reset_value, value_under, values_along}
use Rattle.rdl_elab.specs.Shown.{valued}
use Rattle.rdl_tree.specs.Properties.{row, on, properties}
use Rattle.rdl_scope.specs.Value.{shown}
use Rattle.std.specs.Option.{option_or}
use Rattle.std.specs.List.{filter_map, list_any}
use Rattle.std.specs.Prelude.{◌||◌, ◌&&◌, bytes_eq, option_map, if◌then◌else◌}

-- assignments that have more instances to pass change no value
module _ (rs : List Reach) (h : list_any (λ (a : Reach). has_ended a.path) rs ≡ false) where
  none-reached : (p : List ℕ) (rs : List Reach) → list_any (λ (a : Reach). has_ended a.path) rs ≡ false → reached p rs ≡ None
  none-reached p [] h = refl
  none-reached p (r ∷ rs) h = by (none-reached p rs) (has_ended r.path) h
    where
      by : (list_any (λ (a : Reach). has_ended a.path) rs ≡ false → reached p rs ≡ None) → (t : Bool) → t || list_any (λ (a : Reach). has_ended a.path) rs ≡ false → (if t && bytes_eq r.property p then Some r.value else reached p rs) ≡ None
      by none true e = absurd (search rules)
      by none false e = none e

  pub kept-passing : (k : Kind) (reset : Option ℕ) (values : List PropertyValue) → values_along k reset rs values ≡ values_along k reset [] values
  kept-passing k reset values = λ i. filter_map (λ p. option_map (valued p) (if on p k then option_or (option_map (shown (row p).form) (option_or (none-reached (row p).name rs h i) (reset_value p reset))) (value_under p values) else None)) properties
