-- What assigns neither `sw` nor `reset` is harmless.
use Rattle.std.proofs.Common.{◌≡◌, ℕ, List, [], ◌∷◌, Bool, true, false, Some, refl}
use Rattle.std.specs.Prelude.{nat_eq, bytes_eq, not, if◌then◌else◌}
use Rattle.std.specs.List.{list_all}
use Rattle.std.specs.Cmp.Lexicographic.{pointwise}
use Rattle.rdl_tree.specs.Properties.{row}
use Rattle.rdl_tree.specs.declared.value.Value.{Value}
use Rattle.rdl_tree.specs.declared.property.Property.TheVariants.{Sw, Reset}
use Rattle.rdl_scope.specs.Closed.{Head, Parts, no_parts, part}
use Rattle.rdl_elab.specs.Layouts.{number_in}
use Rattle.rdl_elab.specs.Faults.{is_reset_too_wide}
use Rattle.sound_laws.specs.Harmless.{Laying, Spot, elsewhere, in_register, is_fitting, spots_in, each_at, is_harmless_along, is_harmless, are_harmless, is_unjudged}
use Rattle.sound_laws.specs.Laws.{UnjudgedAreHarmless}
use Rattle.sound_laws.proofs.Lists.{both, and_both, not_false}

each_true : (f : Spot → Head → Parts → Bool) → ((spot : Spot) (h : Head) (inside : Parts) → f spot h inside ≡ true)
    → (a : List ℕ) (spots : List Spot) (ps : Parts) → each_at f a spots ps ≡ true
each_true f e a spots no_parts = refl
each_true f e a [] (part at s h inside rest) = refl
each_true f e a (spot ∷ spots) (part at s h inside rest) =
    and_both (if pointwise nat_eq a at then f spot h inside else true) (each_at f a spots rest) (by (pointwise nat_eq a at)) (each_true f e a spots rest)
  where
    by : (b : Bool) → (if b then f spot h inside else true) ≡ true
    by true = e spot h inside
    by false = refl

module _ (lay : Laying) (p : List ℕ) (v : Value) (no_reset : bytes_eq p (row Reset).name ≡ false) (no_sw : bytes_eq p (row Sw).name ≡ false) where
  always_fits : (spot : Spot) → is_fitting spot p v ≡ true
  always_fits elsewhere = refl
  always_fits (in_register apart span) = λ i. if no_reset i then not (is_reset_too_wide (number_in (Some v)) span) else (if no_sw i then apart else true)

  always_harmless : (path : List (List ℕ)) (spot : Spot) (h : Head) (inside : Parts) → is_harmless_along lay p v path spot h inside ≡ true
  always_harmless [] spot h inside = always_fits spot
  always_harmless (a ∷ path) spot h inside = each_true (is_harmless_along lay p v path) (always_harmless path) a (spots_in lay h inside) inside

pub unjudged : UnjudgedAreHarmless
unjudged lay c [] e = refl
unjudged lay c (r ∷ rs) e =
    let t = both (is_unjudged r) (list_all is_unjudged rs) e in
    let u = both (not (bytes_eq r.property (row Reset).name)) (not (bytes_eq r.property (row Sw).name)) t.0 in
    and_both (is_harmless lay c.head c.parts r) (are_harmless lay c.head c.parts rs)
    (always_harmless lay r.property r.value (not_false (bytes_eq r.property (row Reset).name) u.0) (not_false (bytes_eq r.property (row Sw).name) u.1) r.path elsewhere c.head c.parts)
    (unjudged lay c rs t.1)
