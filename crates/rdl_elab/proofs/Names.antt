-- Two properties have two names.
use Rattle.std.proofs.Common.{◌≡◌, ℕ, List, [], ◌∷◌, true, false, Bool, Some, refl, ap, ◌∙◌, sym}
use Rattle.std.specs.Prelude.{bytes_eq, ◌||◌}
use Rattle.std.proofs.lemmas.Slice.Eq.{bytes_eq-Decides}
use Rattle.rdl_tree.specs.Properties.{row, property_of, properties}
use Rattle.rdl_tree.specs.declared.property.Property.{Property}
use Rattle.rdl_tree.specs.declared.property.Property.TheVariants.{Name}

pub named-back : (p : Property) → property_of (row p).name ≡ Some p
unfolding property_of
named-back Name = refl
named-back p = refl

pub names-apart : (p q : Property) → bytes_eq (row p).name (row q).name ≡ true → p ≡ q
names-apart p q e =
    let same : Some p ≡ Some q = sym (named-back p) ∙ ap property_of ((bytes_eq-Decides (row p).name (row q).name).0 e) ∙ named-back q in
    cc

abbrev pub is_named : List ℕ → List Property → Bool
is_named name [] = false
is_named name (p ∷ ps) = bytes_eq (row p).name name || is_named name ps

pub all-named : (p : Property) → is_named (row p).name properties ≡ true
all-named Name = refl
all-named p = refl
