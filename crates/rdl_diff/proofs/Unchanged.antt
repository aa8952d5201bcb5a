-- Nothing is told of values where two rows have the same.
use Rattle.std.proofs.Common.{◌≡◌, List, [], ◌∷◌, ◌++◌, Bool, true, false, flat_map, refl, sym, ap, ◌∙◌, append-nil}
use Rattle.std.specs.Prelude.{if◌then◌else◌}
use Rattle.rdl_tree.specs.Properties.{properties}
use Rattle.rdl_tree.specs.declared.property.Property.{Property}
use Rattle.rdl_elab.specs.SameValues.{HaveSameValues}
use Rattle.rdl_elab.specs.declared.row.Row.{Row}
use Rattle.rdl_diff.specs.Choices.{is_told}
use Rattle.rdl_diff.specs.DiffText.{Change, told_change}
use Rattle.rdl_diff.specs.Told.{same, told, value}
use Rattle.rdl_diff.specs.declared.what.What.TheVariants.{Value}
use Rattle.rdl_diff.proofs.Alike.{itself}

left-out : (b c : Bool) (x : List Change) → c ≡ true → (if b then (if c then [] else x) else []) ≡ []
left-out true c x e = ap (λ (d : Bool). if d then [] else x) e
left-out false c x e = refl

module _ (ignored : List Property) (old new : Row) (values : HaveSameValues old.values new.values) where
  is-same : (p : Property) → same (told (Value p) old) (told (Value p) new) ≡ true
  is-same p = ap (λ v. same (value v) (told (Value p) new)) (values p) ∙ itself (told (Value p) new)

  none : (p : Property) → told_change ignored old new (Value p) ≡ []
  none p = left-out (is_told ignored (Value p)) (same (told (Value p) old) (told (Value p) new)) _ (is-same p)

  none-of : (ps : List Property) → flat_map (λ p. told_change ignored old new (Value p)) ps ≡ []
  none-of [] = refl
  none-of (p ∷ ps) = λ i. none p i ++ none-of ps i

  pub nothing_told : (cs : List Change) → cs ≡ cs ++ flat_map (λ p. told_change ignored old new (Value p)) properties
  nothing_told cs = sym (append-nil cs) ∙ ap (λ t. cs ++ t) (sym (none-of properties))
