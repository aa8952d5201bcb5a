-- What one assignment more states, by its name.
use Rattle.std.proofs.Common.{◌≡◌, ℕ, Bool, true, false, List, [], ◌∷◌, Option, Some, None, option_map, if◌then◌else◌, bytes_eq, refl, sym, ap, ◌∙◌}
use Rattle.std.specs.Prelude.{option_and_then, find}
use Rattle.std.proofs.lemmas.Slice.Eq.{bytes_eq-Decides}
use Rattle.rdl_tree.specs.Properties.{row, property_of, properties}
use Rattle.rdl_tree.specs.declared.value.Value.{Value}
use Rattle.rdl_tree.specs.declared.property.Property.{Property}
use Rattle.rdl_tree.specs.declared.property.Property.TheVariants.{Name, Addressing, Alignment, Regwidth, Accesswidth, Fieldwidth, Sw, Reset}
use Rattle.rdl_seen.specs.declared.values.Values.{Values}
use Rattle.rdl_seen.specs.Meaning.{kept_of}
use Rattle.rdl_seen.specs.Values.{mode_of, number_of, width_of, access_of, reset_bits, put_found, put_named}

pub named-back : (p : Property) → property_of (row p).name ≡ Some p
unfolding property_of
named-back Name = refl
named-back p = refl

find-passes : {X : Type 0} (t : X → Bool) (xs : List X) (x : X) → find t xs ≡ Some x → t x ≡ true
find-passes t [] x e = absurd cc
find-passes t (y ∷ ys) x e =
    elim (t y) as (λ b. t y ≡ b → (if b then Some y else find t ys) ≡ Some x → t x ≡ true) [
      | true ↦ λ is f. let same : y ≡ x = cc in ap t (sym same) ∙ is
      | false ↦ λ is f. find-passes t ys x f
    ] refl e

-- the name of a property is that of its row
pub name-of : (name : List ℕ) (q : Property) → property_of name ≡ Some q → name ≡ (row q).name
unfolding property_of
name-of name q e = (bytes_eq-Decides name (row q).name).0 (find-passes (λ p. bytes_eq name (row p).name) properties q e)

pub property-named : (name : List ℕ) (q : Property) → bytes_eq name (row q).name ≡ true → property_of name ≡ Some q
property-named name q e = ap property_of ((bytes_eq-Decides name (row q).name).0 e) ∙ named-back q

-- a property that was found has the name of this one
has_name : Option Property → Property → Bool
has_name None q = false
has_name (Some p) q = bytes_eq (row p).name (row q).name

names-found : (name : List ℕ) (o : Option Property) (q : Property) → property_of name ≡ o → has_name o q ≡ bytes_eq name (row q).name
unfolding has_name
names-found name None q e = sym (by (bytes_eq name (row q).name) refl)
  where
    by : (b : Bool) → bytes_eq name (row q).name ≡ b → b ≡ false
    by true is = let found : property_of name ≡ Some q = property-named name q is in absurd cc
    by false is = refl
names-found name (Some p) q e = ap (λ n. bytes_eq n (row q).name) (sym (name-of name p e))

-- the value in the place of what was stated, where that is said
put_where : (Property → Bool) → Value → Values → Values
put_where here x v =
    record {
      addressing = if here Addressing then mode_of x else v.addressing;
      alignment = if here Alignment then number_of x else v.alignment;
      regwidth = if here Regwidth then width_of x else v.regwidth;
      accesswidth = if here Accesswidth then width_of x else v.accesswidth;
      fieldwidth = if here Fieldwidth then width_of x else v.fieldwidth;
      sw = if here Sw then Some (access_of x) else v.sw;
      reset = if here Reset then reset_bits x else v.reset;
    }

found-where : (o : Option Property) (x : Value) (v : Values) → put_found o x v ≡ put_where (has_name o) x v
unfolding put_where has_name
found-where None x v = refl
found-where (Some Name) x v = refl
found-where (Some p) x v = refl

through : {X Y : Type 0} (f : X → Option Y) (here : Bool) (x : X) (o : Option X) → (if here then f x else option_and_then f o) ≡ option_and_then f (if here then Some x else o)
through f true x o = refl
through f false x o = refl

through_map : {X Y : Type 0} (f : X → Y) (here : Bool) (x : X) (o : Option X) → (if here then Some (f x) else option_map f o) ≡ option_map f (if here then Some x else o)
through_map f true x o = refl
through_map f false x o = refl

where-kept : (here : Property → Bool) (x : Value) (value : Property → Option Value) → put_where here x (kept_of value) ≡ kept_of (λ q. if here q then Some x else value q)
unfolding put_where
where-kept here x value = λ i. record {
  addressing = through mode_of (here Addressing) x (value Addressing) i;
  alignment = through number_of (here Alignment) x (value Alignment) i;
  regwidth = through width_of (here Regwidth) x (value Regwidth) i;
  accesswidth = through width_of (here Accesswidth) x (value Accesswidth) i;
  fieldwidth = through width_of (here Fieldwidth) x (value Fieldwidth) i;
  sw = through_map access_of (here Sw) x (value Sw) i;
  reset = through reset_bits (here Reset) x (value Reset) i;
}

-- a value under a name, in the place of what was stated for the property of this name
pub put-kept : (name : List ℕ) (x : Value) (value : Property → Option Value)
    → put_named name x (kept_of value) ≡ kept_of (λ q. if bytes_eq name (row q).name then Some x else value q)
put-kept name x value =
    found-where (property_of name) x (kept_of value)
    ∙ (λ i. put_where (λ q. names-found name (property_of name) q refl i) x (kept_of value))
    ∙ where-kept (λ q. bytes_eq name (row q).name) x value
