-- A body that isn't edited says of the width of its fields what it said.
use Rattle.std.proofs.Common.{◌≡◌, ℕ, suc, ◌≤◌, Bool, true, false, ◌&&◌, List, [], ◌∷◌, ◌++◌, length, take, Option, Some, None, unwrap_or, refl, sym, ap, ◌∙◌, arith}
use Rattle.std.specs.Prelude.{slice_get, is_some}
use Rattle.std.proofs.lemmas.List.{take_all}
use Rattle.rdl_reach.proofs.Values.{unset_value}
use Rattle.rdl_tree.specs.Items.{Items, no_items, plain, holder, named, own, default, dynamic, define, anonymous}
use Rattle.rdl_tree.specs.Properties.{row, property_of}
use Rattle.rdl_tree.specs.View as tree
use Rattle.rdl_tree.specs.declared.description.Item.{Item}
use Rattle.rdl_tree.specs.declared.description.Item.TheVariants.{Define, Instance, Own, Default, Dynamic}
use Rattle.rdl_tree.specs.declared.description.Of.TheVariants.{Named, Anonymous}
use Rattle.rdl_tree.specs.declared.property.Property.{Property}
use Rattle.rdl_tree.specs.declared.property.Property.TheVariants.{Fieldwidth}
use Rattle.rdl_tree.specs.declared.value.Value.{Value}
use Rattle.rdl_marks.specs.Describes.{Describes, IsItem, restored}
use Rattle.rdl_marks.specs.InOrder.{AreInOrder}
use Rattle.rdl_marks.specs.Marks.{Firsts, Marks}
use Rattle.rdl_marks.specs.View.{old_item}
use Rattle.rdl_marks.proofs.From.{IsFrom}
use Rattle.rdl_seen.specs.declared.values.Values.{Values}
use Rattle.rdl_seen.specs.Values.{width_of, no_values, put_found, put_named, own_over, own_values}
use Rattle.rdl_reach.specs.EditedBodies.{lays_out, is_laid_out, is_set, is_edited}
use Rattle.rdl_reach.proofs.Follows.{same_there, laid_out_kept, Follows, at_the_end}
use Rattle.rdl_reach.proofs.Instances.{take_past}
use Rattle.rdl_renew.proofs.SideBySide.{take_next}

-- the width after a value of a property
abbrev width_put : Option Property → Value → Option ℕ → Option ℕ
width_put (Some Fieldwidth) v w = width_of v
width_put o v w = w

put_width : (o : Option Property) (v : Value) (w : Values) → (put_found o v w).fieldwidth ≡ width_put o v w.fieldwidth
put_width None v w = refl
put_width (Some Fieldwidth) v w = refl
put_width (Some p) v w = refl

other_width : (o : Option Property) (v : Value) (w : Option ℕ) → (elim o [ None ↦ false | Some p ↦ (row p).layout ]) ≡ false → width_put o v w ≡ w
other_width None v w e = refl
other_width (Some Fieldwidth) v w e = absurd (let no : true ≡ false = e in cc)
other_width (Some p) v w e = refl

-- the width that an item states, over what is stated before it
abbrev item_width : Item → Option ℕ → Option ℕ
item_width (Define n c) w = w
item_width (Instance s o) w = w
item_width (Own p v) w = width_put (property_of p) v w
item_width (Default p v) w = w
item_width (Dynamic t p v) w = w

abbrev items_width : Option ℕ → List Item → Option ℕ
items_width w [] = w
items_width w (x ∷ xs) = items_width (item_width x w) xs

over_width : (v : Values) (t : Items) → (own_over v t).fieldwidth ≡ items_width v.fieldwidth (tree.list_of t)
over_width v no_items = refl
over_width v (plain (named s t) rest) = over_width v rest
over_width v (plain (own p x) rest) = over_width (put_named p x v) rest ∙ ap (λ w. items_width w (tree.list_of rest)) (put_width (property_of p) x v)
over_width v (plain (default p x) rest) = over_width v rest
over_width v (plain (dynamic t p x) rest) = over_width v rest
over_width v (holder (define n k) body rest) = over_width v rest
over_width v (holder (anonymous s k) body rest) = over_width v rest

width_append : (w : Option ℕ) (xs : List Item) (y : Item) → items_width w (xs ++ y ∷ []) ≡ item_width y (items_width w xs)
width_append w [] y = refl
width_append w (x ∷ xs) y = width_append (item_width x w) xs y

-- what the first items state
abbrev front : ℕ → Items → Option ℕ
front k t = items_width None (take k (tree.list_of t))

front_next : (k : ℕ) (t : Items) (y : Item) → IsItem k t y → front (suc k) t ≡ item_width y (front k t)
front_next k t y got = ap (items_width None) (take_next (tree.list_of t) k y got) ∙ width_append None (take k (tree.list_of t)) y

no_width : (y : Item) (w : Option ℕ) → is_laid_out y ≡ false → item_width y w ≡ w
no_width (Define n c) w e = refl
no_width (Instance s o) w e = refl
no_width (Own p v) w e = other_width (property_of p) v w e
no_width (Default p v) w e = refl
no_width (Dynamic t p v) w e = refl

front_same : (k : ℕ) (t : Items) → ((z : Item) → IsItem k t z → is_laid_out z ≡ false) → front (suc k) t ≡ front k t
front_same k t none = by (slice_get (tree.list_of t) k) refl
  where
    by : (o : Option Item) → slice_get (tree.list_of t) k ≡ o → front (suc k) t ≡ front k t
    by None e = ap (items_width None) (take_past k (tree.list_of t) e)
    by (Some z) e = front_next k t z e ∙ no_width z (front k t) (none z e)

own_same : (p : List ℕ) (o : Option Value) (v : Value) (w : Option ℕ) → (lays_out p && is_some o) ≡ false → width_put (property_of p) (unwrap_or o v) w ≡ width_put (property_of p) v w
own_same p o v w e = by (lays_out p) refl e
  where
    by : (b : Bool) → lays_out p ≡ b → (b && is_some o) ≡ false → width_put (property_of p) (unwrap_or o v) w ≡ width_put (property_of p) v w
    by true l e = ap (λ x. width_put (property_of p) x w) (unset_value o v e)
    by false l e = other_width (property_of p) (unwrap_or o v) w l ∙ sym (other_width (property_of p) v w l)

same_width : (old : Items) (n : ℕ) (f : Firsts) (m : Marks) (y z : Item) (w : Option ℕ) → IsFrom old (old_item n f m) y → IsItem n old z → (is_laid_out y && is_set f y) ≡ false → item_width z w ≡ item_width y w
same_width old n f m (Define k c) z w h is e = sym (ap (λ x. item_width x w) (same_there old n (Define (unwrap_or f.defined k) (record { kind = c.kind; body = h.0.0 })) z h.0.1 is))
same_width old n f m (Instance s (Named u)) z w h is e = sym (ap (λ x. item_width x w) (same_there old n (restored f (Instance s (Named u))) z h.0 is))
same_width old n f m (Instance s (Anonymous c)) z w h is e =
    sym (ap (λ x. item_width x w) (same_there old n (Instance (unwrap_or f.shell s) (Anonymous (record { kind = c.kind; body = h.0.0 }))) z h.0.1 is))
same_width old n f m (Own p v) z w h is e = sym (ap (λ x. item_width x w) (same_there old n (restored f (Own p v)) z h.0 is)) ∙ own_same p f.value v w e
same_width old n f m (Default p v) z w h is e = sym (ap (λ x. item_width x w) (same_there old n (restored f (Default p v)) z h.0 is))
same_width old n f m (Dynamic u p v) z w h is e = sym (ap (λ x. item_width x w) (same_there old n (restored f (Dynamic u p v)) z h.0 is))

module _ (m : Marks) (old now : Items) where
  width_follows : Follows is_laid_out m old now (λ k i. front k old ≡ front i now)
  width_follows = record {
    first = refl;
    passed = λ k i none so. front_same k old none ∙ so;
    came = λ k i y got none so. so ∙ sym (front_next i now y got ∙ no_width y (front i now) none);
    stayed = λ i n f inside y z got is told unmoved from e so.
        front_next n old z is ∙ same_width old n f inside y z (front n old) from is e ∙ ap (item_width y) so ∙ sym (front_next i now y got);
  }

  pub same_own_width : Describes m old now → AreInOrder m → is_edited m now ≡ false → (own_values old).fieldwidth ≡ (own_values now).fieldwidth
  same_own_width described ordered none =
      let e = at_the_end is_laid_out laid_out_kept m old now described ordered none (λ k i. front k old ≡ front i now) width_follows in
      over_width no_values old ∙ ap (items_width None) (sym (take_all e.0 (tree.list_of old) e.1)) ∙ e.2
      ∙ ap (items_width None) (take_all (length (tree.list_of now)) (tree.list_of now) (let l : length (tree.list_of now) ≤ length (tree.list_of now) = omega arith in l))
      ∙ sym (over_width no_values now)
