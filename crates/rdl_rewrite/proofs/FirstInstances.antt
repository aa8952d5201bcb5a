-- What a walk keeps of the instances in a body is what the search for an instance finds.
use Rattle.std.proofs.Common.{◌≡◌, ℕ, suc, ◌+◌, Bool, true, false, cond, List, [], ◌∷◌, ◌++◌, Some, None, Option, refl, ap, sym, ◌∙◌, arith, option_map}
use Rattle.std.proofs.lemmas.Slice.Eq.{bytes_eq-Decides}
use Rattle.std.specs.Prelude.{slice_get, option_and_then, bytes_eq}
use Rattle.std.specs.Option.{option_or}
use Rattle.rdl_tree.specs.ItemAt.{item_at}
use Rattle.rdl_tree.specs.Items.{Items}
use Rattle.rdl_tree.specs.View.{list_of}
use Rattle.rdl_tree.specs.Address.{body_at}
use Rattle.rdl_tree.specs.declared.description.Item.{Item}
use Rattle.rdl_tree.specs.declared.description.Item.TheVariants.{Define, Instance, Own, Default, Dynamic}
use Rattle.rdl_tree.specs.declared.description.Of.TheVariants.{Named, Anonymous}
use Rattle.rdl_scope.specs.Types.{held_by, component_of}
use Rattle.rdl_scope.specs.Target.{instance_before, instance_in}
use Rattle.rdl_scope.specs.Walk.{is_instance}
use Rattle.rdl_scope.proofs.Instances.{instance-suc}
use Rattle.rdl_rewrite.specs.Addresses.{leads_to}
use Rattle.rdl_rewrite.specs.Firsts.{first_under, first_at, AreFirsts, is_inside}
use Rattle.rdl_rewrite.specs.Led.{IsLed}
use Rattle.rdl_rewrite.specs.declared.firsts.Firsts.{Firsts}
use Rattle.rdl_rewrite.proofs.Led.{led_name}

-- ---- What is kept.

-- a body begins
pub firsts_none : (d : Items) (place b : List ℕ) (body : Items) (firsts : Firsts) → body_at b d ≡ Some body → ((q : List ℕ) → first_under firsts q ≡ None) → AreFirsts d place b 0 firsts
firsts_none d place b body firsts here none = record { found = λ q. none q ∙ sym (ap (λ o. option_map (first_at d place b) (option_and_then (instance_before q 0) o)) here) }

map-first : (f : ℕ → ℕ × Bool) (o : Option ℕ) (b : Bool) (n : ℕ) → option_or (option_map f o) (cond b (Some (f n)) None) ≡ option_map f (option_or o (cond b (Some n) None))
map-first f None true n = refl
map-first f None false n = refl
map-first f (Some k) b n = refl

-- one item more
pub firsts_next : (d : Items) (place b : List ℕ) (n : ℕ) (body : Items) (x : Item) (old new : Firsts) (inside : Bool) → body_at b d ≡ Some body → slice_get (list_of body) n ≡ Some x → AreFirsts d place b n old
    → inside ≡ leads_to place (component_of d (b ++ n ∷ [])) → ((q : List ℕ) → first_under new q ≡ option_or (first_under old q) (cond (is_instance q (Some x)) (Some (n, inside)) None)) → AreFirsts d place b (n + 1) new
firsts_next d place b n body x old new inside here got is within put = record {
  found = λ q.
      put q
      ∙ ap (λ o. option_or o (cond (is_instance q (Some x)) (Some (n, inside)) None)) (is.found q ∙ ap (λ o. option_map (first_at d place b) (option_and_then (instance_before q n) o)) here)
      ∙ ap (λ i. option_or (option_map (first_at d place b) (instance_before q n body)) (cond (is_instance q (Some x)) (Some (n, i)) None)) within
      ∙ map-first (first_at d place b) (instance_before q n body) (is_instance q (Some x)) n
      ∙ ap (λ o. option_map (first_at d place b) (option_or (instance_before q n body) (cond (is_instance q o) (Some n) None))) (sym got)
      ∙ ap (option_map (first_at d place b)) (sym (instance-suc q n body))
      ∙ ap (λ k. option_map (first_at d place b) (instance_before q k body)) next
      ∙ sym (ap (λ o. option_map (first_at d place b) (option_and_then (instance_before q (n + 1)) o)) here);
}
  where
    next : suc n ≡ n + 1
    next = omega arith

-- whether an instance's component is the one in which the item on the way stands
component_inside : (d : Items) (place at : List ℕ) (x : Item) (led : Bool) → item_at at d ≡ Some x → IsLed d place at led → is_inside place (item_at place d) at led x ≡ leads_to place (component_of d at)
component_inside d place at x led here is = by_item x ∙ sym (ap (λ o. leads_to place (option_and_then (held_by d at) o)) here)
  where
    by_item : (y : Item) → is_inside place (item_at place d) at led y ≡ leads_to place (held_by d at y)
    by_item (Define n c) = refl
    by_item (Instance s (Named t)) = led_name d place at led t is
    by_item (Instance s (Anonymous c)) = refl
    by_item (Own p v) = refl
    by_item (Default p v) = refl
    by_item (Dynamic t p v) = refl

pub inside_same : (d : Items) (p place : List ℕ) (o : Option Item) (at : List ℕ) (x : Item) (led inside : Bool) → item_at at d ≡ Some x → IsLed d place at led → inside ≡ is_inside p o at led x → p ≡ place → o ≡ item_at place d
    → inside ≡ leads_to place (component_of d at)
inside_same d p place o at x led inside here is made e f = made ∙ ap (λ q. is_inside q o at led x) e ∙ ap (λ h. is_inside place h at led x) f ∙ component_inside d place at x led here is

-- ---- A name is put.

pub first-put : (firsts : Firsts) (name q : List ℕ) (v : ℕ × Bool) → first_under firsts name ≡ None → cond (bytes_eq name q) (Some v) (first_under firsts q) ≡ option_or (first_under firsts q) (cond (bytes_eq name q) (Some v) None)
first-put firsts name q v none = by_case (bytes_eq name q) refl
  where
    or-none : (o : Option (ℕ × Bool)) → o ≡ option_or o None
    or-none None = refl
    or-none (Some x) = refl

    by_case : (b : Bool) → bytes_eq name q ≡ b → cond b (Some v) (first_under firsts q) ≡ option_or (first_under firsts q) (cond b (Some v) None)
    by_case true e = sym (ap (λ o. option_or o (Some v)) (ap (first_under firsts) (sym ((bytes_eq-Decides name q).0 e)) ∙ none))
    by_case false e = or-none (first_under firsts q)

-- ---- What it says of a name.

pub first_some : (d : Items) (place b : List ℕ) (n : ℕ) (firsts : Firsts) (name : List ℕ) (k : ℕ) (inside : Bool) → AreFirsts d place b n firsts → first_under firsts name ≡ Some (k, inside)
    → (instance_in d b n name ≡ Some (b ++ k ∷ [])) × (inside ≡ leads_to place (component_of d (b ++ k ∷ [])))
first_some d place b n firsts name k inside is some = by_case (option_and_then (instance_before name n) (body_at b d)) (sym (is.found name) ∙ some)
  where
    by_case : (o : Option ℕ) → option_map (first_at d place b) o ≡ Some (k, inside) → (option_map (λ j. b ++ j ∷ []) o ≡ Some (b ++ k ∷ [])) × (inside ≡ leads_to place (component_of d (b ++ k ∷ [])))
    by_case None e = (cc, cc)
    by_case (Some j) e =
        let same : first_at d place b j ≡ (k, inside) = cc in
        let number : j ≡ k = ap (λ (p : ℕ × Bool). p.0) same in
        (ap (λ i. Some (b ++ i ∷ [])) number, sym (ap (λ (p : ℕ × Bool). p.1) same) ∙ ap (λ i. leads_to place (component_of d (b ++ i ∷ []))) number)
