-- An instance that stayed leads to the component to which it led, unless its type has become another definition.
use Rattle.std.proofs.Common.{◌≡◌, ℕ, zero, suc, Bool, true, false, not, List, [], ◌∷◌, ◌++◌, Option, Some, None, unwrap_or, refl, sym, ap, subst, ◌∙◌}
use Rattle.std.specs.Prelude.{slice_get, is_some, bytes_eq, option_map, option_and_then, if◌then◌else◌}
use Rattle.std.specs.Option.{option_or}
use Rattle.std.proofs.lemmas.Slice.Eq.{bytes_eq-Decides}
use Rattle.std.proofs.lemmas.Bool.{not-false}
use Rattle.std.proofs.lemmas.Option.{same_Some}
use Rattle.rdl_tree.specs.Address.{inner, body_at}
use Rattle.rdl_tree.specs.ItemAt.{item_at}
use Rattle.rdl_tree.specs.Items.{Items, no_items, plain, holder}
use Rattle.rdl_tree.specs.View.{list_of}
use Rattle.rdl_tree.specs.declared.description.Item.{Item}
use Rattle.rdl_tree.specs.declared.description.Item.TheVariants.{Define, Instance, Own, Default, Dynamic}
use Rattle.rdl_tree.specs.declared.description.Of.TheVariants.{Named, Anonymous}
use Rattle.rdl_tree.specs.declared.shell.Shell.{Shell}
use Rattle.rdl_scope.specs.Closed.{Made, component}
use Rattle.rdl_scope.specs.Types.{defines, last_definition, type_at, type_from, type_of, held_by, component_of}
use Rattle.rdl_scope.proofs.Holds.{holds}
use Rattle.rdl_scope.proofs.Levelled.{item-deeper, body-inside}
use Rattle.rdl_marks.specs.Describes.{IsItem, restored}
use Rattle.rdl_marks.specs.Marks.{Marks}
use Rattle.rdl_marks.specs.View.{old_item}
use Rattle.rdl_marks.proofs.From.{IsFrom}
use Rattle.rdl_reach.specs.Before.{number_then, address_before}
use Rattle.rdl_reach.specs.EditedBodies.{leads_where_it_led, has_another_type}
use Rattle.rdl_reach.proofs.Follows.{same_there}
use Rattle.rdl_reach.proofs.Instances.{IsBeside}
use Rattle.rdl_renew.proofs.SideBySide.{had}
use Rattle.rdl_reach.proofs.Stood.{StoodAt}

-- ---- A type that is found is there.

-- something stands at an address that isn't empty
pub record IsThere (t : Items) (p : List ℕ) : Type 0 where
  pub first : ℕ
  pub others : List ℕ
  pub is : p ≡ first ∷ others
  pub there : is_some (body_at p t) ≡ true

some_there : (o : Option Items) → is_some o ≡ true → is_some (option_and_then (body_at []) o) ≡ true
some_there None e = e
some_there (Some t) e = refl

definition_there : (name : List ℕ) (n : ℕ) (t : Items) (k : ℕ) → last_definition name n t ≡ Some k → is_some (inner k t) ≡ true
definition_there name zero t k e = absurd cc
definition_there name (suc n) no_items k e = absurd cc
definition_there name (suc n) (plain p rest) k e = by (last_definition name n rest) (λ j f. definition_there name n rest j f) e
  where
    by : (o : Option ℕ) → ((j : ℕ) → o ≡ Some j → is_some (inner j rest) ≡ true) → option_map suc o ≡ Some k → is_some (inner k (plain p rest)) ≡ true
    by None more e = absurd (let no : None ≡ Some k = e in cc)
    by (Some j) more e = ap (λ i. is_some (inner i (plain p rest))) (sym (same_Some (suc j) k e)) ∙ more j refl
definition_there name (suc n) (holder h body rest) k e = by (last_definition name n rest) (defines name h) (λ j f. definition_there name n rest j f) e
  where
    by : (o : Option ℕ) (b : Bool) → ((j : ℕ) → o ≡ Some j → is_some (inner j rest) ≡ true) → option_or (option_map suc o) (if b then Some 0 else None) ≡ Some k → is_some (inner k (holder h body rest)) ≡ true
    by None true more e = ap (λ i. is_some (inner i (holder h body rest))) (sym (same_Some 0 k e))
    by None false more e = absurd (let no : None ≡ Some k = e in cc)
    by (Some j) b more e = ap (λ i. is_some (inner i (holder h body rest))) (sym (same_Some (suc j) k e)) ∙ more j refl

pub type_there : (a : List ℕ) (t : Items) (name p : List ℕ) → type_at a t name ≡ Some p → IsThere t p
type_there [] t name p e = absurd cc
type_there (i ∷ a) t name p e = by (inner i t) refl (λ b q. type_there a b name q) e
  where
    here : (o : Option ℕ) → last_definition name i t ≡ o → option_map (λ k. k ∷ []) o ≡ Some p → IsThere t p
    here None f e = absurd (let no : None ≡ Some p = e in cc)
    here (Some k) f e =
        let same : k ∷ [] ≡ p = cc in
        record { first = k; others = []; is = sym same; there = ap (λ q. is_some (body_at q t)) (sym same) ∙ some_there (inner k t) (definition_there name i t k f) }

    deeper : (b : Items) (o : Option (List ℕ)) → inner i t ≡ Some b → ((q : List ℕ) → o ≡ Some q → IsThere b q) → option_or (option_map (λ a. i ∷ a) o) (option_map (λ k. k ∷ []) (last_definition name i t)) ≡ Some p → IsThere t p
    deeper b None w more e = here (last_definition name i t) refl e
    deeper b (Some q) w more e =
        let same : i ∷ q ≡ p = cc in
        record { first = i; others = q; is = sym same; there = ap (λ x. is_some (body_at x t)) (sym same) ∙ ap (λ o. is_some (option_and_then (body_at q) o)) w ∙ (more q refl).there }

    by : (o : Option Items) → inner i t ≡ o → ((b : Items) (q : List ℕ) → type_at a b name ≡ Some q → IsThere b q)
        → option_or (option_map (λ a. i ∷ a) (option_and_then (λ b. type_at a b name) o)) (option_map (λ k. k ∷ []) (last_definition name i t)) ≡ Some p → IsThere t p
    by None w more e = here (last_definition name i t) refl e
    by (Some b) w more e = deeper b (type_at a b name) w (more b) e

pub some_made : (o : Option Made) → is_some o ≡ true → (c : Made) × (o ≡ Some c)
some_made None e = absurd (let no : false ≡ true = e in cc)
some_made (Some c) e = (c, refl)

pub made_there : (d : Items) (p : List ℕ) → IsThere d p → (c : Made) × (component d p ≡ Some c)
made_there d p h =
    let there : is_some (body_at (h.first ∷ h.others) d) ≡ true = ap (λ q. is_some (body_at q d)) (sym h.is) ∙ h.there in
    let c = some_made (component d (h.first ∷ h.others)) (holds d h.first h.others ∙ there) in
    (c.0, ap (component d) h.is ∙ c.1)

ends_somewhere : (b : List ℕ) (n : ℕ) → (i : ℕ) × (a : List ℕ) × (b ++ n ∷ [] ≡ i ∷ a)
ends_somewhere [] n = (n, [], refl)
ends_somewhere (i ∷ b) n = (i, b ++ n ∷ [], refl)

-- so is the component of an instance
pub component_there : (d : Items) (b : List ℕ) (t : Items) (n : ℕ) (x : Item) (p : List ℕ) → body_at b d ≡ Some t → slice_get (list_of t) n ≡ Some x → component_of d (b ++ n ∷ []) ≡ Some p
    → (c : Made) × (component d p ≡ Some c)
component_there d b t n x p there is leads = by x is (sym (ap (option_and_then (held_by d (b ++ n ∷ []))) (item-deeper b n d t there ∙ is)) ∙ leads)
  where
    by : (x : Item) → slice_get (list_of t) n ≡ Some x → held_by d (b ++ n ∷ []) x ≡ Some p → (c : Made) × (component d p ≡ Some c)
    by (Define m c) is e = absurd (let no : None ≡ Some p = e in cc)
    by (Instance s (Named u)) is e = made_there d p (type_there (b ++ n ∷ []) d u p e)
    by (Instance s (Anonymous c)) is e =
        let ends = ends_somewhere b n in
        let body : body_at (b ++ n ∷ []) d ≡ Some c.body = body-inside b n d t (Instance s (Anonymous c)) c there is refl in
        let same = same_Some (b ++ n ∷ []) p e in
        made_there d p (record { first = ends.0; others = ends.1; is = sym same ∙ ends.2; there = ap (λ q. is_some (body_at q d)) (sym same) ∙ ap is_some body })
    by (Own q v) is e = absurd (let no : None ≡ Some p = e in cc)
    by (Default q v) is e = absurd (let no : None ≡ Some p = e in cc)
    by (Dynamic u q v) is e = absurd (let no : None ≡ Some p = e in cc)

-- ---- Where an instance leads.

-- both lead nowhere, or the first one to what stood where the second one led
abbrev pub LeadAlike : Marks → (now was : Option (List ℕ)) → Type 0
LeadAlike m None None = Unit {0}
LeadAlike m None (Some q) = ⊥
LeadAlike m (Some p) None = ⊥
LeadAlike m (Some p) (Some q) = address_before m p ≡ Some q

lead_alike : (m : Marks) (o u : Option (List ℕ)) → leads_where_it_led m o u ≡ true → LeadAlike m o u
lead_alike m None None e = tt
lead_alike m None (Some q) e = absurd (let no : false ≡ true = e in cc)
lead_alike m (Some p) None e = absurd (let no : false ≡ true = e in cc)
lead_alike m (Some p) (Some q) e = by (address_before m p) refl e
  where
    by : (o : Option (List ℕ)) → address_before m p ≡ o → (elim o [ None ↦ false | Some c ↦ bytes_eq c q ]) ≡ true → address_before m p ≡ Some q
    by None b e = absurd (let no : false ≡ true = e in cc)
    by (Some c) b e = b ∙ ap Some ((bytes_eq-Decides c q).0 e)

module _ (m : Marks) (old now : Items) (a : List ℕ) (t : Items) (s : StoodAt m old now a t) (there : body_at a now ≡ Some t) (x y : ℕ × Shell) (h : IsBeside s.marks s.was t x y) where
  abbrev here : List ℕ
  here = a ++ y.0 ∷ []

  abbrev was : List ℕ
  was = s.at ++ x.0 ∷ []

  pub stood_before : address_before m here ≡ Some was
  stood_before = s.before (y.0 ∷ []) ∙ ap (λ o. option_map (λ b. s.at ++ b) (number_then (λ inside. Some []) o)) h.told

  item_now : item_at here now ≡ Some h.item
  item_now = item-deeper a y.0 now t there ∙ h.is

  by_type : (u v : Option (List ℕ)) → type_of now here ≡ u → type_of old was ≡ v → has_another_type m old now here ≡ false → LeadAlike m u v
  by_type u v e f none =
      lead_alike m u v (not-false (leads_where_it_led m u v)
      ((λ i. not (leads_where_it_led m (sym e i) (sym f i)))
      ∙ sym (ap (λ (o : Option (List ℕ)). elim o [ None ↦ false | Some b ↦ not (leads_where_it_led m (type_of now here) (type_of old b)) ]) stood_before) ∙ none))

  old_there : (z : Item) → IsItem x.0 s.was z → item_at was old ≡ Some z
  old_there z is = item-deeper s.at x.0 old s.was s.there ∙ is

  by_item : (y z : Item) → IsFrom s.was (old_item x.0 h.firsts h.inside) y → IsItem x.0 s.was z → item_at here now ≡ Some y → has_another_type m old now here ≡ false
      → LeadAlike m (held_by now here y) (held_by old was z)
  by_item (Define k c) z from is got none =
      subst (λ z. LeadAlike m None (held_by old was z)) (same_there s.was x.0 (Define (unwrap_or h.firsts.defined k) (record { kind = c.kind; body = from.0.0 })) z from.0.1 is) tt
  by_item (Instance w (Named u)) z from is got none =
      subst (λ z. LeadAlike m (type_at here now u) (held_by old was z)) (same_there s.was x.0 (restored h.firsts (Instance w (Named u))) z from.0 is)
      (by_type (type_at here now u) (held_by old was (restored h.firsts (Instance w (Named u)))) (ap (option_and_then (type_from now here)) got)
      (ap (option_and_then (type_from old was)) (old_there (restored h.firsts (Instance w (Named u))) from.0)) none)
  by_item (Instance w (Anonymous c)) z from is got none =
      subst (λ z. LeadAlike m (Some here) (held_by old was z)) (same_there s.was x.0 (Instance (unwrap_or h.firsts.shell w) (Anonymous (record { kind = c.kind; body = from.0.0 }))) z from.0.1 is) stood_before
  by_item (Own p v) z from is got none = subst (λ z. LeadAlike m None (held_by old was z)) (same_there s.was x.0 (restored h.firsts (Own p v)) z from.0 is) tt
  by_item (Default p v) z from is got none = subst (λ z. LeadAlike m None (held_by old was z)) (same_there s.was x.0 (restored h.firsts (Default p v)) z from.0 is) tt
  by_item (Dynamic u p v) z from is got none = subst (λ z. LeadAlike m None (held_by old was z)) (same_there s.was x.0 (restored h.firsts (Dynamic u p v)) z from.0 is) tt

  pub leads : has_another_type m old now here ≡ false → LeadAlike m (component_of now here) (component_of old was)
  leads none =
      let z = had s.marks s.was t y.0 x.0 h.firsts h.inside h.item s.described h.is h.told in
      subst (λ o. LeadAlike m o (component_of old was)) (sym (ap (option_and_then (held_by now here)) item_now))
      (subst (LeadAlike m (held_by now here h.item)) (sym (ap (option_and_then (held_by old was)) (old_there z.item z.is))) (by_item h.item z.item h.from z.is item_now none))
