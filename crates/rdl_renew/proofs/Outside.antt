-- Items that are the same but for what is inside them.
use Rattle.std.proofs.Common.{◌≡◌, ℕ, ◌&&◌, ◌||◌, not, List, [], ◌∷◌, Option, Some, None, refl, sym, ap, ◌∙◌}
use Rattle.std.specs.Option.{is_some}
use Rattle.std.specs.Prelude.{unwrap_or}
use Rattle.rdl_tree.specs.Items.{Items, no_items}
use Rattle.rdl_tree.specs.Properties.{property_of}
use Rattle.rdl_tree.specs.declared.description.Item.{Item}
use Rattle.rdl_tree.specs.declared.description.Item.TheVariants.{Define, Instance, Own, Default, Dynamic}
use Rattle.rdl_tree.specs.declared.description.Of.TheVariants.{Named, Anonymous}
use Rattle.rdl_tree.specs.declared.property.Property.{Property}
use Rattle.rdl_scope.specs.Keys.{has_key}
use Rattle.rdl_scope.specs.Value.{is_false}
use Rattle.rdl_scope.specs.Walk.{is_definition, is_instance, owned_by, defaulted_by}
use Rattle.rdl_marks.specs.Describes.{IsItem}
use Rattle.rdl_marks.specs.Marks.{Marks, no_firsts}
use Rattle.rdl_marks.specs.View.{old_item}
use Rattle.rdl_marks.proofs.From.{IsFrom}
use Rattle.rdl_renew.specs.Alone.{is_rival, clashes}
use Rattle.rdl_renew.specs.TakenOver.{retyped}

-- an item with nothing inside it
abbrev pub shut : Item → Item
shut (Define n c) = Define n (record { kind = c.kind; body = no_items })
shut (Instance s (Named t)) = Instance s (Named t)
shut (Instance s (Anonymous c)) = Instance s (Anonymous (record { kind = c.kind; body = no_items }))
shut (Own p v) = Own p v
shut (Default p v) = Default p v
shut (Dynamic t p v) = Dynamic t p v

-- the item that was there, where no part was exchanged
pub item_outside : (old : Items) (n : ℕ) (inside : Marks) (y : Item) → IsFrom old (old_item n no_firsts inside) y → (z : Item) × IsItem n old z × (shut z ≡ shut y)
item_outside old n inside (Define k c) h = (Define k (record { kind = c.kind; body = h.0.0 }), h.0.1, refl)
item_outside old n inside (Instance s (Named t)) h = (Instance s (Named t), h.0, refl)
item_outside old n inside (Instance s (Anonymous c)) h = (Instance s (Anonymous (record { kind = c.kind; body = h.0.0 })), h.0.1, refl)
item_outside old n inside (Own p v) h = (Own p v, h.0, refl)
item_outside old n inside (Default p v) h = (Default p v, h.0, refl)
item_outside old n inside (Dynamic t p v) h = (Dynamic t p v, h.0, refl)

-- an item with nothing inside it, where it doesn't matter which type it names
abbrev pub untyped : Item → Item
untyped (Define n c) = Define n (record { kind = c.kind; body = no_items })
untyped (Instance s (Named t)) = Instance s (Named [])
untyped (Instance s (Anonymous c)) = Instance s (Anonymous (record { kind = c.kind; body = no_items }))
untyped (Own p v) = Own p v
untyped (Default p v) = Default p v
untyped (Dynamic t p v) = Dynamic t p v

-- the item that was there, where no part was exchanged but the type that it names
pub item_untyped : (old : Items) (n : ℕ) (type : Option (List ℕ)) (inside : Marks) (y : Item) → IsFrom old (old_item n (retyped type) inside) y → (z : Item) × IsItem n old z × (untyped z ≡ untyped y)
item_untyped old n type inside (Define k c) h = (Define k (record { kind = c.kind; body = h.0.0 }), h.0.1, refl)
item_untyped old n type inside (Instance s (Named t)) h = (Instance s (Named (unwrap_or type t)), h.0, refl)
item_untyped old n type inside (Instance s (Anonymous c)) h = (Instance s (Anonymous (record { kind = c.kind; body = h.0.0 })), h.0.1, refl)
item_untyped old n type inside (Own p v) h = (Own p v, h.0, refl)
item_untyped old n type inside (Default p v) h = (Default p v, h.0, refl)
item_untyped old n type inside (Dynamic t p v) h = (Dynamic t p v, h.0, refl)

-- ---- Whether it clashes with another one.

definition_untyped : (name : List ℕ) (z : Item) → is_definition name (Some (untyped z)) ≡ is_definition name (Some z)
definition_untyped name (Define n c) = refl
definition_untyped name (Instance s (Named t)) = refl
definition_untyped name (Instance s (Anonymous c)) = refl
definition_untyped name (Own q w) = refl
definition_untyped name (Default q w) = refl
definition_untyped name (Dynamic t q w) = refl

instance_untyped : (name : List ℕ) (z : Item) → is_instance name (Some (untyped z)) ≡ is_instance name (Some z)
instance_untyped name (Define n c) = refl
instance_untyped name (Instance s (Named t)) = refl
instance_untyped name (Instance s (Anonymous c)) = refl
instance_untyped name (Own q w) = refl
instance_untyped name (Default q w) = refl
instance_untyped name (Dynamic t q w) = refl

owned_untyped : (name : List ℕ) (z : Item) → owned_by name (Some (untyped z)) ≡ owned_by name (Some z)
owned_untyped name (Define n c) = refl
owned_untyped name (Instance s (Named t)) = refl
owned_untyped name (Instance s (Anonymous c)) = refl
owned_untyped name (Own q w) = refl
owned_untyped name (Default q w) = refl
owned_untyped name (Dynamic t q w) = refl

defaulted_untyped : (name : List ℕ) (z : Item) → defaulted_by name (Some (untyped z)) ≡ defaulted_by name (Some z)
defaulted_untyped name (Define n c) = refl
defaulted_untyped name (Instance s (Named t)) = refl
defaulted_untyped name (Instance s (Anonymous c)) = refl
defaulted_untyped name (Own q w) = refl
defaulted_untyped name (Default q w) = refl
defaulted_untyped name (Dynamic t q w) = refl

key_untyped : (key : List (List ℕ)) (z : Item) → has_key key (untyped z) ≡ has_key key z
key_untyped key (Define n c) = refl
key_untyped key (Instance s (Named t)) = refl
key_untyped key (Instance s (Anonymous c)) = refl
key_untyped key (Own q w) = refl
key_untyped key (Default q w) = refl
key_untyped key (Dynamic t q w) = refl

rival_untyped : (o : Option Property) (z : Item) → is_rival o (untyped z) ≡ is_rival o z
rival_untyped None z = refl
rival_untyped (Some p) (Define n c) = refl
rival_untyped (Some p) (Instance s (Named t)) = refl
rival_untyped (Some p) (Instance s (Anonymous c)) = refl
rival_untyped (Some p) (Own q w) = refl
rival_untyped (Some p) (Default q w) = refl
rival_untyped (Some p) (Dynamic t q w) = refl

first_untyped : (y z : Item) → clashes (untyped y) z ≡ clashes y z
first_untyped (Define n c) z = refl
first_untyped (Instance s (Named t)) z = refl
first_untyped (Instance s (Anonymous c)) z = refl
first_untyped (Own p v) z = refl
first_untyped (Default p v) z = refl
first_untyped (Dynamic t p v) z = refl

second_untyped : (y z : Item) → clashes y (untyped z) ≡ clashes y z
second_untyped (Define n c) z = definition_untyped n z
second_untyped (Instance s o) z = instance_untyped s.name z
second_untyped (Own p v) z = λ i. is_some (owned_untyped p z i) || not (is_false v) && rival_untyped (property_of p) z i
second_untyped (Default p v) z = ap (λ o. is_some o) (defaulted_untyped p z)
second_untyped (Dynamic t p v) z = key_untyped (p ∷ t) z

pub clash_same : (y z v w : Item) → untyped v ≡ untyped y → untyped w ≡ untyped z → clashes y z ≡ clashes v w
clash_same y z v w first second =
    sym (second_untyped y z) ∙ (sym (first_untyped y (untyped z)) ∙ ((λ i. clashes (sym first i) (sym second i)) ∙ (first_untyped v (untyped w) ∙ second_untyped v w)))
