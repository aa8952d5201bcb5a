-- Items of a body that define or assign the same, and how it is told that none stands beside another with which it clashes.
-- SystemRDL 2.0, clause 5: a name is defined once in a scope, and a property is assigned once.
use Rattle.std.specs.Prelude.{◌≡◌, ℕ, ◌<◌, Bool, true, false, List, ◌∷◌, length, Option, Some, ◌⊎◌, slice_get}
use Rattle.std.specs.Option.{is_some}
use Rattle.rdl_tree.specs.Items.{Items}
use Rattle.rdl_tree.specs.declared.description.Item.{Item}
use Rattle.rdl_tree.specs.declared.description.Item.TheVariants.{Define, Instance, Own, Default, Dynamic}
use Rattle.rdl_scope.specs.Keys.{has_key}
use Rattle.rdl_scope.specs.Walk.{defaulted_by, is_definition, is_instance}
use Rattle.rdl_marks.specs.Describes.{Describes, IsItem}
use Rattle.rdl_marks.specs.Marks.{Marks}
use Rattle.rdl_marks.specs.View.{Trace, old_item}
use Rattle.rdl_renew.specs.Alone.{stands_alone, AllStandAlone}
use Rattle.rdl_renew.specs.TakenOver.{retyped, IsAsItWasOutside}

abbrev pub is_own : Item → Bool
is_own (Define name c) = false
is_own (Instance s of) = false
is_own (Own p v) = true
is_own (Default p v) = false
is_own (Dynamic t p v) = false

-- the second one defines or assigns what the first one does; own assignments are told of by themselves
abbrev pub has_same_key : Item → Item → Bool
has_same_key (Define name c) z = is_definition name (Some z)
has_same_key (Instance s of) z = is_instance s.name (Some z)
has_same_key (Own p v) z = false
has_same_key (Default p v) z = is_some (defaulted_by p (Some z))
has_same_key (Dynamic t p v) z = has_key (p ∷ t) z

-- no other item of the body does so
abbrev pub IsApart : Items → ℕ → Item → Type 0
IsApart body i y = (j : ℕ) (z : Item) → (j ≡ i → ⊥) → IsItem j body z → has_same_key y z ≡ false

-- each own assignment of the body stands alone
abbrev pub DoOwnsStandAlone : Items → Type 0
DoOwnsStandAlone body = (i : ℕ) (y : Item) → IsItem i body y → is_own y ≡ true → stands_alone body i y ≡ true

-- the item is as it was but for what is inside it and the type that it names, or no other one does the same; and where no own assignments are said to have changed, it is none
abbrev pub IsAsItWasOrApart : Marks → Items → (owns : Bool) → ℕ → Item → Type 0
IsAsItWasOrApart m now owns i y = ((n : ℕ) × IsAsItWasOutside m i n) ⊎ (IsApart now i y × (owns ≡ false → is_own y ≡ false))

-- if each item is, all stand alone
abbrev pub AllStandAloneStill : Type 0
AllStandAloneStill =
    (m : Marks) (old now : Items) (owns : Bool) → Describes m old now → AllStandAlone old → ((i : ℕ) (y : Item) → IsItem i now y → IsAsItWasOrApart m now owns i y)
    → (owns ≡ true → DoOwnsStandAlone now) → AllStandAlone now

-- so they do where no two do the same
abbrev pub ApartStandAlone : Type 0
ApartStandAlone = (body : Items) → ((i : ℕ) (y : Item) → IsItem i body y → IsApart body i y) → DoOwnsStandAlone body → AllStandAlone body

-- ---- By the pieces of a body.

-- each of these items is as it was but for what is inside it and the type that it names
abbrev pub AreSame : List Trace → Type 0
AreSame es = (j : ℕ) → j < length es → (n : ℕ) × (inside : Marks) × (t : Option (List ℕ)) × (slice_get es j ≡ Some (old_item n (retyped t) inside))

-- by what is told of the items, this one is so, or no other one does the same
abbrev pub IsSameOrApart : List Trace → Items → (owns : Bool) → ℕ → Item → Type 0
IsSameOrApart es body owns i y = ((n : ℕ) × (inside : Marks) × (t : Option (List ℕ)) × (slice_get es i ≡ Some (old_item n (retyped t) inside))) ⊎ (IsApart body i y × (owns ≡ false → is_own y ≡ false))

abbrev pub AreSameOrApart : List Trace → Items → (owns : Bool) → Type 0
AreSameOrApart es body owns = (i : ℕ) (y : Item) → i < length es → IsItem i body y → IsSameOrApart es body owns i y
