-- Items that may not stand in one body together, and that those which stayed still don't.
-- SystemRDL 2.0, clause 5: a name is defined once in a scope, and a property is assigned once; clause 9: fields' properties that exclude one another.
use Rattle.std.specs.Prelude.{◌≡◌, ℕ, ◌<◌, ◌&&◌, ◌||◌, not, Bool, true, false, ◌∷◌, Option, Some, None, ◌⊎◌}
use Rattle.std.specs.List.{list_any}
use Rattle.std.specs.Option.{is_some}
use Rattle.rdl_tree.specs.Items.{Items}
use Rattle.rdl_tree.specs.Properties.{row, property_of}
use Rattle.rdl_tree.specs.declared.description.Item.{Item}
use Rattle.rdl_tree.specs.declared.description.Item.TheVariants.{Define, Instance, Own, Default, Dynamic}
use Rattle.rdl_tree.specs.declared.property.Property.{Property}
use Rattle.rdl_tree.specs.declared.shell.Kind.{Kind}
use Rattle.rdl_scope.specs.ItemFaults.{excluded_by, is_set, reached_before, rivals}
use Rattle.rdl_scope.specs.Keys.{has_key}
use Rattle.rdl_scope.specs.Target.{instance_before}
use Rattle.rdl_scope.specs.Types.{last_definition}
use Rattle.rdl_scope.specs.Value.{is_false, last_default, own_before}
use Rattle.rdl_scope.specs.Walk.{defaulted_by, is_definition, is_instance, owned_by}
use Rattle.rdl_marks.specs.Describes.{Describes, IsItem}
use Rattle.rdl_marks.specs.Marks.{Marks}
use Rattle.rdl_seen.specs.Clean.{are_clean}
use Rattle.rdl_seen.specs.Inside.{Inside}
use Rattle.rdl_seen.specs.Layouts.{Laying}
use Rattle.rdl_seen.specs.Node.{Around}
use Rattle.rdl_renew.specs.TakenOver.{IsAsItWasOutside}

-- the item sets a property that excludes this one
abbrev pub is_rival : Option Property → Item → Bool
is_rival None z = false
is_rival (Some p) z = list_any (λ rival. is_set (owned_by (row rival).name (Some z))) (rivals p)

-- the two may not stand in one body
abbrev pub clashes : Item → Item → Bool
clashes (Define name c) z = is_definition name (Some z)
clashes (Instance s of) z = is_instance s.name (Some z)
clashes (Own p v) z = is_some (owned_by p (Some z)) || not (is_false v) && is_rival (property_of p) z
clashes (Default p v) z = is_some (defaulted_by p (Some z))
clashes (Dynamic t p v) z = has_key (p ∷ t) z

-- nothing before item n of the body makes a fault of it
abbrev pub stands_alone : (body : Items) → ℕ → Item → Bool
stands_alone body n (Define name c) = not (is_some (last_definition name n body))
stands_alone body n (Instance s of) = not (is_some (instance_before s.name n body))
stands_alone body n (Own p v) = not (is_some (own_before p n body)) && not (not (is_false v) && excluded_by n body (property_of p))
stands_alone body n (Default p v) = not (is_some (last_default p n body))
stands_alone body n (Dynamic t p v) = not (reached_before t p n body)

abbrev pub AllStandAlone : Items → Type 0
AllStandAlone body = (n : ℕ) (y : Item) → IsItem n body y → stands_alone body n y ≡ true

-- so it is where no item has a fault
abbrev pub CleanStandAlone : Type 0
CleanStandAlone = (lay : Laying) (a : Around) (around : Option Kind) (before : Inside) (body : Items) → are_clean lay a around body 0 before body ≡ true → AllStandAlone body

-- it makes no odds which of two comes first
abbrev pub ClashesAreTurned : Type 0
ClashesAreTurned = (y z : Item) → clashes y z ≡ clashes z y

-- an item stands alone if none before it clashes with it; and where all do, none does
abbrev pub StandsAloneByItems : Type 0
StandsAloneByItems = (body : Items) (n : ℕ) (y : Item) → ((k : ℕ) (z : Item) → k < n → IsItem k body z → clashes y z ≡ false) → stands_alone body n y ≡ true

abbrev pub NoneClash : Type 0
NoneClash = (body : Items) → AllStandAlone body → (k n : ℕ) (z y : Item) → k < n → IsItem k body z → IsItem n body y → clashes y z ≡ false

-- one that is as it was, but for what is inside it and the type that it names, still stands alone, if it clashes with none before it but such ones, with which it didn't
abbrev pub StandsAloneStill : Type 0
StandsAloneStill =
    (m : Marks) (old now : Items) → Describes m old now → AllStandAlone old → (i n : ℕ) (y : Item) → IsItem i now y → IsAsItWasOutside m i n
    → ((j : ℕ) (z : Item) → j < i → IsItem j now z → ((k : ℕ) × IsAsItWasOutside m j k) ⊎ (clashes y z ≡ false))
    → stands_alone now i y ≡ true
