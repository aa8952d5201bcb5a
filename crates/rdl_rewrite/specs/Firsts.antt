-- What a walk keeps of the instances before an item in its body: of the first of each name the number, and whether its
-- component is the one in which the item on the way stands.
-- own: no part of what a target passes; `passes` (Target of rdl_scope) says that by a search through whole bodies.
use Rattle.std.specs.Prelude.{◌≡◌, ℕ, Bool, true, false, ◌&&◌, List, [], ◌∷◌, ◌++◌, Option, option_map, option_and_then, Some, None, if◌then◌else◌}
use Rattle.std.specs.Option.{option_or}
use Rattle.rdl_tree.specs.Items.{Items}
use Rattle.rdl_tree.specs.Address.{body_at}
use Rattle.rdl_tree.specs.declared.description.Item.{Item}
use Rattle.rdl_tree.specs.declared.description.Item.TheVariants.{Define, Instance, Own, Default, Dynamic}
use Rattle.rdl_tree.specs.declared.description.Of.TheVariants.{Named, Anonymous}
use Rattle.rdl_scope.specs.ByName.{value_under}
use Rattle.rdl_scope.specs.Types.{component_of}
use Rattle.rdl_scope.specs.Target.{instance_before}
use Rattle.rdl_scope.specs.Walk.{is_definition, is_instance}
use Rattle.rdl_rewrite.specs.Addresses.{same, leads_to}
use Rattle.rdl_rewrite.specs.declared.firsts.Firsts.{Firsts}

abbrev pub first_under : Firsts → List ℕ → Option (ℕ × Bool)
first_under firsts q = value_under firsts.instances q

-- the item of number k is noted with this mark, if it is the first instance of its name
abbrev pub NotesItem : (old new : Firsts) → Item → ℕ → Bool → Type 0
NotesItem old new x k mark = (q : List ℕ) → first_under new q ≡ option_or (first_under old q) (if is_instance q (Some x) then Some (k, mark) else None)

-- of the instance of number k of the body at b
abbrev pub first_at : Items → (place b : List ℕ) → ℕ → ℕ × Bool
first_at d place b k = (k, leads_to place (component_of d (b ++ k ∷ [])))

-- these are the first among the first n items of the body at b, for a taken item in the component at this place
pub record AreFirsts (d : Items) (place b : List ℕ) (n : ℕ) (firsts : Firsts) : Type 0 where
  pub found : (q : List ℕ) → first_under firsts q ≡ option_map (first_at d place b) (option_and_then (instance_before q n) (body_at b d))

-- only an assignment to what is inside an instance asks for them
abbrev pub is_dynamic : Item → Bool
is_dynamic (Dynamic t p v) = true
is_dynamic (Define n c) = false
is_dynamic (Instance s o) = false
is_dynamic (Own p v) = false
is_dynamic (Default p v) = false

-- the component of the item at this address is the one at the place, which the holder holds; led says whether a reference
-- to the holder's name leads to that from here
abbrev pub is_inside : (place : List ℕ) → (holder : Option Item) → (at : List ℕ) → (led : Bool) → Item → Bool
is_inside place holder at led (Instance s (Named t)) = led && is_definition t holder
is_inside place holder at led (Instance s (Anonymous c)) = same at place
is_inside place holder at led (Define n c) = false
is_inside place holder at led (Own p v) = false
is_inside place holder at led (Default p v) = false
is_inside place holder at led (Dynamic t p v) = false
