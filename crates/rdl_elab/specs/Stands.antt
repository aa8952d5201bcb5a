-- What stands before an item, as a walk keeps it: for each type the number of its finished component.
-- own: SystemRDL 2.0 speaks of definitions and scopes.
use Rattle.std.specs.Prelude.{◌≡◌, ℕ, ◌≤◌, ◌-◌, List, [], ◌∷◌, length, drop, Option, Some, None, slice_get}
use Rattle.rdl_tree.specs.Items.{Items}
use Rattle.rdl_tree.specs.declared.shell.Shell.{Shell}
use Rattle.rdl_tree.specs.declared.description.Item.{Item}
use Rattle.rdl_tree.specs.declared.description.Item.TheVariants.{Define, Instance, Own, Default, Dynamic}
use Rattle.rdl_tree.specs.declared.description.Of.TheVariants.{Named, Anonymous}
use Rattle.rdl_tree.specs.declared.description.Component.{Component}
use Rattle.rdl_scope.specs.Closed.{Parts, no_parts, part, Made, Standing, lookup, with_type, with_default, with_made, head_at, parts}
use Rattle.rdl_elab.specs.declared.walk.finished.Finished.{Finished}
use Rattle.rdl_elab.specs.Kept.{Part}
use Rattle.rdl_elab.specs.declared.walk.Walk.{Walk}
use Rattle.rdl_elab.specs.declared.walk.Found.{Found}
use Rattle.rdl_elab.specs.Finished.{AreParts, IsFinished}

-- the component written at an address
abbrev pub made_at : Standing → List ℕ → Component → Made
made_at e at c = record { head = head_at at c.kind c.body e; parts = parts e at 0 c.body }

-- what stands behind the item at an address
abbrev pub after_item : List ℕ → Item → Standing → Standing
after_item at (Define n c) e = with_type n (made_at e at c) e
after_item at (Instance s o) e = e
after_item at (Own p v) e = e
after_item at (Default p v) e = with_default p v e
after_item at (Dynamic t p v) e = e

-- the item at an address, if it is an instance
abbrev pub item_parts : Standing → List ℕ → Item → Parts
item_parts e at (Define n c) = no_parts
item_parts e at (Instance s (Named t)) = with_made at s (lookup t e.types) no_parts
item_parts e at (Instance s (Anonymous c)) = part at s (head_at at c.kind c.body e) (parts e at 0 c.body) no_parts
item_parts e at (Own p v) = no_parts
item_parts e at (Default p v) = no_parts
item_parts e at (Dynamic t p v) = no_parts

-- an instance leads to the component of this number, if there is one
abbrev pub LeadsTo : Shell → Option ℕ → Option Found → Type 0
LeadsTo s None None = Unit {0}
LeadsTo s None (Some f) = ⊥
LeadsTo s (Some k) None = ⊥
LeadsTo s (Some k) (Some f) = (f.shell.now ≡ s) × (f.component ≡ k)

-- what is found is an instance at this address
abbrev pub placed : List ℕ → Option Found → Option Part
placed at None = None
placed at (Some f) = Some (record { at = at; shell = f.shell.now; component = f.component })

abbrev pub in_list : Option Part → List Part
in_list None = []
in_list (Some p) = p ∷ []

-- the types, name by name, with the numbers of their finished components
abbrev pub AreTypes : Items → List Finished → List (List ℕ × ℕ) → List (List ℕ × Made) → Type 0
AreTypes d fs [] [] = Unit {0}
AreTypes d fs (k ∷ ks) [] = ⊥
AreTypes d fs [] (t ∷ ts) = ⊥
AreTypes d fs (k ∷ ks) (t ∷ ts) = (k.0 ≡ t.0) × IsFinished d fs k.1 t.1 × AreTypes d fs ks ts

-- a walk keeps what stands
pub record Stands (d : Items) (w : Walk) (e : Standing) : Type 0 where
  pub types : AreTypes d w.components.items w.types e.types
  pub defaults : w.defaults ≡ e.defaults

-- finished components stay
pub record Grows (old new : List Finished) : Type 0 where
  pub more : length old ≤ length new
  pub same : (k : ℕ) (f : Finished) → slice_get old k ≡ Some f → slice_get new k ≡ Some f

-- a list with more before its first element
pub record IsLonger {X : Type 0} (old new : List X) : Type 0 where
  pub more : length old ≤ length new
  pub same : drop (length new - length old) new ≡ old

-- a walk has gone on
pub record IsBehind (old new : Walk) : Type 0 where
  pub types : IsLonger old.types new.types
  pub defaults : IsLonger old.defaults new.defaults
  pub components : Grows old.components.items new.components.items

-- what is found at the item at an address is the instance that the item brings, by what is finished behind it
abbrev pub BringsPart : Items → Walk → Walk → List ℕ → Item → Option Found → Type 0
BringsPart d old new at item f = (e : Standing) → Stands d old e → AreParts d new.components.items (length new.components.items) (in_list (placed at f)) (item_parts e at item)

-- something holds of the component at an address, whatever stands there, if these are its instances
abbrev pub HoldsAt : Items → Walk → List ℕ → Component → List Part → (Made → Type 0) → Type 0
HoldsAt d walk at c ps Holds = (e : Standing) (inside : Parts) (n : ℕ) → walk.defaults ≡ e.defaults → AreParts d walk.components.items n ps inside → Holds (record { head = head_at at c.kind c.body e; parts = inside })
