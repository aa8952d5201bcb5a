-- What the walk of `check` knows around an item.
-- own: no part of what a type is; `found` (Walk) says the same by a search through whole bodies.
use Rattle.std.specs.Prelude.{◌≡◌, ℕ, suc, List, [], ◌∷◌, ◌++◌, take, Option, None, Some, option_map, option_and_then, length, bytes_eq, if◌then◌else◌}
use Rattle.std.specs.Option.{option_or, is_some}
use Rattle.rdl_tree.specs.Items.{Items}
use Rattle.rdl_tree.specs.declared.shell.Kind.{Kind}
use Rattle.rdl_tree.specs.View.{list_of}
use Rattle.rdl_tree.specs.declared.description.Of.{Of}
use Rattle.rdl_tree.specs.declared.description.Of.TheVariants.{Named, Anonymous}
use Rattle.rdl_scope.specs.Types.{component_of, items_in}
use Rattle.rdl_scope.specs.Target.{instance_before, instance_in}
use Rattle.rdl_scope.specs.Value.{own_before, last_default}
use Rattle.rdl_scope.specs.ItemFaults.{kind_at, instance_kind, target_kind}
use Rattle.rdl_scope.specs.ByName.{value_under}
use Rattle.rdl_scope.specs.Keys.{Holds, key_before}
use Rattle.rdl_scope.specs.declared.names.Names.{Names}
use Rattle.rdl_scope.specs.declared.places.VisibleItem.{VisibleItem}
use Rattle.rdl_scope.specs.declared.places.Places.{Places}
use Rattle.rdl_scope.specs.declared.places.Met.{Met}
use Rattle.rdl_scope.specs.declared.passed.Passed.{Passed}

-- the number under a name
abbrev pub number_under : Names → List ℕ → Option ℕ
number_under m q = value_under m.numbers q

-- the level and number under a name: of several the innermost; the outermost is at this level
abbrev pub level_found : ℕ → List Names → List ℕ → Option (ℕ × ℕ)
level_found d [] q = None
level_found d (m ∷ ms) q = option_or (level_found (suc d) ms q) (option_map (λ k. (d, k)) (number_under m q))

-- the same, where these are the definitions of the innermost level
abbrev pub scope_found : List Names → Names → List ℕ → Option (ℕ × ℕ)
scope_found levels m q = option_or (option_map (λ k. (length levels, k)) (number_under m q)) (level_found 0 levels q)

-- the place under a name
abbrev pub place_under : Places → List ℕ → Option VisibleItem
place_under m q = value_under m.places q

-- an instance that was looked up: its place stands under its name
abbrev pub IsMet : Places → Met → Type 0
IsMet m met = place_under m met.name.now ≡ Some met.place

-- the address of a place along the address of a body
abbrev pub along_place : List ℕ → VisibleItem → List ℕ
along_place b p = take p.depth b ++ p.number ∷ []

-- where the component of the instance of a name stands, for the body at b
abbrev pub address_under : List ℕ → Places → List ℕ → Option (List ℕ)
address_under b m q = option_map (along_place b) (place_under m q)

-- what is under q after an instance of this name with this component
abbrev pub place_put : List ℕ → List ℕ → (held old : Option VisibleItem) → Option VisibleItem
place_put name q None old = old
place_put name q (Some p) old = if bytes_eq name q then Some p else old

-- the place of the component of item n of the body at b, an instance of this, where the definitions are found so
abbrev pub place_held : List ℕ → ℕ → Of → (List ℕ → Option (ℕ × ℕ)) → Option VisibleItem
place_held b n (Named t) f = option_map (λ p. record { depth = p.0; number = p.1 }) (f t)
place_held b n (Anonymous c) f = Some (record { depth = length b; number = n })

-- the kind of the component at this place, that of an instance of this
abbrev pub kind_held : Items → List ℕ → Of → Option VisibleItem → Option Kind
kind_held d b (Named t) p = option_and_then (λ p. kind_at d (along_place b p)) p
kind_held d b (Anonymous c) p = Some c.kind

-- the component of the instance of a name among the first n items of the body at b
abbrev pub instance_component : Items → List ℕ → ℕ → List ℕ → Option (List ℕ)
instance_component d b n q = option_and_then (component_of d) (instance_in d b n q)

-- the kind of the component to which names lead from a component; without names, its own
abbrev pub kind_below : Items → List (List ℕ) → List ℕ → Option Kind
kind_below d [] c = kind_at d c
kind_below d (name ∷ names) c = target_kind d c (items_in c d) (name ∷ names)

-- the kind of the component of the instance at this address, which is one of this
abbrev pub kind_of_instance : Items → List ℕ → Of → Option Kind
kind_of_instance d a (Named t) = instance_kind d a
kind_of_instance d a (Anonymous c) = Some c.kind

-- what is kept of the first n items of the body at b
pub record Knows (d : Items) (b : List ℕ) (body : Items) (n : ℕ) (p : Passed) : Type 0 where
  pub places : (q : List ℕ) → address_under b p.places q ≡ instance_component d b n q
  pub instances : (q : List ℕ) → is_some (place_under p.places q) ≡ is_some (instance_before q n body)
  pub owns : (q : List ℕ) → is_some (number_under p.owns q) ≡ is_some (own_before q n body)
  pub defaults : (q : List ℕ) → is_some (number_under p.defaults q) ≡ is_some (last_default q n body)
  pub dynamics : Holds p.dynamics (λ key. key_before key n (list_of body))
