-- The node of what is found is kept where its item stands.
use Rattle.std.proofs.Common.{◌≡◌, ℕ, zero, suc, List, [], ◌∷◌, Option, Some, None, refl, sym, ap, subst, ◌∙◌, option_map}
use Rattle.std.specs.Option.{option_or}
use Rattle.std.specs.Prelude.{option_and_then, slice_get}
use Rattle.rdl_tree.specs.View.{list_of}
use Rattle.rdl_tree.specs.declared.description.Component.{Component}
use Rattle.rdl_nodes.specs.declared.node.Slot.{Slot}
use Rattle.rdl_nodes.specs.KeptNode.{slot_node}
use Rattle.rdl_nodes.specs.View.{slots_of}
use Rattle.rdl_nodes.proofs.Paths.{kept_at_is}
use Rattle.rdl_seen.specs.Meaning.{kept_at}
use Rattle.rdl_seen.specs.Slots.{Node}
use Rattle.rdl_places.specs.Scopes.{Place, Holding, IsAtPlace, definition, holding_at, last_type, find_type}

abbrev AreAtPlaces : Option Holding → Type 0
AreAtPlaces None = Unit {0}
AreAtPlaces (Some h) = IsAtPlace h

kept_there : (i : ℕ) (p : Place) (ps : List Place) (c : Component) (o : Option Node) → kept_at i p.slots ≡ o
    → AreAtPlaces (option_map (λ (n : Node). record { kind = c.kind; body = c.body; node = n; places = record p { number = i } ∷ ps }) o)
kept_there i p ps c None e = tt
kept_there i p ps c (Some n) e = e

last_there : (name : List ℕ) (i : ℕ) (p : Place) (ps : List Place) → AreAtPlaces (last_type name i p ps)
last_there name zero p ps = tt
last_there name (suc i) p ps = by (definition name (slice_get (list_of p.body) i)) (last_there name i p ps)
  where
    by : (o : Option Component) → AreAtPlaces (last_type name i p ps) → AreAtPlaces (elim o [ None ↦ last_type name i p ps | Some c ↦ holding_at i p ps c ])
    by None before = before
    by (Some c) before = kept_there i p ps c (kept_at i p.slots) refl

either_there : (x y : Option Holding) → AreAtPlaces x → AreAtPlaces y → AreAtPlaces (option_or x y)
either_there None y f s = s
either_there (Some h) y f s = f

all_there : (name : List ℕ) (ps : List Place) → AreAtPlaces (find_type name ps)
all_there name [] = tt
all_there name (p ∷ ps) = either_there (last_type name p.number p ps) (find_type name ps) (last_there name p.number p ps) (all_there name ps)

pub found_there : (name : List ℕ) (ps : List Place) (h : Holding) → find_type name ps ≡ Some h → IsAtPlace h
found_there name ps h e = subst AreAtPlaces e (all_there name ps)

-- what is kept of an item is what its slot has
pub kept_of_slot : (xs : List Slot) (i : ℕ) (x : Slot) (n : Node) → slice_get xs i ≡ Some x → kept_at i (slots_of xs) ≡ Some n → slot_node x ≡ Some n
kept_of_slot xs i x n there kept = sym (kept_at_is xs i ∙ ap (option_and_then slot_node) there) ∙ kept

pub seen_in : {m n : Node} → ◌≡◌ {A = Option Node} (Some m) (Some n) → m.core.seen ≡ n.core.seen
seen_in e = let same = some_is e in ap (λ (n : Node). n.core.seen) same
  where
    some_is : {m n : Node} → ◌≡◌ {A = Option Node} (Some m) (Some n) → m ≡ n
    some_is e = cc
