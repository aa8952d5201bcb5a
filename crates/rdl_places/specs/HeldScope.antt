-- Places and components, as the code has them.
-- own: how the code holds what is seen.
use Rattle.std.specs.Prelude.{List, [], ◌∷◌, option_map}
use Rattle.rdl_places.specs.declared.scope.Scope.{Scope}
use Rattle.rdl_places.specs.declared.scope.Outer.{Outer, Nowhere, In'}
use Rattle.rdl_places.specs.declared.scope.Holder.{Holder}
use Rattle.rdl_places.specs.declared.scope.FoundInstance.{FoundInstance}
use Rattle.rdl_nodes.specs.KeptNode.{kept_of}
use Rattle.rdl_places.specs.Reached.{FoundAt}
use Rattle.rdl_places.specs.Scopes.{Place, Holding}
use Rattle.rdl_places.specs.SearchedBodies.{searched_body}
use Rattle.rdl_nodes.specs.View.{slots_of}

abbrev pub outer_places : Outer → List Place
outer_places Nowhere = []
outer_places (In' p body number slots outer) = record { body = searched_body body; number = number; slots = slots_of slots.now } ∷ outer_places outer

abbrev pub place_of : Scope → Place
place_of s = record { body = searched_body s.body; number = s.number; slots = slots_of s.slots.now }

abbrev pub places_of : Scope → List Place
places_of s = place_of s ∷ outer_places s.outer

abbrev pub holding_of : Holder → Holding
holding_of h = record { kind = h.component.now.kind; body = h.component.now.body; node = kept_of h.kept; places = places_of h.scope }

abbrev pub found_of : FoundInstance → FoundAt
found_of f = record { number = f.number; holding = option_map holding_of f.holder }
