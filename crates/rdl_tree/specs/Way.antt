-- The way back from where patches have led: a patch for each step, and the room that the step has.
-- own: SystemRDL 2.0 has no edits.
use Rattle.std.specs.Prelude.{ℕ, max, Bool, true, false, ◌&&◌, nat_le, nat_lt, nat_eq, bytes_eq, if◌then◌else◌, List, [], ◌∷◌, length, Option, Some, None, vec_capacity, reverse}
use Rattle.rdl_tree.specs.Items.{Items}
use Rattle.rdl_tree.specs.Address.{holder_of, number_of, body_at}
use Rattle.rdl_tree.specs.Patch.{patched, fits, has_place, length_of}
use Rattle.rdl_tree.specs.Exchanges.{are_exchanges}
use Rattle.rdl_tree.specs.declared.patch.Patch.{Patch}
use Rattle.rdl_tree.specs.declared.patch.Patch.TheVariants.{Insert, Delete, Shift, Exchange}
use Rattle.rdl_tree.specs.declared.way.Step.{Step}
use Rattle.rdl_tree.specs.declared.way.StepsBack.{StepsBack}
use Rattle.rdl_tree.specs.declared.way.WayBack.{WayBack}
use Rattle.rdl_tree.specs.declared.way.WayBack.TheVariants.{Steps, Exchanges}

-- the patch fits, at whatever level the item is that it puts in
abbrev pub is_placed : Patch → Items → Bool
is_placed (Insert at x) t = nat_le 1 (length at) && has_place (number_of at) (length_of (body_at (holder_of at) t))
is_placed (Delete at) t = fits (Delete at) t
is_placed (Shift at to) t = fits (Shift at to) t
is_placed (Exchange at part) t = fits (Exchange at part) t

-- there is room for more items than there are
abbrev pub is_below : Option ℕ → ℕ → Bool
is_below None room = false
is_below (Some n) room = nat_lt n room

-- where the patch puts an item in, there is room for it and the body's items
abbrev pub has_room : Patch → ℕ → Items → Bool
has_room (Insert at x) room t = is_below (length_of (body_at (holder_of at) t)) room
has_room (Delete at) room t = true
has_room (Shift at to) room t = true
has_room (Exchange at part) room t = true

-- the step can be taken without memory, within its own room
abbrev pub is_ready : Step → Items → Bool
is_ready s t = is_placed s.back t && has_room s.back (vec_capacity s.room) t

-- how many items there is room for in the body at each path, while it is held open on the way back
abbrev pub Held : Type 0
Held = List ℕ → ℕ

-- no body is held open
abbrev pub none_held : Held
none_held path = 0

-- the body at the path is held open
abbrev pub held_at : List ℕ → ℕ → Held
held_at path room other = if bytes_eq path other then room else 0

-- the room that the patch finds, where it puts an item in
abbrev pub held_for : Patch → Held → ℕ
held_for (Insert at x) held = held (holder_of at)
held_for (Delete at) held = 0
held_for (Shift at to) held = 0
held_for (Exchange at part) held = 0

-- the body into which the patch puts an item is held open behind it
abbrev pub held_behind : Patch → ℕ → Held
held_behind (Insert at x) room = held_at (holder_of at) room
held_behind (Delete at) room = none_held
held_behind (Shift at to) room = none_held
held_behind (Exchange at part) room = none_held

-- the step's own room, or that which is held open
abbrev pub room_of : Step → Held → ℕ
room_of s held = max (vec_capacity s.room) (held_for s.back held)

-- the step can be taken without memory, within its own room or that which is held open
abbrev pub is_ready_in : Held → Step → Items → Bool
is_ready_in held s t = is_placed s.back t && has_room s.back (room_of s held) t

-- each step is ready where those before it lead; steps into one body share the room of the first
abbrev pub are_ready_in : Held → List Step → Items → Bool
are_ready_in held [] t = true
are_ready_in held (s ∷ ss) t = is_ready_in held s t && are_ready_in (held_behind s.back (room_of s held)) ss (patched s.back t)

-- the same where no body is held open at first
abbrev pub are_ready : List Step → Items → Bool
are_ready ss t = are_ready_in none_held ss t

-- the steps' patches
abbrev pub backs : List Step → List Patch
backs [] = []
backs (s ∷ ss) = s.back ∷ backs ss

-- the patches of the steps, the last step's first
abbrev pub step_patches : StepsBack → List Patch
step_patches way = backs (reverse way.steps.items)

-- there is room for a patch of each step
abbrev pub has_rooms : StepsBack → Bool
has_rooms way = nat_eq (length way.room.items) 0 && nat_le (length way.steps.items) (vec_capacity way.room)

-- each step can be taken, the last one first
abbrev pub are_sound_steps : Items → StepsBack → Bool
are_sound_steps t way = are_ready (reverse way.steps.items) t && has_rooms way

-- the patches of the way, in the order in which they lead back
abbrev pub patches_back : WayBack → List Patch
patches_back (Steps way) = step_patches way
patches_back (Exchanges patches) = patches.items

-- the whole way back can be gone
abbrev pub is_sound : Items → WayBack → Bool
is_sound t (Steps way) = are_sound_steps t way
is_sound t (Exchanges patches) = are_exchanges patches.items t
