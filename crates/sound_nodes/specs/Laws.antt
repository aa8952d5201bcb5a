-- Where the node of a component says that it is sound, it is.
-- own: SystemRDL 2.0 speaks of maps as a whole.
use Rattle.std.specs.Prelude.{◌≡◌, ◌↔◌, ℕ, true, List, [], ◌∷◌, Option, Some, None, Ok}
use Rattle.rdl_tree.specs.Items.{Items}
use Rattle.rdl_scope.specs.Closed.{Made, component}
use Rattle.rdl_scope.specs.ItemFaults.{fault_of}
use Rattle.rdl_elab.specs.declared.layout.Mode.{Mode}
use Rattle.rdl_elab.specs.declared.layout.Mode.TheVariants.{Regalign}
use Rattle.rdl_elab.specs.Faults.{top_from, elaborated}
use Rattle.rdl_elab.specs.Reaches.{along}
use Rattle.rdl_elab.specs.Rows.{Around, rows_of}
use Rattle.rdl_seen.specs.declared.seen.Seen.{Seen}
use Rattle.rdl_seen.specs.Meaning.{nothing_around, node_at}
use Rattle.rdl_seen.specs.Modes.{has_mode}
use Rattle.rdl_seen.specs.Node.{body_of}
use Rattle.rdl_seen.specs.Slots.{Node}
use Rattle.node_laws.specs.Laid.{laying}
use Rattle.node_laws.specs.Meant.{IsSeen}
use Rattle.node_laws.specs.Sound.{sound_seen}
use Rattle.sound_laws.specs.Harmless.{kept_layout, are_harmless}
use Rattle.sound_laws.specs.Laws.{IsInside, IsFaultlessBelow, IsWithinLimits, IsTold}
use Rattle.sound_laws.specs.Search.{IsCautious}
use Rattle.sound_laws.specs.Sound.{is_sound}
use Rattle.node_laws.specs.Modes.{seen_mode}
use Rattle.sound_nodes.specs.Says.{SaysSound, is_within, passes_over}

-- a component that is sound as it is seen is sound by what is kept of layouts
abbrev pub SeenAreSound : Type 0
SeenAreSound =
    (d : Items) (a : List ℕ) (c : Made) (m : Mode) → fault_of d ≡ None → component d a ≡ Some c → has_mode (sound_seen c) (seen_mode m) ≡ true
    → is_sound kept_layout m c.head c.parts ≡ true

-- so is one whose node says so, if it is not too large; and there what is kept of layouts tells what is harmless
abbrev pub NodesTell : Type 0
NodesTell = (d : Items) (a : List ℕ) (c : Made) (m : Mode) (n : Node) → fault_of d ≡ None → SaysSound d a c m n → IsTold m c

-- no row below it has a fault, if what is assigned from around it is harmless
abbrev pub SoundNodesHaveNoFault : Type 0
SoundNodesHaveNoFault =
    (d : Items) (a : List ℕ) (c : Made) (m : Mode) (n : Node) (o : Around) → fault_of d ≡ None → SaysSound d a c m n → IsInside m c o
    → are_harmless kept_layout c.head c.parts (along d [] o.path) ≡ true → IsFaultlessBelow d m c o

-- whoever passes over components that are sound as they are seen, and to which nothing harmful comes, passes over no fault
abbrev pub SeenIsCautious : Type 0
SeenIsCautious = (d : Items) → fault_of d ≡ None → IsCautious d passes_over

-- the limits of a map are told by what is seen of its top
abbrev pub LimitsAreSeen : Type 0
LimitsAreSeen = (c : Made) (s : Seen) → IsSeen c s → (is_within s ≡ true) ↔ IsWithinLimits c

-- a map whose top's node says that it is sound and within the limits is its rows
abbrev pub SoundTopIsItsRows : Type 0
SoundTopIsItsRows =
    (d : Items) (wanted : Option (List ℕ)) (top : ℕ × List ℕ) (c : Made) (n : Node) → fault_of d ≡ None → top_from wanted 0 d ≡ Some top
    → component d (top.0 ∷ []) ≡ Some c → node_at (top.0 ∷ []) (body_of laying nothing_around d).slots ≡ Some n
    → has_mode n.core.seen.sound (seen_mode Regalign) ≡ true → is_within n.core.seen ≡ true → elaborated d wanted ≡ Ok (rows_of d top.1 c)
