-- What the node of a component says of the faults of a map.
-- own: SystemRDL 2.0 says nothing of how a map is judged. The limits are those of `Faults` of `rdl_elab`.
use Rattle.std.specs.Prelude.{◌≡◌, ℕ, ◌^◌, nat_lt, nat_le, ◌&&◌, not, Bool, true, List, Some}
use Rattle.rdl_tree.specs.Items.{Items}
use Rattle.rdl_scope.specs.Closed.{Head, Parts, Made, component}
use Rattle.rdl_elab.specs.declared.layout.Mode.{Mode}
use Rattle.rdl_elab.specs.Reaches.{Reach}
use Rattle.rdl_seen.specs.declared.seen.Seen.{Seen}
use Rattle.rdl_seen.specs.Meaning.{nothing_around, node_at}
use Rattle.rdl_seen.specs.Modes.{has_mode, number_under}
use Rattle.rdl_seen.specs.Node.{body_of}
use Rattle.rdl_seen.specs.Slots.{Node}
use Rattle.node_laws.specs.Laid.{laying}
use Rattle.node_laws.specs.Sound.{sound_by, all_sound}
use Rattle.sound_laws.specs.Harmless.{kept_layout, are_harmless}
use Rattle.sound_laws.specs.Search.{IsKeptWhole}
use Rattle.node_laws.specs.Modes.{seen_mode}

-- a node that is kept at the address of a component says that the component is sound under a mode, and not larger than a map may be
pub record SaysSound (d : Items) (a : List ℕ) (c : Made) (m : Mode) (n : Node) : Type 0 where
  pub made : component d a ≡ Some c
  pub kept : node_at a (body_of laying nothing_around d).slots ≡ Some n
  pub sound : has_mode n.core.seen.sound (seen_mode m) ≡ true
  pub whole : IsKeptWhole c.head.kind (number_under n.core.seen.size (seen_mode m))

-- a map with such a top is within the limits, and no register file or address map in it is without instances
abbrev pub is_within : Seen → Bool
is_within s = nat_lt s.levels 16 && nat_lt s.rows 65536 && not s.has_empty && nat_le s.size.regalign (2 ^ 40)

-- all below a component may be passed over in a search for the first fault: it is sound as it is seen, and what is assigned from around
-- it is harmless
abbrev pub passes_over : Mode → Head → Parts → List Reach → Bool
passes_over m h within coming = has_mode (sound_by h within (all_sound within)) (seen_mode m) && are_harmless kept_layout h within coming
