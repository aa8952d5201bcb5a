-- The layouts of a component from its values and its instances, one by one.
-- SystemRDL 2.0: fields (clause 9), registers (10), register files (12), address maps (13). own: how the code makes them.
use Rattle.std.specs.Prelude.{◌==◌, ◌&&◌, Bool, true, false, List, [], map}
use Rattle.rdl_tree.specs.declared.shell.Kind.{Kind}
use Rattle.rdl_tree.specs.declared.shell.Kind.TheVariants.{Addrmap, Regfile, Reg, Field}
use Rattle.rdl_elab.specs.declared.layout.FieldBits.{FieldBits}
use Rattle.rdl_elab.specs.declared.layout.Layout as component
use Rattle.rdl_elab.specs.declared.layout.LayoutValues.{LayoutValues}
use Rattle.rdl_elab.specs.declared.layout.Member as elab
use Rattle.rdl_elab.specs.declared.layout.Mode.{Mode}
use Rattle.rdl_elab.specs.declared.layout.Mode.TheVariants.{Compact, Regalign, Fullalign}
use Rattle.rdl_elab.specs.declared.layout.Placement.{Placement}
use Rattle.rdl_elab.specs.Capped.{capped_layout}
use Rattle.rdl_elab.specs.EachMember.{member_under}
use Rattle.rdl_elab.specs.Layouts.{laid_out}
use Rattle.rdl_seen.specs.declared.seen.ByMode.{ByMode}
use Rattle.rdl_seen.specs.Layouts.{Layout, Layouts, Member}
use Rattle.node_laws.specs.Laid.{each_of, seen_layout}

-- the same under each mode
abbrev pub is_one_number : ByMode → Bool
is_one_number n = (n.compact == n.regalign) && (n.compact == n.fullalign)

abbrev pub is_of_one_size : Member → Bool
is_of_one_size m = is_one_number m.size && is_one_number m.access

-- what is taken of instances that stand under a mode
abbrev pub members_under : Mode → List Member → List elab.Member
members_under mode ms = map (member_under mode) (map each_of ms)

-- what an address map or a register file takes of an instance that stands under a mode, and a register of that of a field
abbrev pub placement_under : Mode → Member → Placement
placement_under mode m = (member_under mode (each_of m)).placement

abbrev pub bits_under : Mode → Member → FieldBits
bits_under mode m = (member_under mode (each_of m)).bits

-- a component with nothing in it that is as large as that of an instance under a mode
abbrev pub as_large : Mode → Member → component.Layout
as_large mode m = record { size = (placement_under mode m).size; access = (placement_under mode m).access; spans = [] }

-- the layout of a component whose instances stand under a mode
abbrev pub layout_by : Kind → LayoutValues → Mode → List Member → Layout
layout_by k v mode ms = seen_layout (capped_layout (laid_out k v mode (members_under mode ms)))

-- those where they stand under the component's own mode
abbrev pub each_by : Kind → LayoutValues → List Member → Layouts
each_by k v ms = record { compact = layout_by k v Compact ms; regalign = layout_by k v Regalign ms; fullalign = layout_by k v Fullalign ms }

-- the same one for each mode
abbrev pub one_by : Kind → LayoutValues → Mode → List Member → Layouts
one_by k v mode ms = record { compact = layout_by k v mode ms; regalign = layout_by k v mode ms; fullalign = layout_by k v mode ms }

-- a register or a field, in which the mode doesn't matter but for the sizes of instances
abbrev pub is_small : Kind → Bool
is_small Addrmap = false
is_small Regfile = false
is_small Reg = true
is_small Field = true
