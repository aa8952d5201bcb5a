-- What is seen of a component, in words of what stands at its address.
-- SystemRDL 2.0: instances inside one another (clause 5), fields (9). own: what is seen of a component.
use Rattle.std.specs.Prelude.{List, [], ◌∷◌}
use Rattle.rdl_tree.specs.declared.shell.Shell.{Shell}
use Rattle.rdl_scope.specs.Closed.{Parts, no_parts, part, Made}
use Rattle.rdl_elab.specs.Written.{layouts_kept}
use Rattle.rdl_seen.specs.Inside.{Spots, Inside, no_instances, Within, with_instance}
use Rattle.rdl_seen.specs.Layouts.{Layouts, Member, sizes, accesses}
use Rattle.rdl_seen.specs.Node.{spots_of}
use Rattle.node_laws.specs.Laid.{seen_layouts}

-- its layouts, each number over 2^40 kept as 2^40 + 1
unfoldable pub layouts_seen : Made → Layouts
layouts_seen m = seen_layouts (layouts_kept m)

-- where its instances lie, and whether they are fields of which no two share a bit
abbrev pub spots_seen : Made → Spots
spots_seen m = spots_of m.head.kind (layouts_seen m)

-- what the layouts of another component take of an instance of it
abbrev pub member_seen : Shell → Made → Member
member_seen s m = record { shell = s; size = sizes (layouts_seen m); access = accesses (layouts_seen m) }

abbrev pub members_seen : Parts → List Member
members_seen no_parts = []
members_seen (part at s h inside rest) = member_seen s (record { head = h; parts = inside }) ∷ members_seen rest

-- these instances behind others, with those inside each
abbrev pub behind : Parts → Inside → Inside
behind no_parts before = before
behind (part at s h inside rest) before =
    behind rest (with_instance s.name (record { kind = h.kind; spots = spots_seen (record { head = h; parts = inside }); inside = behind inside no_instances }) before)

abbrev pub inside_seen : Parts → Inside
inside_seen ps = behind ps no_instances

-- what targets find inside it
abbrev pub within_seen : Made → Within
within_seen m = record { kind = m.head.kind; spots = spots_seen m; inside = inside_seen m.parts }
