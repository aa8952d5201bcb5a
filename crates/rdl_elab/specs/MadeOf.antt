-- What the layouts of a component are made of. Where that stays the same, so do they.
-- own: SystemRDL 2.0 says how components are laid out, and nothing of edits.
use Rattle.std.specs.Prelude.{List, [], ◌∷◌, map}
use Rattle.rdl_tree.specs.declared.shell.Shell.{Shell}
use Rattle.rdl_scope.specs.Closed.{Parts, no_parts, part, Made}
use Rattle.rdl_elab.specs.declared.layout.Mode.{Mode}
use Rattle.rdl_elab.specs.declared.layout.Mode.TheVariants.{Compact, Regalign, Fullalign}
use Rattle.rdl_elab.specs.declared.layout.Layout.{Layout}
use Rattle.rdl_elab.specs.Kept.{Layouts, EachMember, MadeOf}
use Rattle.rdl_elab.specs.Layouts.{values_of, mode_inside, laid_out}
use Rattle.rdl_elab.specs.Capped.{capped_layout}
use Rattle.rdl_elab.specs.EachMember.{member_under, shown_each}
use Rattle.rdl_elab.specs.Written.{layouts_kept}

-- what is taken of an instance of this component
abbrev pub each_member : Shell → Made → EachMember
each_member s c = shown_each s (layouts_kept c)

abbrev pub members_of : Parts → List EachMember
members_of no_parts = []
members_of (part at s h inside rest) = each_member s (record { head = h; parts = inside }) ∷ members_of rest

abbrev pub made_of : Made → MadeOf
made_of c = record { kind = c.head.kind; values = values_of c.head; members = members_of c.parts }

-- the layouts that are made of this
abbrev pub layout_made : Mode → MadeOf → Layout
layout_made m a = let n = mode_inside a.kind a.values m in capped_layout (laid_out a.kind a.values n (map (member_under n) a.members))

abbrev pub layouts_made : MadeOf → Layouts
layouts_made a = record { compact = layout_made Compact a; regalign = layout_made Regalign a; fullalign = layout_made Fullalign a }
