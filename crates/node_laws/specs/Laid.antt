-- How the instances of a component are laid out, where its values are kept as those of the seven properties.
-- SystemRDL 2.0: fields (clause 9), registers (10), register files (12), address maps (13). own: the layouts are those of `rdl_elab`.
use Rattle.std.specs.Prelude.{List, map, Option, Some, None, option_map}
use Rattle.rdl_tree.specs.declared.shell.Kind.{Kind}
use Rattle.rdl_tree.specs.declared.value.Value.{Value}
use Rattle.rdl_tree.specs.declared.value.Value.TheVariants.{Number, Word as Worded}
use Rattle.rdl_tree.specs.declared.property.Property.{Property}
use Rattle.rdl_tree.specs.declared.property.Property.TheVariants.{Addressing, Alignment, Regwidth, Accesswidth, Fieldwidth}
use Rattle.rdl_seen.specs.declared.values.Values.{Values}
use Rattle.rdl_seen.specs.Layouts as seen
use Rattle.rdl_seen.specs.Layouts.{Member, Laying}
use Rattle.rdl_seen.specs.Meaning.{word_of}
use Rattle.rdl_seen.specs.Node.{mode_inside}
use Rattle.rdl_seen.specs.Values.{register_bits, access_bits, field_bits}
use Rattle.rdl_elab.specs.declared.layout.Layout.{Layout}
use Rattle.rdl_elab.specs.declared.layout.Span.{Span}
use Rattle.rdl_elab.specs.EachMember.{said_of}
use Rattle.rdl_elab.specs.Kept.{Layouts, EachMember, MadeOf}
use Rattle.rdl_elab.specs.Layouts.{layout_values}
use Rattle.rdl_elab.specs.MadeOf.{layouts_made}

-- the value of each property on which layouts depend: what is kept of it, or the built-in one
abbrev pub value_in : Values → Property → Option Value
value_in v Addressing = Some (Worded (word_of (mode_inside v)))
value_in v Alignment = option_map Number v.alignment
value_in v Regwidth = Some (Number (register_bits v))
value_in v Accesswidth = Some (Number (access_bits v))
value_in v Fieldwidth = Some (Number (field_bits v))
value_in v p = None

-- what layouts take of an instance: what it says of its place, and how large its component is under each mode
abbrev pub each_of : Member → EachMember
each_of i =
    record {
      said = said_of i.shell;
      extents =
          record {
            compact = record { size = i.size.compact; access = i.access.compact };
            regalign = record { size = i.size.regalign; access = i.access.regalign };
            fullalign = record { size = i.size.fullalign; access = i.access.fullalign };
          };
    }

-- what the layouts of a component of this kind are made of
abbrev pub made_by : Kind → Values → List Member → MadeOf
made_by k v members = record { kind = k; values = layout_values (value_in v); members = map each_of members }

-- the same layouts, as they are seen
abbrev pub seen_span : Span → seen.Span
seen_span s = record { start = s.start; end = s.end }

abbrev pub seen_layout : Layout → seen.Layout
seen_layout l = record { size = l.size; access = l.access; spans = map seen_span l.spans }

abbrev pub seen_layouts : Layouts → seen.Layouts
seen_layouts l = record { compact = seen_layout l.compact; regalign = seen_layout l.regalign; fullalign = seen_layout l.fullalign }

-- the layouts of a component of this kind, with these values and these instances
unfoldable pub laying : Laying
laying k v members = seen_layouts (layouts_made (made_by k v members))
