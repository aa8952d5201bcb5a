-- Small components whose nodes compute.
use Rattle.std.proofs.Common.{◌≡◌, ℕ, ◌+◌, ◌/◌, true, false, List, [], ◌∷◌, map, Some, codes, refl}
use lib.Count.{count_leading_zeros}
use Rattle.rdl_tree.specs.Items.{Items, no_items, plain, holder, named, own, default, dynamic, define, anonymous}
use Rattle.rdl_tree.specs.Properties.{property_of}
use Rattle.rdl_tree.specs.Shell.{bare_shell}
use Rattle.rdl_tree.specs.declared.shell.Kind.{Kind}
use Rattle.rdl_tree.specs.declared.shell.Kind.TheVariants.{Addrmap, Regfile, Reg, Field}
use Rattle.rdl_tree.specs.declared.value.Value.TheVariants.{Number, Word as Worded}
use Rattle.rdl_tree.specs.declared.value.Word.{Word}
use Rattle.rdl_tree.specs.declared.value.Word.TheVariants as word
use Rattle.rdl_seen.specs.declared.seen.Modes.{Modes}
use Rattle.rdl_seen.specs.declared.seen.Seen.{Seen}
use Rattle.rdl_seen.specs.declared.values.Values.{Values}
use Rattle.rdl_seen.specs.Layouts.{Span, Layout, Layouts, Member, Laying}
use Rattle.rdl_seen.specs.Modes.{all_modes}
use Rattle.rdl_seen.specs.Names.{class_of, names_of}
use Rattle.rdl_seen.specs.Node.{Known, Around, with_type, node, known}
use Rattle.rdl_seen.specs.Values.{no_values, register_bits, access_bits, field_bits}

-- one instance behind the other, whatever the mode
abbrev spans_from : ℕ → List Member → List Span
spans_from start [] = []
spans_from start (m ∷ ms) = record { start = start; end = start + m.size.compact } ∷ spans_from (start + m.size.compact) ms

abbrev size_of : Kind → Values → ℕ
size_of Field v = field_bits v
size_of kind v = register_bits v / 8

abbrev each_mode : Layout → Layouts
each_mode l = record { compact = l; regalign = l; fullalign = l }

abbrev in_a_row : Laying
in_a_row kind v ms = each_mode (record { size = size_of kind v; access = access_bits v / 8; spans = spans_from 0 ms })

-- all instances on the first bits
abbrev on_top : Laying
on_top kind v ms = each_mode (record { size = size_of kind v; access = access_bits v / 8; spans = map (λ (m : Member). record { start = 0; end = m.size.compact }) ms })

abbrev nothing : Around
nothing = record { types = []; defaults = no_values }

abbrev held : List ℕ → Kind → Items → Items → Items
held name kind body rest = holder (anonymous (bare_shell name) kind) body rest

abbrev seen : Around → Kind → Items → Seen
seen a kind body = (node in_a_row a kind body).core.seen

-- reg { field {} f; };
abbrev bare_field : Items
bare_field = held (codes "f") Field no_items no_items

-- it takes regwidth, accesswidth, fieldwidth and reset, and no sw, as it has no second field to share bits with
pub takes-bare : (seen nothing Reg bare_field).takes ≡ record { bits = 4 + 8 + 16 + 64 }
takes-bare = refl

-- reg { field {} f; field { sw = r; } g; }; which share a bit, so that it takes sw, for the first one
pub takes-shared : (node on_top nothing Reg (held (codes "f") Field no_items (held (codes "g") Field (plain (own (codes "sw") (Worded word.R)) no_items) no_items))).core.seen.takes ≡ record { bits = 4 + 8 + 16 + 32 + 64 }
unfolding property_of
takes-shared = refl

-- reg { regwidth = 8; default fieldwidth = 4; field {} f; };
pub takes-own : (seen nothing Reg (plain (own (codes "regwidth") (Number 8)) (plain (default (codes "fieldwidth") (Number 4)) bare_field))).takes ≡ record { bits = 8 + 64 }
unfolding property_of
takes-own = refl

-- addrmap { U u; }; asks for U, inside a component too
pub asks-inside : (seen nothing Addrmap (held (codes "g") Regfile (plain (named (bare_shell (codes "u")) (codes "U")) no_items) no_items)).asks ≡ names_of (class_of (codes "U"))
asks-inside = refl

abbrev width : ℕ → Items
width bits = plain (own (codes "fieldwidth") (Number bits)) no_items

-- reg U { field { fieldwidth = first; } f; field { fieldwidth = second; } g; };
abbrev two_fields : ℕ → ℕ → Known
two_fields first second = known in_a_row nothing Reg (held (codes "f") Field (width first) (held (codes "g") Field (width second) no_items))

-- regfile T { U u; }; T t; t.u.f->reset = 255;
abbrev assigned_inside : Items
assigned_inside = holder (define (codes "T") Regfile) (plain (named (bare_shell (codes "u")) (codes "U")) no_items) (plain (named (bare_shell (codes "t")) (codes "T"))
    (plain (dynamic (codes "t" ∷ codes "u" ∷ codes "f" ∷ []) (codes "reset") (Number 255)) no_items))

abbrev sound_by : Known → Modes
sound_by u = (seen (with_type (codes "U") u nothing) Addrmap assigned_inside).sound

-- the same is seen of U where its fields swap their widths, but what is assigned fits one of them alone: so who assigns inside has to
-- know of its types what targets find within them
pub seen-swapped : (two_fields 8 1).seen ≡ (two_fields 1 8).seen
unfolding property_of
seen-swapped = refl

pub sound-wide : sound_by (two_fields 8 1) ≡ all_modes true
unfolding property_of count_leading_zeros
sound-wide = refl

pub sound-narrow : sound_by (two_fields 1 8) ≡ all_modes false
unfolding property_of count_leading_zeros
sound-narrow = refl

-- a type that is larger under fullalign
abbrev larger : Known
larger = record (two_fields 1 1) { seen = record (two_fields 1 1).seen { size = record { compact = 4; regalign = 4; fullalign = 8 } } }

-- addrmap { addressing = mode; U u[2] += 4; };
abbrev apart_under : Word → Modes
apart_under mode = (node in_a_row (with_type (codes "U") larger nothing) Addrmap (plain (own (codes "addressing") (Worded mode))
    (plain (named (record (bare_shell (codes "u")) { dims = 2 ∷ []; stride = Some 4 }) (codes "U")) no_items))).core.apart

-- its own mode says whether the stride is wide enough, whatever the mode around it
pub apart-compact : apart_under word.Compact ≡ all_modes true
unfolding property_of
apart-compact = refl

pub apart-fullalign : apart_under word.Fullalign ≡ all_modes false
unfolding property_of
apart-fullalign = refl
