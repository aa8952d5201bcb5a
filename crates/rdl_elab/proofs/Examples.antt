-- Small maps, laid out and judged by computing.
use Rattle.std.proofs.Common.{◌≡◌, ℕ, List, [], ◌∷◌, map, Some, None, Option, refl}
use Rattle.std.specs.Prelude.{zero, suc, ◌+◌, ◌^◌, codes, option_map, Ok, Err, true}
use Rattle.std.specs.List.{filter_map}
use Rattle.rdl_tree.specs.Items.{Items, no_items, plain, holder, named, own, dynamic, define, anonymous}
use Rattle.rdl_tree.specs.Shell.{bare_shell}
use Rattle.rdl_tree.specs.Properties.{property_of}
use Rattle.rdl_tree.specs.declared.shell.Kind.{Kind}
use Rattle.rdl_tree.specs.declared.shell.Kind.TheVariants.{Addrmap, Regfile, Reg, Field}
use Rattle.rdl_tree.specs.declared.value.Value.{Value}
use Rattle.rdl_tree.specs.declared.value.Value.TheVariants.{Number, Bool as Boolean, Word as Worded}
use Rattle.rdl_tree.specs.declared.value.Word.{Word}
use Rattle.rdl_tree.specs.declared.value.Word.TheVariants as word
use Rattle.rdl_tree.specs.declared.fault.FaultKind.{FaultKind}
use Rattle.rdl_tree.specs.declared.fault.FaultKind.TheVariants.{NoTop, TooManyLevels, EmptyComponent, MapTooLarge, AccessTooWide, StrideTooSmall, AddressOverlap, FieldPastRegister, FieldOverlap, ResetTooWide}
use Rattle.rdl_tree.specs.declared.fault.Fault.{Fault}
use Rattle.rdl_tree.specs.declared.property.Property.{Property}
use Rattle.rdl_tree.specs.declared.property.Property.TheVariants.{Addressing, Lsb0, Reset}
use Rattle.rdl_scope.specs.Closed.{root_type}
use Rattle.rdl_scope.specs.ItemFaults.{item_fault, define_fault, instance_fault, own_fault, wrong_part, wrong_part_of_kind, wrong_number, are_dims, rivals}
use Rattle.rdl_elab.specs.declared.layout.Mode.TheVariants.{Regalign}
use Rattle.rdl_elab.specs.declared.layout.Span.{Span}
use Rattle.rdl_elab.specs.declared.layout.Layout.{Layout}
use Rattle.rdl_elab.specs.Layouts.{layout}
use Rattle.rdl_elab.specs.declared.row.PropertyValue.{PropertyValue}
use Rattle.rdl_elab.specs.declared.row.Location.{Location}
use Rattle.rdl_elab.specs.declared.row.Location.TheVariants.{Bytes, Bits}
use Rattle.rdl_elab.specs.declared.row.Row.{Row}
use Rattle.rdl_elab.specs.Rows.{rows_of}
use Rattle.rdl_elab.specs.Shown.{valued}
use Rattle.rdl_elab.specs.Faults.{elaborated, count}
use lib.Count.{ones}

abbrev held : List ℕ → Kind → Items → Items → Items
held name kind body rest = holder (anonymous (bare_shell name) kind) body rest

abbrev array : List ℕ → ℕ → Kind → Items → Items → Items
array name n kind body rest = holder (anonymous (record (bare_shell name) { dims = n ∷ [] }) kind) body rest

abbrev placed_at : List ℕ → ℕ → Items → Items → Items
placed_at name address body rest = holder (anonymous (record (bare_shell name) { address = Some address }) Reg) body rest

abbrev top : Items → Items
top body = holder (define (codes "top") Addrmap) body no_items

abbrev number : List ℕ → ℕ → Items → Items
number p n rest = plain (own p (Number n)) rest

abbrev spelled : List ℕ → Word → Items → Items
spelled p w rest = plain (own p (Worded w)) rest

-- field {} f;
abbrev field_f : Items
field_f = held (codes "f") Field no_items no_items

abbrev up : ℕ → ℕ → Span
up x y = record { start = x; end = y }

abbrev laid : Items → Option Layout
laid d = option_map (layout Regalign) (root_type d (codes "top"))

-- reg a of 32 bits, reg b of 64 with an accesswidth of 32, reg c[20] of 32
abbrev pub three_sizes : Word → Items
three_sizes w =
    top (spelled (codes "addressing") w
    (held (codes "a") Reg field_f
    (held (codes "b") Reg (number (codes "regwidth") 64 (number (codes "accesswidth") 32 field_f)) (array (codes "c") 20 Reg field_f no_items))))

pub three-compact : laid (three_sizes word.Compact) ≡ Some (record { size = 0x5C; access = 4; spans = up 0 4 ∷ up 4 0xC ∷ up 0xC 0x5C ∷ [] })
three-compact = refl

pub three-regalign : laid (three_sizes word.Regalign) ≡ Some (record { size = 0x60; access = 4; spans = up 0 4 ∷ up 8 0x10 ∷ up 0x10 0x60 ∷ [] })
three-regalign = refl

pub three-fullalign : laid (three_sizes word.Fullalign) ≡ Some (record { size = 0xD0; access = 4; spans = up 0 4 ∷ up 8 0x10 ∷ up 0x80 0xD0 ∷ [] })
three-fullalign = refl

-- a reg of 32 bits, then a regfile of three of them: 12 bytes are no power of two
abbrev pub reg_and_regfile : Word → Items
reg_and_regfile w =
    top (spelled (codes "addressing") w
    (held (codes "a") Reg field_f (held (codes "g") Regfile (held (codes "x") Reg field_f (held (codes "y") Reg field_f (held (codes "z") Reg field_f no_items))) no_items)))

pub regfile-regalign : laid (reg_and_regfile word.Regalign) ≡ Some (record { size = 0x18; access = 4; spans = up 0 4 ∷ up 0xC 0x18 ∷ [] })
regfile-regalign = refl

pub regfile-compact : laid (reg_and_regfile word.Compact) ≡ Some (record { size = 0x10; access = 4; spans = up 0 4 ∷ up 4 0x10 ∷ [] })
regfile-compact = refl

-- 12 bytes under an alignment of 8 begin at multiples of 24
abbrev pub aligned_regfiles : Items
aligned_regfiles =
    let three = held (codes "x") Reg field_f (held (codes "y") Reg field_f (held (codes "z") Reg field_f no_items)) in
    top (number (codes "alignment") 8 (held (codes "g") Regfile three (held (codes "h") Regfile three no_items)))

pub h-at-twenty_four : laid aligned_regfiles ≡ Some (record { size = 36; access = 4; spans = up 0 12 ∷ up 24 36 ∷ [] })
unfolding ones
h-at-twenty_four = refl

-- the bases of all rows
abbrev bases : Items → Option (List ℕ)
bases d = option_map (λ c. map (λ (r : Row). r.base) (rows_of d (codes "top") c)) (root_type d (codes "top"))

-- top, a, f, g, x, f, y, f, z, f
pub regfile-bases : bases (reg_and_regfile word.Regalign) ≡ Some (0 ∷ 0 ∷ 0 ∷ 0xC ∷ 0xC ∷ 0xC ∷ 0x10 ∷ 0x10 ∷ 0x14 ∷ 0x14 ∷ [])
regfile-bases = refl

-- reg a @ 0x10; reg b; and more
abbrev pub after_sixteen : Items → Items
after_sixteen rest = top (placed_at (codes "a") 0x10 field_f (held (codes "b") Reg field_f rest))

pub b-follows-a : laid (after_sixteen no_items) ≡ Some (record { size = 0x18; access = 4; spans = up 0x10 0x14 ∷ up 0x14 0x18 ∷ [] })
b-follows-a = refl

-- the fault of a map, or else none
abbrev fault : Items → Option Fault
fault d = elim (elaborated d None) [ Ok rows ↦ None | Err f ↦ Some f ]

abbrev at : FaultKind → List ℕ → Option Fault
at kind address = Some (record { kind = kind; address = address })

pub c-overlaps-a : fault (after_sixteen (placed_at (codes "c") 0x12 field_f no_items)) ≡ at AddressOverlap (0 ∷ 2 ∷ [])
unfolding item_fault define_fault instance_fault own_fault wrong_part wrong_part_of_kind wrong_number are_dims rivals property_of
c-overlaps-a = refl

-- a reg with these fields
abbrev pub one_reg : Items → Items
one_reg fields = top (held (codes "r") Reg fields no_items)

abbrev ranged : List ℕ → ℕ → ℕ → Items → Items → Items
ranged name high low body rest = holder (anonymous (record (bare_shell name) { range = Some (high, low) }) Field) body rest

-- one instance of this size, at the start of the component around it
abbrev pub alone : ℕ → Location
alone size = Bytes (record { offset = 0; size = size; dims = []; stride = size })

abbrev locations : Items → Option (List Location)
locations d = option_map (λ c. map (λ (r : Row). r.location) (rows_of d (codes "top") c)) (root_type d (codes "top"))

pub g-follows-f : locations (one_reg (ranged (codes "f") 7 4 no_items (held (codes "g") Field no_items no_items)))
    ≡ Some (alone 4 ∷ alone 4 ∷ Bits (up 4 8) ∷ Bits (up 8 9) ∷ [])
g-follows-f = refl

-- p is only read, and q has this access
abbrev pub same_bits : Word → Items
same_bits w = one_reg (ranged (codes "p") 3 0 (spelled (codes "sw") word.R no_items) (ranged (codes "q") 3 0 (spelled (codes "sw") w no_items) no_items))

pub read-and-written-share : fault (same_bits word.W) ≡ None
unfolding item_fault define_fault instance_fault own_fault wrong_part wrong_part_of_kind wrong_number are_dims rivals property_of
read-and-written-share = refl

pub q-overlaps-p : fault (same_bits word.Rw) ≡ at FieldOverlap (0 ∷ 0 ∷ 1 ∷ [])
unfolding item_fault define_fault instance_fault own_fault wrong_part wrong_part_of_kind wrong_number are_dims rivals property_of
q-overlaps-p = refl

-- regfile Q {}; addrmap top { Q x; };
pub x-is-empty : fault (holder (define (codes "Q") Regfile) no_items (top (plain (named (bare_shell (codes "x")) (codes "Q")) no_items))) ≡ at EmptyComponent (1 ∷ 0 ∷ [])
unfolding item_fault define_fault instance_fault own_fault wrong_part wrong_part_of_kind wrong_number are_dims rivals property_of
x-is-empty = refl

pub access-too-wide : fault (one_reg (number (codes "accesswidth") 64 field_f)) ≡ at AccessTooWide (0 ∷ 0 ∷ [])
unfolding item_fault define_fault instance_fault own_fault wrong_part wrong_part_of_kind wrong_number are_dims rivals property_of
access-too-wide = refl

-- reg { field {} f; } a[2] += 2;
pub stride-too-small : fault (top (holder (anonymous (record (bare_shell (codes "a")) { dims = 2 ∷ []; stride = Some 2 }) Reg) field_f no_items)) ≡ at StrideTooSmall (0 ∷ 0 ∷ [])
unfolding item_fault define_fault instance_fault own_fault wrong_part wrong_part_of_kind wrong_number are_dims rivals property_of
stride-too-small = refl

pub field-past-register : fault (one_reg (ranged (codes "f") 32 0 no_items no_items)) ≡ at FieldPastRegister (0 ∷ 0 ∷ 0 ∷ [])
unfolding item_fault define_fault instance_fault own_fault wrong_part wrong_part_of_kind wrong_number are_dims rivals property_of
field-past-register = refl

-- a field of one bit with this reset
abbrev pub one_bit : ℕ → Items
one_bit n = one_reg (holder (anonymous (record (bare_shell (codes "f")) { reset = Some n }) Field) no_items no_items)

pub reset-fits : fault (one_bit 1) ≡ None
unfolding item_fault define_fault instance_fault own_fault wrong_part wrong_part_of_kind wrong_number are_dims rivals property_of
reset-fits = refl

pub reset-too-wide : fault (one_bit 2) ≡ at ResetTooWide (0 ∷ 0 ∷ 0 ∷ [])
unfolding item_fault define_fault instance_fault own_fault wrong_part wrong_part_of_kind wrong_number are_dims rivals property_of
reset-too-wide = refl

pub no-top : fault no_items ≡ at NoTop []
unfolding item_fault define_fault instance_fault own_fault wrong_part wrong_part_of_kind wrong_number are_dims rivals property_of
no-top = refl

-- addrmap top {};
pub one-row : elaborated (top no_items) None
    ≡ Ok (record { names = codes "top" ∷ []; kind = Addrmap; base = 0; location = alone 0; values = valued Addressing (Worded word.Regalign) ∷ valued Lsb0 (Boolean true) ∷ [] } ∷ [])
unfolding item_fault define_fault
one-row = refl

-- the resets of the rows of a map
abbrev of_reset : Property → Value → Option Value
of_reset Reset v = Some v
of_reset p v = None

abbrev resets : List Row → List (List Value)
resets rows = map (λ (r : Row). filter_map (λ (e : PropertyValue). of_reset e.property e.value) r.values) rows

-- addrmap top { regfile { reg { field {} f[8] = 1; } q; q.f->reset = 2; } g; g.q.f->reset = 3; };
abbrev pub assigned_twice : Items
assigned_twice =
    top (held (codes "g") Regfile
    (held (codes "q") Reg (holder (anonymous (record (bare_shell (codes "f")) { dims = 8 ∷ []; reset = Some 1 }) Field) no_items no_items)
    (plain (dynamic (codes "q" ∷ codes "f" ∷ []) (codes "reset") (Number 2)) no_items))
    (plain (dynamic (codes "g" ∷ codes "q" ∷ codes "f" ∷ []) (codes "reset") (Number 3)) no_items))

-- top, g, q, f
pub outermost-reset : option_map (λ c. resets (rows_of assigned_twice (codes "top") c)) (root_type assigned_twice (codes "top")) ≡ Some ([] ∷ [] ∷ [] ∷ (Number 3 ∷ []) ∷ [])
outermost-reset = refl

-- reg { field {} f; } a[2] += 2 ^ 40;
pub map-too-large : fault (top (holder (anonymous (record (bare_shell (codes "a")) { dims = 2 ∷ []; stride = Some (2 ^ 40) }) Reg) field_f no_items)) ≡ at MapTooLarge (0 ∷ [])
unfolding item_fault define_fault instance_fault own_fault wrong_part wrong_part_of_kind wrong_number are_dims rivals property_of
map-too-large = refl

-- a reg, then so many regfiles, each of an instance of the one before it
abbrev pub chain : ℕ → Items → Items
chain zero rest = holder (define (100 ∷ []) Reg) field_f rest
chain (suc k) rest = chain k (holder (define ((101 + k) ∷ []) Regfile) (plain (named (bare_shell (codes "a")) ((100 + k) ∷ [])) no_items) rest)

abbrev pub chained : ℕ → Items
chained k = chain k (top (plain (named (bare_shell (codes "a")) ((100 + k) ∷ [])) no_items))

-- top.a. .. .a.f
pub sixteen-names : fault (chained 13) ≡ None
unfolding item_fault define_fault instance_fault own_fault wrong_part wrong_part_of_kind wrong_number are_dims rivals property_of
sixteen-names = refl

pub seventeen-names : fault (chained 14) ≡ at TooManyLevels (15 ∷ [])
unfolding item_fault define_fault instance_fault own_fault wrong_part wrong_part_of_kind wrong_number are_dims rivals property_of
seventeen-names = refl

-- the same with three instances in each regfile
abbrev pub tree : ℕ → Items → Items
tree zero rest = holder (define (100 ∷ []) Reg) field_f rest
tree (suc k) rest =
    let one = λ (name : List ℕ) (more : Items). plain (named (bare_shell name) ((100 + k) ∷ [])) more in
    tree k (holder (define ((101 + k) ∷ []) Regfile) (one (codes "a") (one (codes "b") (one (codes "c") no_items))) rest)

abbrev pub branched : ℕ → Items
branched k = tree k (top (plain (named (bare_shell (codes "x")) ((100 + k) ∷ [])) no_items))

-- the rows, and the size of the top
pub three-levels : option_map (λ c. count c.parts + 1) (root_type (branched 3) (codes "top")) ≡ Some 68
three-levels = refl

pub nine-levels : option_map (λ c. count c.parts + 1) (root_type (branched 9) (codes "top")) ≡ Some 49208
nine-levels = refl

pub size-of-three-levels : option_map (λ (l : Layout). l.size) (laid (branched 3)) ≡ Some 0x6C
size-of-three-levels = refl
