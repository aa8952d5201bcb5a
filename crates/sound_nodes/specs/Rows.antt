-- What a search for the first row that has a fault finds, by what is kept of components.
-- own: SystemRDL 2.0 says nothing of how a map is judged. The faults of rows `Faults` of `rdl_elab` says.
use Rattle.std.specs.Prelude.{ℕ, zero, suc, ◌&&◌, ◌||◌, not, nat_lt, Bool, true, false, List, [], ◌∷◌, ◌++◌, map, length, Option, Some, None, option_and_then, unwrap_or, bytes_eq, if◌then◌else◌}
use Rattle.std.specs.List.{list_any}
use Rattle.rdl_tree.specs.Address.{inner, body_at}
use Rattle.rdl_tree.specs.Items.{Items, no_items, plain, holder, Plain, named, own, default, dynamic}
use Rattle.rdl_tree.specs.Properties.{row}
use Rattle.rdl_tree.specs.declared.description.Item.{Item}
use Rattle.rdl_tree.specs.declared.description.Item.TheVariants.{Define, Instance, Own, Default, Dynamic}
use Rattle.rdl_tree.specs.declared.property.Property.TheVariants.{Sw, Reset}
use Rattle.rdl_tree.specs.declared.fault.FaultKind.{FaultKind}
use Rattle.rdl_tree.specs.declared.fault.FaultKind.TheVariants.{AccessTooWide, StrideTooSmall, AddressOverlap, FieldPastRegister, FieldOverlap, ResetTooWide}
use Rattle.rdl_tree.specs.declared.shell.Kind.{Kind}
use Rattle.rdl_tree.specs.declared.shell.Kind.TheVariants.{Addrmap, Regfile, Reg, Field}
use Rattle.rdl_tree.specs.declared.shell.Shell.{Shell}
use Rattle.rdl_scope.specs.ItemFaults.{first_of}
use Rattle.rdl_scope.specs.Types.{type_of}
use Rattle.rdl_seen.specs.declared.mode.Mode.{Mode}
use Rattle.rdl_seen.specs.declared.seen.Seen.{Seen}
use Rattle.rdl_seen.specs.declared.values.Values.{Values}
use Rattle.rdl_seen.specs.Contents.{are_harmless}
use Rattle.rdl_seen.specs.Fields.{after_default, clashes_none}
use Rattle.rdl_seen.specs.Inside.{has_room}
use Rattle.rdl_seen.specs.Layouts.{Span, overlaps, is_stride_wide, layout_under}
use Rattle.rdl_seen.specs.Meaning.{node_at}
use Rattle.rdl_seen.specs.Modes.{has_mode, number_under}
use Rattle.rdl_seen.specs.Node as node
use Rattle.rdl_seen.specs.Slots.{Node, Slots}
use Rattle.rdl_seen.specs.Values.{no_values, register_bits}
use Rattle.rdl_nodes.specs.Bodies.{after_default_item}
use Rattle.rdl_nodes.specs.Part.{Part, access_of}
use Rattle.rdl_nodes.specs.Parts.{parts_of}
use Rattle.sound_nodes.specs.declared.found.Found.{Found}
use Rattle.sound_nodes.specs.declared.found.Found.TheVariants.{Clear, Faulty, Untold}
use Rattle.sound_nodes.specs.Instances.{SeenInstance, instances_from}

abbrev pub is_clear : Found → Bool
is_clear Clear = true
is_clear (Faulty f) = false
is_clear Untold = false

-- what is found first
abbrev pub found_or : Found → Found → Found
found_or Clear more = more
found_or (Faulty f) more = Faulty f
found_or Untold more = Untold

-- the fault of the item at this address, if there is one, or else what is found there
abbrev pub faulty_or : List ℕ → Option FaultKind → Found → Found
faulty_or at None more = more
faulty_or at (Some kind) more = Faulty (record { kind = kind; address = at })

-- ---- The rows of an address map or a register file.

-- the access to a register is wider than the register
abbrev pub is_access_wide : Mode → Seen → Kind → Bool
is_access_wide m s Reg = nat_lt (number_under s.size m) (number_under s.widest m)
is_access_wide m s kind = false

-- what is wrong with an instance of which the component is seen, placed in a mode behind others; nothing is wrong with its bytes, if
-- all instances are known to lie apart
abbrev pub seen_fault : Bool → Mode → List Span → Span → Shell → Seen → Option FaultKind
seen_fault apart m before span s seen =
    first_of
    ((is_access_wide m seen seen.kind, AccessTooWide)
    ∷ (not apart && not (is_stride_wide (number_under seen.size m) s.stride), StrideTooSmall)
    ∷ (not apart && list_any (overlaps span) before, AddressOverlap)
    ∷ [])

-- an instance of the body at this address, and what is below it
abbrev pub seen_row : (SeenInstance → Seen → Found) → List ℕ → Bool → Mode → List Span → Span → SeenInstance → Option Seen → Found
seen_row below a apart m before span x None = Untold
seen_row below a apart m before span x (Some seen) = faulty_or (a ++ x.number ∷ []) (seen_fault apart m before span x.shell seen) (below x seen)

abbrev pub rows : (SeenInstance → Seen → Found) → List ℕ → Bool → Mode → List Span → List Span → List SeenInstance → Found
rows below a apart m before [] xs = Clear
rows below a apart m before (span ∷ spans) [] = Clear
rows below a apart m before (span ∷ spans) (x ∷ xs) = found_or (seen_row below a apart m before span x x.seen) (rows below a apart m (before ++ span ∷ []) spans xs)

-- ---- The rows of a register.

-- what is wrong with the bits of a field behind others, in a register of so many bits
abbrev pub field_fault : ℕ → List Span → List Part → Span → Part → Option FaultKind
field_fault bits before done span p =
    first_of
    ((nat_lt bits span.end, FieldPastRegister)
    ∷ (not (clashes_none span p.access before (map access_of done)), FieldOverlap)
    ∷ [])

-- a field at this address whose reset doesn't fit: it isn't told, if another may be assigned over it
abbrev pub wide_reset : Bool → List ℕ → Found
wide_reset assigned at = if assigned then Untold else Faulty (record { kind = ResetTooWide; address = at })

abbrev pub reset_or : Bool → List ℕ → Span → Part → Found → Found
reset_or assigned at span p more = if has_room p.reset span then more else wide_reset assigned at

-- the fields of the register at this address, to which nothing comes by which rows are judged, or what is harmless
abbrev pub fields : Bool → List ℕ → ℕ → List Span → List Part → List Span → List SeenInstance → List Part → Found
fields assigned a bits before done [] xs ps = Clear
fields assigned a bits before done (span ∷ spans) [] ps = Clear
fields assigned a bits before done (span ∷ spans) (x ∷ xs) [] = Clear
fields assigned a bits before done (span ∷ spans) (x ∷ xs) (p ∷ ps) =
    faulty_or (a ++ x.number ∷ []) (field_fault bits before done span p)
    (reset_or assigned (a ++ x.number ∷ []) span p (fields assigned a bits (before ++ span ∷ []) (done ++ p ∷ []) spans xs ps))

-- the defaults behind the first i items, and those that reach the item at an address
abbrev pub defaults_before : ℕ → Values → Items → Values
defaults_before zero v t = v
defaults_before (suc i) v no_items = v
defaults_before (suc i) v (plain p rest) = defaults_before i (after_default p v) rest
defaults_before (suc i) v (holder h body rest) = defaults_before i v rest

abbrev pub defaults_at : Values → List ℕ → Items → Option Values
defaults_at v [] t = None
defaults_at v (i ∷ []) t = Some (defaults_before i v t)
defaults_at v (i ∷ j ∷ c) t = option_and_then (defaults_at (defaults_before i v t) (j ∷ c)) (inner i t)

abbrev pub after_default_if : Option Item → Values → Values
after_default_if None v = v
after_default_if (Some x) v = after_default_item x v

-- ---- All of them.

-- a dynamic assignment by which rows are judged
abbrev pub is_judged : List ℕ → Bool
is_judged p = bytes_eq p (row Reset).name || bytes_eq p (row Sw).name

abbrev pub plain_assigns : Plain → Bool
plain_assigns (named s t) = false
plain_assigns (own p v) = false
plain_assigns (default p v) = false
plain_assigns (dynamic t p v) = is_judged p

-- one stands among these items
abbrev pub assigns : Items → Bool
assigns no_items = false
assigns (plain p rest) = plain_assigns p || assigns rest
assigns (holder h body rest) = assigns rest

abbrev pub item_assigns : Item → Bool
item_assigns (Define n c) = false
item_assigns (Instance s of) = false
item_assigns (Own p v) = false
item_assigns (Default p v) = false
item_assigns (Dynamic t p v) = is_judged p

-- where the component of the instance at this address is written
abbrev pub component_address : Items → List ℕ → List ℕ
component_address d a = unwrap_or (type_of d a) a

-- a register, which these defaults reach
abbrev pub fields_under : Bool → List ℕ → Items → Node → Values → Found
fields_under assigned a body n defaults =
    fields assigned a (register_bits n.core.values) [] [] n.core.layouts.compact.spans (instances_from 0 body n.slots) (parts_of defaults body n.slots)

abbrev pub fields_if : Bool → List ℕ → Items → Node → Option Values → Found
fields_if assigned a body n None = Untold
fields_if assigned a body n (Some defaults) = fields_under assigned a body n defaults

-- where a value may be assigned to its fields, which is harmless or may not be, or none
abbrev pub in_register : (assigned harmless : Bool) → List ℕ → Items → Node → Option Values → Found
in_register assigned harmless a body n defaults = if assigned && not harmless then Untold else fields_if assigned a body n defaults

abbrev pub mode_in : Kind → Values → Mode → Mode
mode_in Addrmap v m = node.mode_inside v
mode_in kind v m = m

-- no dynamic assignment in the body of a component can give a row a fault
abbrev pub are_own_harmless : Node → Bool
are_own_harmless n = are_harmless (record { spans = n.core.layouts.compact.spans; is_ordered = n.core.seen.is_ordered }) n.slots

-- so many instances that aren't known to lie apart that it takes long to compare each with those before it
abbrev pub is_costly : Bool → List Span → Bool
is_costly apart spans = not apart && nat_lt 2048 (length spans)

abbrev pub in_container : (SeenInstance → Seen → Found) → List ℕ → Mode → Mode → Items → Node → Found
in_container below a m inside body n =
    if are_own_harmless n && not (is_costly (has_mode n.core.apart m) (layout_under n.core.layouts m).spans)
    then rows below a (has_mode n.core.apart m) inside [] (layout_under n.core.layouts m).spans (instances_from 0 body n.slots)
    else Untold

-- a component of this kind, which stands under a mode, and its instances under another
abbrev pub in_kind : (SeenInstance → Seen → Found) → Items → Bool → Mode → Mode → List ℕ → Items → Node → Kind → Found
in_kind below d assigned m inside a body n Field = Clear
in_kind below d assigned m inside a body n Reg = in_register assigned (are_own_harmless n) a body n (defaults_at no_values a d)
in_kind below d assigned m inside a body n Addrmap = in_container below a m inside body n
in_kind below d assigned m inside a body n Regfile = in_container below a m inside body n

-- an instance of the body at this address, unless it is passed over, where this is found inside a component
abbrev pub below_instance : (Bool → Mode → List ℕ → Found) → Items → Bool → Mode → List ℕ → SeenInstance → Seen → Found
below_instance inside d assigned m a x seen = if has_mode seen.sound m then Clear else inside assigned m (component_address d (a ++ x.number ∷ []))

abbrev pub in_component : (Bool → Mode → List ℕ → Found) → Items → Bool → Mode → List ℕ → Items → Node → Found
in_component inside d assigned m a body n =
    in_kind (below_instance inside d (assigned || assigns body) (mode_in n.core.seen.kind n.core.values m) a) d (assigned || assigns body) m
    (mode_in n.core.seen.kind n.core.values m) a body n n.core.seen.kind

abbrev pub in_body : (Bool → Mode → List ℕ → Found) → Items → Bool → Mode → List ℕ → Option Items → Option Node → Found
in_body inside d assigned m a None n = Untold
in_body inside d assigned m a (Some body) None = Untold
in_body inside d assigned m a (Some body) (Some n) = in_component inside d assigned m a body n

-- the first row that has a fault, below the component at this address, which stands under a mode. Where a value may be assigned from
-- around by which rows are judged, what is kept doesn't always tell
abbrev pub searched : (levels : ℕ) → Items → Slots → Bool → Mode → List ℕ → Found
searched zero d t assigned m a = Untold
searched (suc levels) d t assigned m a = if nat_lt (length a) 17 then in_body (searched levels d t) d assigned m a (body_at a d) (node_at a t) else Untold
