-- The instances of a body, in order: what its layouts take of them, what judges them, and which defaults they take.
-- SystemRDL 2.0: fields (clause 9), registers (10).
use Rattle.std.specs.Prelude.{ℕ, ◌&&◌, ◌||◌, not, nat_le, Bool, true, false, List, [], ◌∷◌, Option, Some, None, option_map, unwrap_or, if◌then◌else◌}
use Rattle.std.specs.Option.{option_or, is_some, is_none}
use Rattle.std.specs.List.{list_all}
use Rattle.rdl_tree.specs.Items.{Items, no_items, plain, holder, Plain, named, own, default, dynamic, Holder, define, anonymous}
use Rattle.rdl_tree.specs.declared.shell.Shell.{Shell}
use Rattle.rdl_tree.specs.declared.property.Property.TheVariants.{Fieldwidth, Sw, Reset}
use Rattle.rdl_seen.specs.declared.property_set.PropertySet.{PropertySet}
use Rattle.rdl_seen.specs.declared.seen.Seen.{Seen}
use Rattle.rdl_seen.specs.declared.values.Access.{Access}
use Rattle.rdl_seen.specs.declared.values.Access.TheVariants.{OnlyReads, OnlyWrites, Other}
use Rattle.rdl_seen.specs.declared.values.Values.{Values}
use Rattle.rdl_seen.specs.Inside.{has_room}
use Rattle.rdl_seen.specs.Layouts.{Span, Member, overlaps}
use Rattle.rdl_seen.specs.Modes.{same_number}
use Rattle.rdl_seen.specs.PropertySet.{no_properties, set_if, set_named, with_properties, without_properties}
use Rattle.rdl_seen.specs.Slots.{FieldBody, Slot, field_slot, named_slot, Slots, no_slots, slot, written}
use Rattle.rdl_seen.specs.Values.{put_named, bit_count, register_bits, access_bits}

-- the component of an instance: the body of a field, or what is seen of it, or it isn't known
pub data Of : Type 0 where
  of_field : FieldBody → Of
  of_seen : Seen → Of
  of_none : Of

abbrev pub of_type : Option Seen → Of
of_type None = of_none
of_type (Some s) = of_seen s

abbrev pub of_slot : Slot → Of
of_slot (field_slot f) = of_field f
of_slot (named_slot class seen) = of_type seen
of_slot s = of_none

-- the component of the first item, and the items behind it
abbrev pub first_of : Slots → Of
first_of no_slots = of_none
first_of (slot s rest) = of_slot s
first_of (written w c inside rest) = of_seen c.seen

abbrev pub rest_of : Slots → Slots
rest_of no_slots = no_slots
rest_of (slot s rest) = rest
rest_of (written w c inside rest) = rest

-- the defaults behind an item
abbrev pub after_default : Plain → Values → Values
after_default (named s t) v = v
after_default (own p x) v = v
after_default (default p x) v = put_named p x v
after_default (dynamic t p x) v = v

-- what is made of each instance, under the defaults that reach it
abbrev pub plain_each : {X : Type 0} → (Values → Shell → Of → X) → Values → Plain → Of → List X → List X
plain_each f v (named s t) o more = f v s o ∷ more
plain_each f v (own p x) o more = more
plain_each f v (default p x) o more = more
plain_each f v (dynamic t p x) o more = more

abbrev pub holder_each : {X : Type 0} → (Values → Shell → Of → X) → Values → Holder → Of → List X → List X
holder_each f v (define n k) o more = more
holder_each f v (anonymous s k) o more = f v s o ∷ more

abbrev pub each : {X : Type 0} → (Values → Shell → Of → X) → Values → Items → Slots → List X
each f v no_items s = []
each f v (plain p rest) s = plain_each f v p (first_of s) (each f (after_default p v) rest (rest_of s))
each f v (holder h body rest) s = holder_each f v h (first_of s) (each f v rest (rest_of s))

-- an instance says how many bits its field has, or which
abbrev pub says_some : List ℕ → Bool
says_some [] = false
says_some (n ∷ ns) = true

abbrev pub says_bits : Shell → Bool
says_bits s = is_some s.range || says_some s.dims

-- the width of a field in bits, if its instance doesn't say it; else it doesn't matter
abbrev pub room_of : Values → Shell → FieldBody → ℕ
room_of v s f = if says_bits s then 0 else unwrap_or (option_or f.width v.fieldwidth) 1

abbrev pub member_of : Values → Shell → Of → Member
member_of v s (of_field f) = record { shell = s; size = same_number (room_of v s f); access = same_number 0 }
member_of v s (of_seen seen) = record { shell = s; size = seen.size; access = seen.widest }
member_of v s of_none = record { shell = s; size = same_number 0; access = same_number 0 }

-- how many bits a reset needs: that of the instance, or else that of its component
abbrev pub reset_of : Values → Shell → Of → Option ℕ
reset_of v s (of_field f) = option_or (option_map bit_count s.reset) (option_or f.reset v.reset)
reset_of v s (of_seen seen) = option_or (option_map bit_count s.reset) seen.reset
reset_of v s of_none = option_map bit_count s.reset

abbrev pub access_of : Values → Shell → Of → Access
access_of v s (of_field f) = unwrap_or (option_or f.access v.sw) Other
access_of v s (of_seen seen) = seen.access
access_of v s of_none = Other

abbrev pub members : Values → Items → Slots → List Member
members v t s = each member_of v t s

abbrev pub resets : Values → Items → Slots → List (Option ℕ)
resets v t s = each reset_of v t s

abbrev pub accesses : Values → Items → Slots → List Access
accesses v t s = each access_of v t s

-- which defaults an instance takes: those of which neither it nor its field's body says anything
abbrev pub instance_takes : Shell → Of → PropertySet
instance_takes s (of_field f) =
    with_properties (set_if (is_none f.width && not (says_bits s)) Fieldwidth)
    (with_properties (set_if (is_none f.access) Sw) (set_if (is_none f.reset && is_none s.reset) Reset))
instance_takes s (of_seen seen) = no_properties
instance_takes s of_none = no_properties

abbrev pub plain_takes : Plain → Of → PropertySet
plain_takes (named s t) o = instance_takes s o
plain_takes (own p x) o = no_properties
plain_takes (default p x) o = no_properties
plain_takes (dynamic t p x) o = no_properties

abbrev pub holder_takes : Holder → Of → PropertySet
holder_takes (define n k) o = no_properties
holder_takes (anonymous s k) o = instance_takes s o

-- the property of a default
abbrev pub plain_gives : Plain → PropertySet
plain_gives (named s t) = no_properties
plain_gives (own p x) = no_properties
plain_gives (default p x) = set_named p
plain_gives (dynamic t p x) = no_properties

-- which defaults the fields of a body take from outside
abbrev pub field_takes : Items → Slots → PropertySet
field_takes no_items s = no_properties
field_takes (plain p rest) s = with_properties (plain_takes p (first_of s)) (without_properties (field_takes rest (rest_of s)) (plain_gives p))
field_takes (holder h body rest) s = with_properties (holder_takes h (first_of s)) (field_takes rest (rest_of s))

-- fields that share bits: one is only read, and the other only written
abbrev pub may_share : Access → Access → Bool
may_share OnlyReads OnlyWrites = true
may_share OnlyWrites OnlyReads = true
may_share a b = false

abbrev pub clashes_none : Span → Access → List Span → List Access → Bool
clashes_none s a [] others = true
clashes_none s a (t ∷ ts) [] = true
clashes_none s a (t ∷ ts) (b ∷ bs) = (not (overlaps s t) || may_share a b) && clashes_none s a ts bs

-- no two fields clash that lie there and are accessed so
abbrev pub clash_none : List Span → List Access → Bool
clash_none [] others = true
clash_none (s ∷ ss) [] = true
clash_none (s ∷ ss) (a ∷ rest) = clashes_none s a ss rest && clash_none ss rest

-- no reset has more bits than its field
abbrev pub have_room : List Span → List (Option ℕ) → Bool
have_room [] bits = true
have_room (s ∷ ss) [] = true
have_room (s ∷ ss) (b ∷ bs) = has_room b s && have_room ss bs

-- no field of a register with these values can have a fault, where those that share bits may
abbrev pub are_fields_sound : Values → List Span → List (Option ℕ) → Bool → Bool
are_fields_sound v spans bits may =
    nat_le (access_bits v) (register_bits v) && list_all (λ (s : Span). nat_le s.end (register_bits v)) spans && have_room spans bits && may
