-- The first fault of the items of a description.
-- SystemRDL 2.0, clause 5: names, scopes, definitions, instances, property assignments and defaults; clauses 9 to 13: what a component may hold,
-- and the numbers of its instances. own: the limits, which faults there are, and their order.
use Rattle.std.specs.Prelude.{ℕ, zero, suc, ◌*◌, ◌^◌, ◌&&◌, ◌||◌, not, nat_lt, nat_le, Bool, true, false, List, [], ◌∷◌, ◌++◌, length, Option, Some, None, option_map, option_and_then, bytes_eq, ◌≡◌, slice_get}
use Rattle.std.specs.Option.{option_or, is_some, is_none}
use Rattle.std.specs.List.{list_any, list_all}
use Rattle.std.specs.Int.{is_power_of_two}
use Rattle.std.specs.Cmp.Lexicographic.{pointwise}
use Rattle.rdl_tree.specs.Items.{Items, no_items, plain, holder, Plain, named, own, default, dynamic, count}
use Rattle.rdl_tree.specs.View.{list_of, plain_item, holder_item}
use Rattle.rdl_tree.specs.Component.{holder_kind}
use Rattle.rdl_tree.specs.Weight.{weight}
use Rattle.rdl_tree.specs.Depth.{depth}
use Rattle.rdl_tree.specs.Properties.{row, property_of, on, takes}
use Rattle.rdl_tree.specs.declared.shell.Kind.{Kind}
use Rattle.rdl_tree.specs.declared.shell.Kind.TheVariants.{Addrmap, Regfile, Reg, Field}
use Rattle.rdl_tree.specs.declared.shell.Outside.{Outside}
use Rattle.rdl_tree.specs.declared.shell.Outside.TheVariants.{Unsaid, External, Internal}
use Rattle.rdl_tree.specs.declared.shell.Shell.{Shell}
use Rattle.rdl_tree.specs.declared.value.Value.{Value}
use Rattle.rdl_tree.specs.declared.property.Property.{Property}
use Rattle.rdl_tree.specs.declared.property.Property.TheVariants.{Rclr, Rset, Onread, Woclr, Woset, Onwrite, We, Wel, Swwe, Swwel}
use Rattle.rdl_tree.specs.declared.fault.FaultKind.{FaultKind}
use Rattle.rdl_tree.specs.declared.fault.FaultKind.TheVariants.{NameTwice, UnknownType, KindNotAllowed, UnknownProperty, NotOfKind, WrongValue, AssignedTwice, Exclusive, NoSuchTarget, NotDynamic, PartNotAllowed, OutOfRange, Memory, DescriptionTooLarge}
use Rattle.rdl_tree.specs.declared.fault.Fault.{Fault}
use Rattle.rdl_tree.specs.declared.description.Component.{Component}
use Rattle.rdl_tree.specs.declared.description.Item.{Item}
use Rattle.rdl_tree.specs.declared.description.Item.TheVariants.{Define, Instance, Own, Default, Dynamic}
use Rattle.rdl_tree.specs.declared.description.Of.{Of}
use Rattle.rdl_scope.specs.Types.{last_definition, component_of, component_at}
use Rattle.rdl_scope.specs.Target.{instance_before, passes}
use Rattle.rdl_scope.specs.Value.{own_before, last_default, is_false}

-- E3: what a body may define and instantiate; None is the root
abbrev pub may_define : Option Kind → Kind → Bool
may_define None kind = true
may_define (Some Addrmap) kind = true
may_define (Some Regfile) Addrmap = false
may_define (Some Regfile) kind = true
may_define (Some Reg) Field = true
may_define (Some Reg) kind = false
may_define (Some Field) kind = false

abbrev pub may_instantiate : Option Kind → Kind → Bool
may_instantiate (Some Addrmap) Addrmap = true
may_instantiate (Some Addrmap) Regfile = true
may_instantiate (Some Addrmap) Reg = true
may_instantiate (Some Regfile) Regfile = true
may_instantiate (Some Regfile) Reg = true
may_instantiate (Some Reg) Field = true
may_instantiate around kind = false

-- E11: the parts that an instance may not have
abbrev pub is_said : Outside → Bool
is_said Unsaid = false
is_said External = true
is_said Internal = true

abbrev pub has_dims : Shell → Bool
has_dims s = nat_lt 0 (length s.dims)

unfoldable pub wrong_part_of_kind : Kind → Shell → Bool
wrong_part_of_kind Field s = is_some s.address || is_some s.stride || is_some s.align || is_said s.outside || nat_lt 1 (length s.dims)
wrong_part_of_kind kind s = is_some s.range || is_some s.reset

unfoldable pub wrong_part : Kind → Shell → Bool
wrong_part kind s =
    wrong_part_of_kind kind s || (has_dims s && is_some s.range) || (is_some s.stride && not (has_dims s)) || (is_some s.address && is_some s.align)
    || nat_lt 4 (length s.dims)

-- E12: the numbers that an instance may not have
abbrev pub product : List ℕ → ℕ
product [] = 1
product (n ∷ ns) = n * product ns

abbrev pub unless : {X : Type 0} → (X → Bool) → Option X → Bool
unless f None = false
unless f (Some x) = not (f x)

abbrev pub is_range : ℕ × ℕ → Bool
is_range r = nat_le r.1 r.0 && nat_le r.0 65535

-- a field's size, and the sizes of an array
abbrev pub is_field_size : ℕ → Bool
is_field_size n = nat_le 1 n && nat_le n 65536

abbrev pub is_size : ℕ → Bool
is_size n = nat_le 1 n

unfoldable pub are_dims : Kind → List ℕ → Bool
are_dims Field ns = list_all is_field_size ns
are_dims kind ns = list_all is_size ns && nat_le (product ns) 1048576

unfoldable pub wrong_number : Kind → Shell → Bool
wrong_number kind s =
    not (are_dims kind s.dims) || unless is_range s.range || unless (λ n. nat_le n (2 ^ 40)) s.address
    || unless (λ n. nat_le 1 n && nat_le n (2 ^ 40)) s.stride || unless (λ n. is_power_of_two n && nat_le n (2 ^ 40)) s.align

-- E5: a component of this kind has the property; None is the root
abbrev pub is_of : Option Kind → Property → Bool
is_of None p = false
is_of (Some kind) p = on p kind

-- E8: the properties that exclude one another, where they aren't false
unfoldable pub rivals : Property → List Property
rivals Rclr = Rset ∷ Onread ∷ []
rivals Rset = Rclr ∷ Onread ∷ []
rivals Onread = Rclr ∷ Rset ∷ []
rivals Woclr = Woset ∷ Onwrite ∷ []
rivals Woset = Woclr ∷ Onwrite ∷ []
rivals Onwrite = Woclr ∷ Woset ∷ []
rivals We = Wel ∷ []
rivals Wel = We ∷ []
rivals Swwe = Swwel ∷ []
rivals Swwel = Swwe ∷ []
rivals p = []

abbrev pub is_set : Option Value → Bool
is_set None = false
is_set (Some v) = not (is_false v)

-- one of its rivals is set among the first n items
abbrev pub is_excluded : ℕ → Items → Property → Bool
is_excluded n body p = list_any (λ rival. is_set (own_before (row rival).name n body)) (rivals p)

-- E7: a dynamic assignment of the same target and property stands among the first n items
abbrev pub reaches : List (List ℕ) → List ℕ → Plain → Bool
reaches target name (dynamic t p v) = bytes_eq p name && pointwise bytes_eq t target
reaches target name (named s t) = false
reaches target name (own p v) = false
reaches target name (default p v) = false

abbrev pub reached_before : List (List ℕ) → List ℕ → ℕ → Items → Bool
reached_before target name zero t = false
reached_before target name (suc n) no_items = false
reached_before target name (suc n) (plain p rest) = reaches target name p || reached_before target name n rest
reached_before target name (suc n) (holder h body rest) = reached_before target name n rest

-- E9: the kind of the component to which a target leads, from the n-th item of the body at b; None: there is none
abbrev pub kind_at : Items → List ℕ → Option Kind
kind_at d c = option_map (λ (k : Component). k.kind) (component_at d c)

abbrev pub instance_kind : Items → List ℕ → Option Kind
instance_kind d a = option_and_then (kind_at d) (component_of d a)

-- each instance in a component is of a kind that the component may hold
abbrev pub AreKindsAllowed : Items → Type 0
AreKindsAllowed d =
    (a : List ℕ) (c : Component) (n : ℕ) (s : Shell) (o : Of) (k : Kind) → component_at d a ≡ Some c → slice_get (list_of c.body) n ≡ Some (Instance s o)
    → instance_kind d (a ++ n ∷ []) ≡ Some k → may_instantiate (Some c.kind) k ≡ true

abbrev pub last_of : List (List ℕ) → Option (List ℕ)
last_of [] = None
last_of (a ∷ []) = Some a
last_of (a ∷ b ∷ path) = last_of (b ∷ path)

abbrev pub target_kind : Items → List ℕ → ℕ → List (List ℕ) → Option Kind
target_kind d b n t = option_and_then (instance_kind d) (option_and_then last_of (passes d b n t))

-- the first of these faults whose test holds
abbrev pub first_of : List (Bool × FaultKind) → Option FaultKind
first_of [] = None
first_of (f ∷ fs) = elim f.0 [ true ↦ Some f.1 | false ↦ first_of fs ]

-- a definition in a body of this kind, or the root
unfoldable pub define_fault : Option Kind → (twice : Bool) → Kind → Option FaultKind
define_fault around twice kind = first_of ((twice, NameTwice) ∷ (not (may_define around kind), KindNotAllowed) ∷ [])

-- an instance, whose component is of this kind; None: its type is unknown
unfoldable pub instance_fault : Option Kind → (twice : Bool) → Shell → Option Kind → Option FaultKind
instance_fault around twice s None = first_of ((twice, NameTwice) ∷ (true, UnknownType) ∷ [])
instance_fault around twice s (Some kind) =
    first_of
    ((twice, NameTwice)
    ∷ (not (may_instantiate around kind), KindNotAllowed)
    ∷ (wrong_part kind s, PartNotAllowed)
    ∷ (wrong_number kind s, OutOfRange)
    ∷ [])

-- an assignment in the component itself; None: no property has the name
unfoldable pub own_fault : Option Kind → (twice excluded : Bool) → Option Property → Value → Option FaultKind
own_fault around twice excluded None v = Some UnknownProperty
own_fault around twice excluded (Some p) v =
    first_of
    ((not (is_of around p), NotOfKind)
    ∷ (not (takes p v), WrongValue)
    ∷ (twice, AssignedTwice)
    ∷ (not (is_false v) && excluded, Exclusive)
    ∷ [])

unfoldable pub default_fault : (twice : Bool) → Option Property → Value → Option FaultKind
default_fault twice None v = Some UnknownProperty
default_fault twice (Some p) v = first_of ((not (takes p v), WrongValue) ∷ (twice, AssignedTwice) ∷ [])

-- an assignment from outside, to a component of this kind; None: there is no such target before it
unfoldable pub dynamic_fault : (twice : Bool) → Option Property → Value → Option Kind → Option FaultKind
dynamic_fault twice None v kind = Some UnknownProperty
dynamic_fault twice (Some p) v kind =
    first_of
    ((is_some kind && not (is_of kind p), NotOfKind)
    ∷ (not (takes p v), WrongValue)
    ∷ (twice, AssignedTwice)
    ∷ (is_none kind, NoSuchTarget)
    ∷ (not (row p).dynamic, NotDynamic)
    ∷ [])

abbrev pub excluded_by : ℕ → Items → Option Property → Bool
excluded_by n body None = false
excluded_by n body (Some p) = is_excluded n body p

-- the fault of item n of the body at b, which is that of a component of this kind, or the root
unfoldable pub item_fault : Items → Option Kind → List ℕ → Items → ℕ → Item → Option FaultKind
item_fault d around b body n (Define name c) = define_fault around (is_some (last_definition name n body)) c.kind
item_fault d around b body n (Instance s o) = instance_fault around (is_some (instance_before s.name n body)) s (instance_kind d (b ++ n ∷ []))
item_fault d around b body n (Own name v) = own_fault around (is_some (own_before name n body)) (excluded_by n body (property_of name)) (property_of name) v
item_fault d around b body n (Default name v) = default_fault (is_some (last_default name n body)) (property_of name) v
item_fault d around b body n (Dynamic t name v) = dynamic_fault (reached_before t name n body) (property_of name) v (target_kind d b n t)

abbrev pub fault_at : List ℕ → Option FaultKind → Option Fault
fault_at a kind = option_map (λ k. record { kind = k; address = a }) kind

-- of the items from number n on of the body at b: each item before what is inside it, and that before the next item
abbrev pub first_fault : Items → Option Kind → List ℕ → Items → ℕ → Items → Option Fault
first_fault d around b body n no_items = None
first_fault d around b body n (plain p rest) =
    option_or (fault_at (b ++ n ∷ []) (item_fault d around b body n (plain_item p))) (first_fault d around b body (suc n) rest)
first_fault d around b body n (holder h inside rest) =
    option_or (fault_at (b ++ n ∷ []) (item_fault d around b body n (holder_item h inside)))
    (option_or (first_fault d (Some (holder_kind h)) (b ++ n ∷ []) inside 0 inside) (first_fault d around b body (suc n) rest))

-- of the items inside an item's own component
abbrev pub inside_fault : Items → List ℕ → Option Component → Option Fault
inside_fault d a None = None
inside_fault d a (Some c) = first_fault d (Some c.kind) a c.body 0 c.body

-- E25: the limits of nesting, items and weight
abbrev pub is_too_large : Items → Bool
is_too_large d = nat_lt 16 (depth d) || nat_lt 65536 (count d) || nat_lt 8388608 (weight d)

abbrev pub fault_of : Items → Option Fault
fault_of d = elim (is_too_large d) [ true ↦ Some (record { kind = DescriptionTooLarge; address = [] }) | false ↦ first_fault d None [] d 0 d ]

-- E24: a want of memory, which may come in the place of any answer
abbrev pub out_of_memory : Fault
out_of_memory = record { kind = Memory; address = [] }
