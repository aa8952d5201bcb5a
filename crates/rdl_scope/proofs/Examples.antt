-- Small descriptions whose types, targets, values and faults compute.
use Rattle.std.proofs.Common.{◌≡◌, ℕ, List, [], ◌∷◌, Some, None, Option, refl}
use Rattle.std.specs.Prelude.{codes}
use Rattle.rdl_tree.specs.Items.{Items, no_items, plain, holder, named, own, default, dynamic, define, anonymous}
use Rattle.rdl_tree.specs.Shell.{bare_shell}
use Rattle.rdl_tree.specs.Properties.{property_of}
use Rattle.rdl_tree.specs.declared.shell.Kind.{Kind}
use Rattle.rdl_tree.specs.declared.shell.Kind.TheVariants.{Addrmap, Regfile, Reg, Field}
use Rattle.rdl_tree.specs.declared.value.Value.{Value}
use Rattle.rdl_tree.specs.declared.value.Value.TheVariants.{Number, Text}
use Rattle.rdl_tree.specs.declared.fault.FaultKind.TheVariants.{UnknownType}
use Rattle.rdl_scope.specs.Types.{type_of}
use Rattle.rdl_scope.specs.Target.{through}
use Rattle.rdl_scope.specs.Value.{value}
use Rattle.rdl_scope.specs.ItemFaults.{fault_of, item_fault, define_fault, instance_fault, own_fault, dynamic_fault, wrong_part, wrong_part_of_kind, wrong_number, are_dims}

abbrev path : List ℕ → List (List ℕ)
path name = name ∷ []

abbrev held : List ℕ → Kind → Items → Items → Items
held name kind body rest = holder (anonymous (bare_shell name) kind) body rest

-- reg T { field {} e; field {} f; }; addrmap top { T u; T v; u.f->reset = 1; T w; v.f->reset = 0; };
abbrev two_targets : Items
two_targets = holder (define (codes "T") Reg) (held (codes "e") Field no_items (held (codes "f") Field no_items no_items)) (holder (define (codes "top") Addrmap)
    (plain (named (bare_shell (codes "u")) (codes "T")) (plain (named (bare_shell (codes "v")) (codes "T"))
    (plain (dynamic (codes "u" ∷ codes "f" ∷ []) (codes "reset") (Number 1))
    (plain (named (bare_shell (codes "w")) (codes "T")) (plain (dynamic (codes "v" ∷ codes "f" ∷ []) (codes "reset") (Number 0)) no_items)))))
    no_items)

pub type-of-u : type_of two_targets (1 ∷ 0 ∷ []) ≡ Some (0 ∷ [])
type-of-u = refl

pub through-u-f : through two_targets (1 ∷ 2 ∷ []) ≡ Some ((1 ∷ 0 ∷ []) ∷ (0 ∷ 1 ∷ []) ∷ [])
through-u-f = refl

-- addrmap top { regfile { reg { field {} f[8] = 1; } q; inner } g; outer };
abbrev assigned_twice : (inner outer : Items) → Items
assigned_twice inner outer = holder (define (codes "top") Addrmap)
    (held (codes "g") Regfile
    (held (codes "q") Reg (holder (anonymous (record (bare_shell (codes "f")) { dims = 8 ∷ []; reset = Some 1 }) Field) no_items no_items) inner)
    outer)
    no_items

abbrev from_inside : Items
from_inside = plain (dynamic (codes "q" ∷ codes "f" ∷ []) (codes "reset") (Number 2)) no_items

abbrev from_outside : Items
from_outside = plain (dynamic (codes "g" ∷ codes "q" ∷ codes "f" ∷ []) (codes "reset") (Number 3)) no_items

abbrev reset_of_f : Items → Option Value
reset_of_f d = value d (0 ∷ []) (codes "g" ∷ codes "q" ∷ codes "f" ∷ []) (codes "reset")

pub outermost-wins : reset_of_f (assigned_twice from_inside from_outside) ≡ Some (Number 3)
unfolding property_of
outermost-wins = refl

pub inner-is-next : reset_of_f (assigned_twice from_inside no_items) ≡ Some (Number 2)
unfolding property_of
inner-is-next = refl

pub instance-is-last : reset_of_f (assigned_twice no_items no_items) ≡ Some (Number 1)
unfolding property_of
instance-is-last = refl

-- field A { name = "outer"; }; field B {}; addrmap top { reg { default name = "near"; A a; B b; field {} c; field { name = "own"; } d; } x; };
abbrev with_names : Items
with_names =
    holder (define (codes "A") Field) (plain (own (codes "name") (Text (codes "outer"))) no_items)
    (holder (define (codes "B") Field) no_items
    (holder (define (codes "top") Addrmap)
    (held (codes "x") Reg
    (plain (default (codes "name") (Text (codes "near")))
    (plain (named (bare_shell (codes "a")) (codes "A")) (plain (named (bare_shell (codes "b")) (codes "B"))
    (held (codes "c") Field no_items
    (held (codes "d") Field (plain (own (codes "name") (Text (codes "own"))) no_items) no_items)))))
    no_items)
    no_items))

abbrev name_in : List (List ℕ) → Option Value
name_in names = value with_names (2 ∷ []) names (codes "name")

pub name-of-a : name_in (codes "x" ∷ codes "a" ∷ []) ≡ Some (Text (codes "outer"))
unfolding property_of
name-of-a = refl

pub name-of-b : name_in (codes "x" ∷ codes "b" ∷ []) ≡ None
unfolding property_of
name-of-b = refl

pub name-of-c : name_in (codes "x" ∷ codes "c" ∷ []) ≡ Some (Text (codes "near"))
unfolding property_of
name-of-c = refl

pub name-of-d : name_in (codes "x" ∷ codes "d" ∷ []) ≡ Some (Text (codes "own"))
unfolding property_of
name-of-d = refl

pub name-of-x : name_in (codes "x" ∷ []) ≡ None
unfolding property_of
name-of-x = refl

-- addrmap top { T u; }; reg T {};
abbrev used_before : Items
used_before = holder (define (codes "top") Addrmap) (plain (named (bare_shell (codes "u")) (codes "T")) no_items) (holder (define (codes "T") Reg) no_items no_items)

pub type-stands-later : fault_of used_before ≡ Some (record { kind = UnknownType; address = 0 ∷ 0 ∷ [] })
unfolding item_fault define_fault instance_fault
type-stands-later = refl

pub no-fault : fault_of two_targets ≡ None
unfolding item_fault define_fault instance_fault own_fault dynamic_fault wrong_part wrong_part_of_kind wrong_number are_dims property_of
no-fault = refl
