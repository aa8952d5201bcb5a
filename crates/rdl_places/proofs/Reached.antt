-- What a target finds from a place is what it finds among all instances there.
use Rattle.std.proofs.Common.{◌≡◌, ℕ, zero, suc, ◌+◌, ◌<◌, ◌≤◌, List, ◌∷◌, length, Bool, true, false, Option, Some, None, option_map, refl, sym, ap, subst, ◌∙◌, arith}
use Rattle.std.specs.Prelude.{bytes_eq, slice_get, option_and_then, if◌then◌else◌}
use Rattle.rdl_tree.specs.Component.{holder_kind}
use Rattle.rdl_tree.specs.Items.{Items, no_items, plain, holder, Plain, named, own, default, dynamic, Holder, define, anonymous}
use Rattle.rdl_tree.specs.View.{list_of, plain_item, holder_item}
use Rattle.rdl_tree.specs.declared.description.Component.{Component}
use Rattle.rdl_tree.specs.declared.description.Item.{Item}
use Rattle.rdl_tree.specs.declared.description.Item.TheVariants.{Define, Instance, Own, Default, Dynamic}
use Rattle.rdl_tree.specs.declared.description.Of.{Of}
use Rattle.rdl_tree.specs.declared.description.Of.TheVariants.{Named, Anonymous}
use Rattle.rdl_tree.specs.declared.shell.Shell.{Shell}
use Rattle.rdl_tree.specs.declared.shell.Kind.{Kind}
use Rattle.rdl_tree.specs.declared.shell.Kind.TheVariants.{Addrmap, Regfile, Reg, Field}
use Rattle.rdl_scope.specs.Closed.{lookup}
use Rattle.rdl_seen.specs.Inside.{Inside, no_instances, Within, nothing_within, with_instance, how_many, Found, find}
use Rattle.rdl_seen.specs.Layouts.{Laying}
use Rattle.rdl_seen.specs.Meaning.{around_before, kept_at}
use Rattle.rdl_seen.specs.Node.{Around, after_plain, after_holder, plain_instances, holder_instances, within_type, walked, body_of, node, known}
use Rattle.rdl_seen.specs.OneByOne.{slot_at, instances_before}
use Rattle.rdl_seen.specs.Slots.{Slots, no_slots, slot, written, Node}
use Rattle.rdl_seen.proofs.Passing.{some_same}
use Rattle.rdl_places.specs.Scopes.{Place, around_places, HasKept, IsScope, Holding, IsHolding, AreHeld, known_at, holding_at, find_type}
use Rattle.rdl_places.specs.ScopeLaws.{SlotsAreKept, InsideIsScope, NodeHasSeen}
use Rattle.rdl_places.specs.Reached.{count_of, count_before, FoundAt, component_of, instance_of, instance_named, find_before, place_inside, find_inside, within_at, found_at, IsFoundHeld}
use Rattle.rdl_places.proofs.Scopes.{own_node, part_node, kept_here, held_at, type_known, type_held}

-- ---- Instances one by one.

-- what targets find inside what is written there, and inside what an instance is an instance of
abbrev pub part_within : Laying → Around → Kind → Items → Within
part_within lay a Field body = nothing_within
part_within lay a k body = (known lay a k body).within

abbrev pub of_within : Laying → Around → Of → Within
of_within lay a (Named t) = within_type (lookup t a.types)
of_within lay a (Anonymous c) = part_within lay a c.kind c.body

abbrev pub instances_behind : Laying → Around → Item → Inside → Inside
instances_behind lay a (Define n c) m = m
instances_behind lay a (Instance s of) m = with_instance s.name (of_within lay a of) m
instances_behind lay a (Own p v) m = m
instances_behind lay a (Default p v) m = m
instances_behind lay a (Dynamic t p v) m = m

pub none_before : (lay : Laying) (a : Around) (m : Inside) (t : Items) → instances_before lay 0 a m t ≡ m
none_before lay a m no_items = refl
none_before lay a m (plain p rest) = refl
none_before lay a m (holder h body rest) = refl

past_all : (lay : Laying) (a : Around) (m : Inside) (t : Items) (i : ℕ) → slice_get (list_of t) i ≡ None → instances_before lay (suc i) a m t ≡ instances_before lay i a m t
past_all lay a m no_items zero none = refl
past_all lay a m no_items (suc i) none = refl
past_all lay a m (plain p rest) zero none = absurd cc
past_all lay a m (plain p rest) (suc i) none = past_all lay (after_plain p a) (plain_instances a p m) rest i none
past_all lay a m (holder h body rest) zero none = absurd cc
past_all lay a m (holder h body rest) (suc i) none =
    let k = known lay a (holder_kind h) body in past_all lay (after_holder h k a) (holder_instances h k m) rest i none

plain_behind : (lay : Laying) (a : Around) (m : Inside) (p : Plain) → plain_instances a p m ≡ instances_behind lay a (plain_item p) m
plain_behind lay a m (named s t) = refl
plain_behind lay a m (own p v) = refl
plain_behind lay a m (default p v) = refl
plain_behind lay a m (dynamic t p v) = refl

holder_behind : (lay : Laying) (a : Around) (m : Inside) (h : Holder) (body : Items) → holder_instances h (known lay a (holder_kind h) body) m ≡ instances_behind lay a (holder_item h body) m
holder_behind lay a m (define n k) body = refl
holder_behind lay a m (anonymous s Addrmap) body = refl
holder_behind lay a m (anonymous s Regfile) body = refl
holder_behind lay a m (anonymous s Reg) body = refl
holder_behind lay a m (anonymous s Field) body = refl

pub one_behind : (lay : Laying) (a : Around) (m : Inside) (t : Items) (i : ℕ) (x : Item) → slice_get (list_of t) i ≡ Some x
    → instances_before lay (suc i) a m t ≡ instances_behind lay (around_before lay i a t) x (instances_before lay i a m t)
one_behind lay a m no_items i x got = absurd cc
one_behind lay a m (plain p rest) zero x got =
    none_before lay (after_plain p a) (plain_instances a p m) rest ∙ (plain_behind lay a m p ∙ ap (λ y. instances_behind lay a y m) (some_same (plain_item p) x got))
one_behind lay a m (plain p rest) (suc i) x got = one_behind lay (after_plain p a) (plain_instances a p m) rest i x got
one_behind lay a m (holder h body rest) zero x got =
    let k = known lay a (holder_kind h) body in
    none_before lay (after_holder h k a) (holder_instances h k m) rest ∙ (holder_behind lay a m h body ∙ ap (λ y. instances_behind lay a y m) (some_same (holder_item h body) x got))
one_behind lay a m (holder h body rest) (suc i) x got =
    let k = known lay a (holder_kind h) body in one_behind lay (after_holder h k a) (holder_instances h k m) rest i x got

-- all instances of a body
pub all_before : (lay : Laying) (a : Around) (m : Inside) (t : Items) → (walked lay a m t).instances ≡ instances_before lay (length (list_of t)) a m t
all_before lay a m no_items = refl
all_before lay a m (plain p rest) =
    all_before lay (after_plain p a) (plain_instances a p m) rest ∙ (let n : length (list_of (plain p rest)) ≡ suc (length (list_of rest)) = omega arith in ap (λ k. instances_before lay k a m (plain p rest)) (sym n))
all_before lay a m (holder h body rest) =
    let k = known lay a (holder_kind h) body in
    all_before lay (after_holder h k a) (holder_instances h k m) rest
    ∙ (let n : length (list_of (holder h body rest)) ≡ suc (length (list_of rest)) = omega arith in ap (λ j. instances_before lay j a m (holder h body rest)) (sym n))

-- ---- How many.

count_behind : (lay : Laying) (a : Around) (x : Item) (m : Inside) → how_many (instances_behind lay a x m) ≡ how_many m + count_of (Some x)
count_behind lay a (Define n c) m = omega arith
count_behind lay a (Instance s of) m = omega arith
count_behind lay a (Own p v) m = omega arith
count_behind lay a (Default p v) m = omega arith
count_behind lay a (Dynamic t p v) m = omega arith

counted : (lay : Laying) (a : Around) (t : Items) (i : ℕ) → how_many (instances_before lay i a no_instances t) ≡ count_before i t
counted lay a t zero = ap how_many (none_before lay a no_instances t)
counted lay a t (suc i) = by (counted lay a t i) (slice_get (list_of t) i) refl
  where
    by : how_many (instances_before lay i a no_instances t) ≡ count_before i t → (o : Option Item) → slice_get (list_of t) i ≡ o
        → how_many (instances_before lay (suc i) a no_instances t) ≡ count_before i t + count_of o
    by before None got = let same = ap how_many (past_all lay a no_instances t i got) in omega (arith, same, before)
    by before (Some x) got =
        let same = ap how_many (one_behind lay a no_instances t i x got) in
        let more = count_behind lay (around_before lay i a t) x (instances_before lay i a no_instances t) in
        same ∙ more ∙ ap (λ n. n + count_of (Some x)) before

-- ---- What an instance is an instance of.

within_of_known : (lay : Laying) (o : Option Holding) → within_at lay o ≡ within_type (option_map (known_at lay) o)
within_of_known lay None = refl
within_of_known lay (Some h) = refl

-- a component that is written there, by its node
there : (i : ℕ) (p : Place) (ps : List Place) (c : Component) → Node → Holding
there i p ps c n = record { kind = c.kind; body = c.body; node = n; places = record p { number = i } ∷ ps }

-- if it is kept by itself
kept_part : (lay : Laying) (i : ℕ) (p : Place) (ps : List Place) (c : Component) (k : Kind) (n : Node) → c.kind ≡ k → (o : Option Node) → o ≡ Some n
    → within_at lay (option_map (there i p ps c) o) ≡ (known lay (around_before lay i (around_places lay ps) p.body) k c.body).within
unfolding there
kept_part lay i p ps c k n e None same = absurd cc
kept_part lay i p ps c k n e (Some x) same = ap (λ z. (known lay (around_before lay i (around_places lay ps) p.body) z c.body).within) e

part_found : (lay : Laying) (i : ℕ) (p : Place) (ps : List Place) (c : Component) (k : Kind) → c.kind ≡ k
    → kept_at i p.slots ≡ part_node lay (around_before lay i (around_places lay ps) p.body) k c.body
    → within_at lay (holding_at i p ps c) ≡ part_within lay (around_before lay i (around_places lay ps) p.body) k c.body
unfolding there
part_found lay i p ps c Addrmap e kept =
    kept_part lay i p ps c Addrmap (node lay (around_before lay i (around_places lay ps) p.body) Addrmap c.body) e (kept_at i p.slots) kept
part_found lay i p ps c Regfile e kept =
    kept_part lay i p ps c Regfile (node lay (around_before lay i (around_places lay ps) p.body) Regfile c.body) e (kept_at i p.slots) kept
part_found lay i p ps c Reg e kept =
    kept_part lay i p ps c Reg (node lay (around_before lay i (around_places lay ps) p.body) Reg c.body) e (kept_at i p.slots) kept
part_found lay i p ps c Field e kept = ap (λ (o : Option Node). within_at lay (option_map (there i p ps c) o)) kept

-- the same place with fewer items before it
fewer : (lay : Laying) (i : ℕ) (p : Place) (ps : List Place) → HasKept lay (around_places lay ps) p → IsScope lay ps → i < p.number → IsScope lay (record p { number = i } ∷ ps)
fewer lay i p ps kept is h = (record { kept = λ j l. kept.kept j (omega (arith, l, h)) }, is)

component_found : (lay : Laying) (i : ℕ) (p : Place) (ps : List Place) (s : Shell) (o : Of) → HasKept lay (around_places lay ps) p → IsScope lay ps → i < p.number
    → slice_get (list_of p.body) i ≡ Some (Instance s o)
    → within_at lay (component_of i p ps o) ≡ of_within lay (around_before lay i (around_places lay ps) p.body) o
component_found lay i p ps s (Named t) kept is h got =
    within_of_known lay (find_type t (record p { number = i } ∷ ps)) ∙ ap within_type (type_known lay t (record p { number = i } ∷ ps) (fewer lay i p ps kept is h))
component_found lay i p ps s (Anonymous c) kept is h got =
    part_found lay i p ps c c.kind refl (kept.kept i h ∙ kept_here lay i (around_places lay ps) no_instances p.body (Instance s (Anonymous c)) got)

-- ---- And it is held.

-- one that is kept by itself
kept_part_held : (lay : Laying) (i : ℕ) (p : Place) (ps : List Place) (x : Item) (c : Component) (k : Kind) → c.kind ≡ k
    → HasKept lay (around_places lay ps) p → IsScope lay ps → i < p.number → slice_get (list_of p.body) i ≡ Some x
    → own_node lay (around_before lay i (around_places lay ps) p.body) x ≡ Some (node lay (around_before lay i (around_places lay ps) p.body) k c.body)
    → AreHeld lay (holding_at i p ps c)
kept_part_held lay i p ps x c k e kept is h got one =
    held_at lay i p ps x c kept is h got (one ∙ ap (λ (z : Kind). Some (node lay (around_before lay i (around_places lay ps) p.body) z c.body)) (sym e))

part_held : (lay : Laying) (i : ℕ) (p : Place) (ps : List Place) (x : Item) (c : Component) (k : Kind) → c.kind ≡ k
    → HasKept lay (around_places lay ps) p → IsScope lay ps → i < p.number → slice_get (list_of p.body) i ≡ Some x
    → own_node lay (around_before lay i (around_places lay ps) p.body) x ≡ part_node lay (around_before lay i (around_places lay ps) p.body) k c.body
    → AreHeld lay (holding_at i p ps c)
unfolding there
part_held lay i p ps x c Addrmap e kept is h got one = kept_part_held lay i p ps x c Addrmap e kept is h got one
part_held lay i p ps x c Regfile e kept is h got one = kept_part_held lay i p ps x c Regfile e kept is h got one
part_held lay i p ps x c Reg e kept is h got one = kept_part_held lay i p ps x c Reg e kept is h got one
part_held lay i p ps x c Field e kept is h got one =
    let none : kept_at i p.slots ≡ None = kept.kept i h ∙ kept_here lay i (around_places lay ps) no_instances p.body x got ∙ one in
    subst (λ (o : Option Node). AreHeld lay (option_map (there i p ps c) o)) (sym none) tt

component_held : (lay : Laying) (i : ℕ) (p : Place) (ps : List Place) (s : Shell) (o : Of) → HasKept lay (around_places lay ps) p → IsScope lay ps → i < p.number
    → slice_get (list_of p.body) i ≡ Some (Instance s o) → AreHeld lay (component_of i p ps o)
component_held lay i p ps s (Named t) kept is h got = type_held lay t (record p { number = i } ∷ ps) (fewer lay i p ps kept is h)
component_held lay i p ps s (Anonymous c) kept is h got = part_held lay i p ps (Instance s (Anonymous c)) c c.kind refl kept is h got refl

-- ---- What a name finds.

-- what is found at an item, if it is an instance of the name, or else before it
abbrev step : List ℕ → ℕ → Place → List Place → Option Of → Option FoundAt
step name i p ps d =
    elim d [ None ↦ find_before name i p ps | Some of ↦ Some (record { number = count_before i p.body; holding = component_of i p ps of }) ]

-- what the name finds with this item behind these instances
found_behind : (lay : Laying) (b : Around) (name : List ℕ) (m : Inside) (s : Shell) (o : Of) (v : Bool) → bytes_eq s.name name ≡ v
    → find name (instances_behind lay b (Instance s o) m)
    ≡ elim v [ true ↦ Some (record { number = how_many m; within = of_within lay b o }) | false ↦ find name m ]
found_behind lay b name m s o true e =
    ap (λ (v : Bool). if v then Some (let f : Found = record { number = how_many m; within = of_within lay b o } in f) else find name m) e
found_behind lay b name m s o false e =
    ap (λ (v : Bool). if v then Some (let f : Found = record { number = how_many m; within = of_within lay b o } in f) else find name m) e

at_item : (lay : Laying) (name : List ℕ) (i : ℕ) (p : Place) (ps : List Place) (x : Item) → HasKept lay (around_places lay ps) p → IsScope lay ps → i < p.number
    → slice_get (list_of p.body) i ≡ Some x
    → find name (instances_before lay i (around_places lay ps) no_instances p.body) ≡ option_map (found_at lay) (find_before name i p ps)
    → find name (instances_behind lay (around_before lay i (around_places lay ps) p.body) x (instances_before lay i (around_places lay ps) no_instances p.body))
    ≡ option_map (found_at lay) (step name i p ps (instance_of name x))
at_item lay name i p ps (Define n c) kept is h got before = before
at_item lay name i p ps (Own q v) kept is h got before = before
at_item lay name i p ps (Default q v) kept is h got before = before
at_item lay name i p ps (Dynamic t q v) kept is h got before = before
at_item lay name i p ps (Instance s o) kept is h got before = by (bytes_eq s.name name) refl
  where
    by : (v : Bool) → bytes_eq s.name name ≡ v
        → find name (instances_behind lay (around_before lay i (around_places lay ps) p.body) (Instance s o) (instances_before lay i (around_places lay ps) no_instances p.body))
        ≡ option_map (found_at lay) (step name i p ps (if v then Some o else None))
    by true e =
        found_behind lay (around_before lay i (around_places lay ps) p.body) name (instances_before lay i (around_places lay ps) no_instances p.body) s o true e
        ∙ (λ j. Some (record { number = counted lay (around_places lay ps) p.body i j; within = sym (component_found lay i p ps s o kept is h got) j }))
    by false e =
        found_behind lay (around_before lay i (around_places lay ps) p.body) name (instances_before lay i (around_places lay ps) no_instances p.body) s o false e ∙ before

pub instance_found : (lay : Laying) (name : List ℕ) (i : ℕ) (p : Place) (ps : List Place) → HasKept lay (around_places lay ps) p → IsScope lay ps → i ≤ p.number
    → find name (instances_before lay i (around_places lay ps) no_instances p.body) ≡ option_map (found_at lay) (find_before name i p ps)
instance_found lay name zero p ps kept is h = ap (find name) (none_before lay (around_places lay ps) no_instances p.body)
instance_found lay name (suc i) p ps kept is h = by (instance_found lay name i p ps kept is (omega (arith, h))) (slice_get (list_of p.body) i) refl
  where
    by : find name (instances_before lay i (around_places lay ps) no_instances p.body) ≡ option_map (found_at lay) (find_before name i p ps)
        → (o : Option Item) → slice_get (list_of p.body) i ≡ o
        → find name (instances_before lay (suc i) (around_places lay ps) no_instances p.body) ≡ option_map (found_at lay) (step name i p ps (instance_named name o))
    by before None got = ap (find name) (past_all lay (around_places lay ps) no_instances p.body i got) ∙ before
    by before (Some x) got =
        ap (find name) (one_behind lay (around_places lay ps) no_instances p.body i x got) ∙ at_item lay name i p ps x kept is (omega (arith, h)) got before

-- ---- And what is found is held.

item_held : (lay : Laying) (name : List ℕ) (i : ℕ) (p : Place) (ps : List Place) (x : Item) → HasKept lay (around_places lay ps) p → IsScope lay ps → i < p.number
    → slice_get (list_of p.body) i ≡ Some x → IsFoundHeld lay (find_before name i p ps) → IsFoundHeld lay (step name i p ps (instance_of name x))
item_held lay name i p ps (Define n c) kept is h got before = before
item_held lay name i p ps (Own q v) kept is h got before = before
item_held lay name i p ps (Default q v) kept is h got before = before
item_held lay name i p ps (Dynamic t q v) kept is h got before = before
item_held lay name i p ps (Instance s o) kept is h got before =
    elim (bytes_eq s.name name) as (λ (v : Bool). IsFoundHeld lay (step name i p ps (if v then Some o else None))) [
      | true ↦ component_held lay i p ps s o kept is h got
      | false ↦ before
    ]

pub instance_held : (lay : Laying) (name : List ℕ) (i : ℕ) (p : Place) (ps : List Place) → HasKept lay (around_places lay ps) p → IsScope lay ps → i ≤ p.number
    → IsFoundHeld lay (find_before name i p ps)
instance_held lay name zero p ps kept is h = tt
instance_held lay name (suc i) p ps kept is h = by (instance_held lay name i p ps kept is (omega (arith, h))) (slice_get (list_of p.body) i) refl
  where
    by : IsFoundHeld lay (find_before name i p ps) → (o : Option Item) → slice_get (list_of p.body) i ≡ o → IsFoundHeld lay (step name i p ps (instance_named name o))
    by before None got = before
    by before (Some x) got = item_held lay name i p ps x kept is (omega (arith, h)) got before

-- ---- Inside a component.

pub place_inside_kept : (lay : Laying) (h : Holding) → IsHolding lay h → HasKept lay (around_places lay h.places) (place_inside h)
place_inside_kept lay h is = record { kept = λ i l. ap (λ (n : Node). kept_at i n.slots) is.kept }

pub inside_found : (lay : Laying) (name : List ℕ) (h : Holding) → IsHolding lay h → find name (known_at lay h).within.inside ≡ option_map (found_at lay) (find_inside name h)
inside_found lay name h is =
    ap (find name) (all_before lay (around_places lay h.places) no_instances h.body)
    ∙ instance_found lay name (length (list_of h.body)) (place_inside h) h.places (place_inside_kept lay h is) is.places (omega arith)

pub inside_held : (lay : Laying) (name : List ℕ) (h : Holding) → IsHolding lay h → IsFoundHeld lay (find_inside name h)
inside_held lay name h is = instance_held lay name (length (list_of h.body)) (place_inside h) h.places (place_inside_kept lay h is) is.places (omega arith)

-- ---- Places in order.

kept_by_slot : (i : ℕ) (s : Slots) → kept_at i s ≡ option_and_then (kept_at 0) (slot_at i s)
kept_by_slot i no_slots = refl
kept_by_slot zero (slot s rest) = refl
kept_by_slot zero (written w c inside rest) = refl
kept_by_slot (suc i) (slot s rest) = kept_by_slot i rest
kept_by_slot (suc i) (written w c inside rest) = kept_by_slot i rest

pub slots_are_kept : SlotsAreKept
slots_are_kept lay a p same = record {
  kept = λ i h. kept_by_slot i p.slots ∙ ap (option_and_then (kept_at 0)) (same i h) ∙ sym (kept_by_slot i (body_of lay a p.body).slots);
}

pub inside_is_scope : InsideIsScope
inside_is_scope lay h is = (place_inside_kept lay h is, is.places)

pub node_has_seen : NodeHasSeen
node_has_seen lay h is = ap (λ (n : Node). n.core.seen) is.kept
