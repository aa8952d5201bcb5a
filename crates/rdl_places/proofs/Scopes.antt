-- What a name finds from a place is what it finds in all that is seen there.
use Rattle.std.proofs.Common.{◌≡◌, ℕ, zero, suc, ◌<◌, ◌≤◌, List, [], ◌∷◌, Bool, true, false, Option, Some, None, option_map, refl, sym, ap, subst, ◌∙◌, arith}
use Rattle.std.specs.Prelude.{bytes_eq, slice_get, if◌then◌else◌}
use Rattle.std.specs.Option.{option_or}
use Rattle.rdl_tree.specs.Component.{holder_kind}
use Rattle.rdl_tree.specs.Items.{Items, no_items, plain, holder, Plain, named, own, default, dynamic, Holder, define, anonymous}
use Rattle.rdl_tree.specs.View.{list_of, plain_item, holder_item}
use Rattle.rdl_tree.specs.declared.description.Component.{Component}
use Rattle.rdl_tree.specs.declared.description.Item.{Item}
use Rattle.rdl_tree.specs.declared.description.Item.TheVariants.{Define, Instance, Own, Default, Dynamic}
use Rattle.rdl_tree.specs.declared.description.Of.TheVariants.{Named, Anonymous}
use Rattle.rdl_tree.specs.declared.shell.Kind.{Kind}
use Rattle.rdl_tree.specs.declared.shell.Kind.TheVariants.{Addrmap, Regfile, Reg, Field}
use Rattle.rdl_scope.specs.Closed.{lookup}
use Rattle.rdl_seen.specs.Inside.{Inside, no_instances}
use Rattle.rdl_seen.specs.Layouts.{Laying}
use Rattle.rdl_seen.specs.Meaning.{around_before, kept_at}
use Rattle.rdl_seen.specs.Node.{Around, Known, after_plain, after_holder, plain_instances, holder_instances, holder_slots, walked, node, known}
use Rattle.rdl_seen.specs.Passing.{behind_item}
use Rattle.rdl_seen.specs.Slots.{Core, Slots, Node}
use Rattle.rdl_seen.proofs.Passing.{some_same, before_none, stands_behind_item}
use Rattle.rdl_places.specs.Scopes.{Place, around_places, HasKept, IsScope, Holding, AreHeld, known_at, defined, definition, holding_at, last_type, find_type}

-- ---- Items one by one.

pub before_past : (lay : Laying) (a : Around) (t : Items) (i : ℕ) → slice_get (list_of t) i ≡ None → around_before lay (suc i) a t ≡ around_before lay i a t
before_past lay a no_items zero none = refl
before_past lay a no_items (suc i) none = refl
before_past lay a (plain p rest) zero none = absurd cc
before_past lay a (plain p rest) (suc i) none = before_past lay (after_plain p a) rest i none
before_past lay a (holder h body rest) zero none = absurd cc
before_past lay a (holder h body rest) (suc i) none = before_past lay (after_holder h (known lay a (holder_kind h) body) a) rest i none

-- what is kept of an item by itself
abbrev pub part_node : Laying → Around → Kind → Items → Option Node
part_node lay a Field body = None
part_node lay a k body = Some (node lay a k body)

abbrev pub own_node : Laying → Around → Item → Option Node
own_node lay a (Define n c) = Some (node lay a c.kind c.body)
own_node lay a (Instance s (Named t)) = None
own_node lay a (Instance s (Anonymous c)) = part_node lay a c.kind c.body
own_node lay a (Own p v) = None
own_node lay a (Default p v) = None
own_node lay a (Dynamic t p v) = None

plain_none : (lay : Laying) (a : Around) (p : Plain) → None ≡ own_node lay a (plain_item p)
plain_none lay a (named s t) = refl
plain_none lay a (own p v) = refl
plain_none lay a (default p v) = refl
plain_none lay a (dynamic t p v) = refl

holder_first : (lay : Laying) (a : Around) (h : Holder) (body : Items) (more : Slots)
    → kept_at 0 (holder_slots h body (node lay a (holder_kind h) body).core (node lay a (holder_kind h) body).slots more) ≡ own_node lay a (holder_item h body)
holder_first lay a (define n k) body more = refl
holder_first lay a (anonymous s Addrmap) body more = refl
holder_first lay a (anonymous s Regfile) body more = refl
holder_first lay a (anonymous s Reg) body more = refl
holder_first lay a (anonymous s Field) body more = refl

holder_behind : (i : ℕ) (h : Holder) (body : Items) (c : Core) (s more : Slots) → kept_at (suc i) (holder_slots h body c s more) ≡ kept_at i more
holder_behind i (define n k) body c s more = refl
holder_behind i (anonymous sh Addrmap) body c s more = refl
holder_behind i (anonymous sh Regfile) body c s more = refl
holder_behind i (anonymous sh Reg) body c s more = refl
holder_behind i (anonymous sh Field) body c s more = refl

-- the slots of the items behind one with a component
slots_behind : Laying → Around → Inside → Holder → Items → Items → Slots
slots_behind lay a m h body rest = (walked lay (after_holder h (known lay a (holder_kind h) body) a) (holder_instances h (known lay a (holder_kind h) body) m) rest).slots

-- what is kept of an item is that of its component under what stands before it
pub kept_here : (lay : Laying) (i : ℕ) (a : Around) (m : Inside) (t : Items) (x : Item) → slice_get (list_of t) i ≡ Some x
    → kept_at i (walked lay a m t).slots ≡ own_node lay (around_before lay i a t) x
unfolding slots_behind
kept_here lay i a m no_items x got = absurd cc
kept_here lay zero a m (plain p rest) x got = plain_none lay a p ∙ ap (own_node lay a) (some_same (plain_item p) x got)
kept_here lay zero a m (holder h body rest) x got = holder_first lay a h body (slots_behind lay a m h body rest) ∙ ap (own_node lay a) (some_same (holder_item h body) x got)
kept_here lay (suc i) a m (plain p rest) x got = kept_here lay i (after_plain p a) (plain_instances a p m) rest x got
kept_here lay (suc i) a m (holder h body rest) x got =
    let k = known lay a (holder_kind h) body in
    holder_behind i h body (node lay a (holder_kind h) body).core (node lay a (holder_kind h) body).slots (slots_behind lay a m h body rest)
    ∙ kept_here lay i (after_holder h k a) (holder_instances h k m) rest x got

-- ---- Types.

-- what is known of this definition, or else this
abbrev or_known : Laying → Around → Option Component → Option Known → Option Known
or_known lay b None o = o
or_known lay b (Some c) o = Some (known lay b c.kind c.body)

type_behind : (lay : Laying) (b : Around) (name : List ℕ) (x : Item) → lookup name (behind_item lay b x).types ≡ or_known lay b (defined name x) (lookup name b.types)
type_behind lay b name (Define n c) =
    elim (bytes_eq n name) as (λ (v : Bool). (if v then Some (known lay b c.kind c.body) else lookup name b.types) ≡ or_known lay b (if v then Some c else None) (lookup name b.types)) [
      | true ↦ refl
      | false ↦ refl
    ]
type_behind lay b name (Instance s of) = refl
type_behind lay b name (Own p v) = refl
type_behind lay b name (Default p v) = refl
type_behind lay b name (Dynamic t p v) = refl

type_node : (lay : Laying) (b : Around) (name : List ℕ) (x : Item) (c : Component) → defined name x ≡ Some c → own_node lay b x ≡ Some (node lay b c.kind c.body)
type_node lay b name (Define n d) c e = by (bytes_eq n name) e
  where
    by : (v : Bool) → ◌≡◌ {A = Option Component} (if v then Some d else None) (Some c) → ◌≡◌ {A = Option Node} (Some (node lay b d.kind d.body)) (Some (node lay b c.kind c.body))
    by true same = let here : d ≡ c = cc in ap (λ (z : Component). Some (node lay b z.kind z.body)) here
    by false same = absurd cc
type_node lay b name (Instance s of) c e = absurd cc
type_node lay b name (Own p v) c e = absurd cc
type_node lay b name (Default p v) c e = absurd cc
type_node lay b name (Dynamic t p v) c e = absurd cc

-- the component of this item, by the place's slots
abbrev there : Laying → ℕ → Place → List Place → Component → Holding
there lay i p ps c = record { kind = c.kind; body = c.body; node = node lay (around_before lay i (around_places lay ps) p.body) c.kind c.body; places = record p { number = i } ∷ ps }

pub holding_there : (lay : Laying) (i : ℕ) (p : Place) (ps : List Place) (x : Item) (c : Component) → HasKept lay (around_places lay ps) p → i < p.number
    → slice_get (list_of p.body) i ≡ Some x
    → own_node lay (around_before lay i (around_places lay ps) p.body) x ≡ Some (node lay (around_before lay i (around_places lay ps) p.body) c.kind c.body)
    → holding_at i p ps c ≡ Some (there lay i p ps c)
holding_there lay i p ps x c kept h got one =
    ap (option_map (λ (n : Node). let z : Holding = record { kind = c.kind; body = c.body; node = n; places = record p { number = i } ∷ ps } in z))
    (kept.kept i h ∙ kept_here lay i (around_places lay ps) no_instances p.body x got ∙ one)

map_or : (lay : Laying) (x y : Option Holding) → option_or (option_map (known_at lay) x) (option_map (known_at lay) y) ≡ option_map (known_at lay) (option_or x y)
map_or lay None y = refl
map_or lay (Some h) y = refl

-- what is found at an item, by the component that it defines, or else before it
abbrev step : List ℕ → ℕ → Place → List Place → Option Component → Option Holding
step name i p ps d = elim d [ None ↦ last_type name i p ps | Some c ↦ holding_at i p ps c ]

abbrev known_from : Laying → List ℕ → List Place → Option Holding → Option Known
known_from lay name ps o = option_or (option_map (known_at lay) o) (lookup name (around_places lay ps).types)

types_before : (lay : Laying) (name : List ℕ) (i : ℕ) (p : Place) (ps : List Place) → HasKept lay (around_places lay ps) p → i ≤ p.number
    → lookup name (around_before lay i (around_places lay ps) p.body).types ≡ known_from lay name ps (last_type name i p ps)
types_before lay name zero p ps kept h = ap (λ (b : Around). lookup name b.types) (before_none lay (around_places lay ps) p.body)
types_before lay name (suc i) p ps kept h = by (types_before lay name i p ps kept (omega (arith, h))) (slice_get (list_of p.body) i) refl
  where
    among : lookup name (around_before lay i (around_places lay ps) p.body).types ≡ known_from lay name ps (last_type name i p ps)
        → (x : Item) (d : Option Component) → slice_get (list_of p.body) i ≡ Some x → defined name x ≡ d
        → or_known lay (around_before lay i (around_places lay ps) p.body) d (lookup name (around_before lay i (around_places lay ps) p.body).types)
        ≡ known_from lay name ps (step name i p ps d)
    among before x None got is = before
    among before x (Some c) got is =
        ap (known_from lay name ps)
        (sym (holding_there lay i p ps x c kept (omega (arith, h)) got (type_node lay (around_before lay i (around_places lay ps) p.body) name x c is)))

    by : lookup name (around_before lay i (around_places lay ps) p.body).types ≡ known_from lay name ps (last_type name i p ps)
        → (o : Option Item) → slice_get (list_of p.body) i ≡ o
        → lookup name (around_before lay (suc i) (around_places lay ps) p.body).types ≡ known_from lay name ps (step name i p ps (definition name o))
    by before None got = ap (λ (b : Around). lookup name b.types) (before_past lay (around_places lay ps) p.body i got) ∙ before
    by before (Some x) got =
        ap (λ (b : Around). lookup name b.types) (stands_behind_item lay (around_places lay ps) p.body i x got)
        ∙ type_behind lay (around_before lay i (around_places lay ps) p.body) name x
        ∙ among before x (defined name x) got refl

-- what is known of a type that is found is what is known of its name
pub type_known : (lay : Laying) (name : List ℕ) (ps : List Place) → IsScope lay ps → option_map (known_at lay) (find_type name ps) ≡ lookup name (around_places lay ps).types
type_known lay name [] is = refl
type_known lay name (p ∷ ps) is =
    sym (
    types_before lay name p.number p ps is.0 (omega arith)
    ∙ ap (option_or (option_map (known_at lay) (last_type name p.number p ps))) (sym (type_known lay name ps is.1))
    ∙ map_or lay (last_type name p.number p ps) (find_type name ps)
    )

-- ---- And what is found is kept.

pub held_at : (lay : Laying) (i : ℕ) (p : Place) (ps : List Place) (x : Item) (c : Component) → HasKept lay (around_places lay ps) p → IsScope lay ps → i < p.number
    → slice_get (list_of p.body) i ≡ Some x
    → own_node lay (around_before lay i (around_places lay ps) p.body) x ≡ Some (node lay (around_before lay i (around_places lay ps) p.body) c.kind c.body)
    → AreHeld lay (holding_at i p ps c)
held_at lay i p ps x c kept is h got one =
    subst (AreHeld lay) (sym (holding_there lay i p ps x c kept h got one))
    (record { kept = refl; places = (record { kept = λ j l. kept.kept j (omega (arith, l, h)) }, is) })

last_held : (lay : Laying) (name : List ℕ) (i : ℕ) (p : Place) (ps : List Place) → HasKept lay (around_places lay ps) p → IsScope lay ps → i ≤ p.number
    → AreHeld lay (last_type name i p ps)
last_held lay name zero p ps kept is h = tt
last_held lay name (suc i) p ps kept is h = by (last_held lay name i p ps kept is (omega (arith, h))) (slice_get (list_of p.body) i) refl
  where
    among : AreHeld lay (last_type name i p ps) → (x : Item) (d : Option Component) → slice_get (list_of p.body) i ≡ Some x → defined name x ≡ d → AreHeld lay (step name i p ps d)
    among before x None got same = before
    among before x (Some c) got same =
        held_at lay i p ps x c kept is (omega (arith, h)) got (type_node lay (around_before lay i (around_places lay ps) p.body) name x c same)

    by : AreHeld lay (last_type name i p ps) → (o : Option Item) → slice_get (list_of p.body) i ≡ o → AreHeld lay (step name i p ps (definition name o))
    by before None got = before
    by before (Some x) got = among before x (defined name x) got refl

either_held : (lay : Laying) (x y : Option Holding) → AreHeld lay x → AreHeld lay y → AreHeld lay (option_or x y)
either_held lay None y hx hy = hy
either_held lay (Some h) y hx hy = hx

pub type_held : (lay : Laying) (name : List ℕ) (ps : List Place) → IsScope lay ps → AreHeld lay (find_type name ps)
type_held lay name [] is = tt
type_held lay name (p ∷ ps) is =
    either_held lay (last_type name p.number p ps) (find_type name ps) (last_held lay name p.number p ps is.0 is.1 (omega arith)) (type_held lay name ps is.1)
