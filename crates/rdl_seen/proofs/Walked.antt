-- The items of a body are kept as the same where what stands around it agrees as far as they listen.
use Rattle.std.proofs.Common.{◌≡◌, Bool, true, List, ℕ, option_map, refl, ◌∙◌, ap}
use Rattle.std.proofs.lemmas.Bool.{or_left, or_right}
use Rattle.rdl_tree.specs.Items.{Items, no_items, plain, holder, Plain, named, own, default, dynamic, Holder, define, anonymous}
use Rattle.rdl_tree.specs.declared.shell.Kind.{Kind}
use Rattle.rdl_tree.specs.declared.shell.Kind.TheVariants.{Addrmap, Regfile, Reg, Field}
use Rattle.rdl_tree.specs.declared.shell.Shell.{Shell}
use Rattle.rdl_scope.specs.Closed.{lookup}
use Rattle.rdl_seen.specs.declared.names.NameSet.{NameSet}
use Rattle.rdl_seen.specs.declared.property_set.PropertySet.{PropertySet}
use Rattle.rdl_seen.specs.Agree.{shown, AgreeOn}
use Rattle.rdl_seen.specs.Contents.{slot_asks, asks, slot_gives, takes, slot_assigns, is_assigned, field_of}
use Rattle.rdl_seen.specs.Inside.{Inside, no_instances, with_instance, nothing_within, asked, verdict_of}
use Rattle.rdl_seen.specs.Layouts.{Laying}
use Rattle.rdl_seen.specs.Names.{class_of, names_of, with_names}
use Rattle.rdl_seen.specs.Node.{Around, with_type, is_ordered, without_access, core_of, layouts_of, Walked, known_of, within_type, plain_slot, after_plain, plain_instances, walked, body_of, node, known}
use Rattle.rdl_seen.specs.Fields.{field_takes}
use Rattle.rdl_seen.specs.PropertySet.{kind_set, with_properties, without_properties}
use Rattle.rdl_seen.specs.Slots.{named_slot, dynamic_slot, field_slot, type_slot, part_slot, Core, Slots, slot, written}
use Rattle.rdl_seen.specs.Values.{own_values, stated}
use Rattle.rdl_seen.proofs.Around.{agree_first, agree_second, agree_behind, agree_type, same_seen, same_known, same_shown}
use Rattle.rdl_seen.proofs.Bits.{has_first, has_second, has_own}
use Rattle.rdl_seen.proofs.Core.{core_same}
use Rattle.rdl_seen.proofs.Stated.{same_second, same_whole}

-- the same slots, and the same instances where all of them is compared
pub record SameWalked (deep : Bool) (w x : Walked) : Type 0 where
  pub slots : w.slots ≡ x.slots
  pub instances : deep ≡ true → w.instances ≡ x.instances

-- where something may be assigned, all of the instances is compared
abbrev pub IsDeepFor : Bool → Slots → Type 0
IsDeepFor deep s = is_assigned s ≡ true → deep ≡ true

-- these items are kept as the same where what stands around them agrees as far as they listen
abbrev pub Coincide : Laying → Bool → Items → Type 0
Coincide lay deep t =
    (a b : Around) (m n : Inside) → AgreeOn deep (asks (walked lay a m t).slots) (takes (walked lay a m t).slots) a b
    → IsDeepFor deep (walked lay a m t).slots → (deep ≡ true → m ≡ n) → SameWalked deep (walked lay a m t) (walked lay b n t)

pub found_same : (deep : Bool) (a b : Around) (t : List ℕ) (more : NameSet) (s : PropertySet) → AgreeOn deep (with_names (names_of (class_of t)) more) s a b
    → option_map (shown deep) (lookup t a.types) ≡ option_map (shown deep) (lookup t b.types)
found_same deep a b t more s agree = agree.types t (has_first (names_of (class_of t)).bits more.bits (class_of t) (has_own (class_of t)))

slot_same : (deep : Bool) (p : Plain) (a b : Around) (m n : Inside) (more : NameSet) (s : PropertySet)
    → AgreeOn deep (with_names (slot_asks (plain_slot a m p)) more) s a b → (slot_assigns (plain_slot a m p) ≡ true → deep ≡ true) → (deep ≡ true → m ≡ n)
    → plain_slot a m p ≡ plain_slot b n p
slot_same deep (named sh t) a b m n more s agree all before =
    ap (named_slot (class_of t)) (same_seen deep (lookup t a.types) (lookup t b.types) (found_same deep a b t more s agree))
slot_same deep (own p x) a b m n more s agree all before = refl
slot_same deep (default p x) a b m n more s agree all before = refl
slot_same deep (dynamic t p x) a b m n more s agree all before = ap (λ (k : Inside). dynamic_slot (verdict_of (asked p x) t k)) (before (all refl))

pub instances_same : (deep : Bool) (p : Plain) (a b : Around) (m n : Inside) (more : NameSet) (s : PropertySet)
    → AgreeOn deep (with_names (slot_asks (plain_slot a m p)) more) s a b → (deep ≡ true → m ≡ n) → deep ≡ true → plain_instances a p m ≡ plain_instances b p n
instances_same deep (named sh t) a b m n more s agree before all =
    let found : lookup t a.types ≡ lookup t b.types = same_known deep (lookup t a.types) (lookup t b.types) (found_same deep a b t more s agree) all in
    λ i. with_instance sh.name (within_type (found i)) (before all i)
instances_same deep (own p x) a b m n more s agree before all = before all
instances_same deep (default p x) a b m n more s agree before all = before all
instances_same deep (dynamic t p x) a b m n more s agree before all = before all

plain_coincides : (lay : Laying) (deep : Bool) (p : Plain) (rest : Items) → Coincide lay deep rest → Coincide lay deep (plain p rest)
plain_coincides lay deep p rest coincide a b m n agree all before =
    let here = plain_slot a m p in
    let there = walked lay (after_plain p a) (plain_instances a p m) rest in
    let given = without_properties (takes there.slots) (slot_gives here) in
    let here_e : here ≡ plain_slot b n p =
    slot_same deep p a b m n (asks there.slots) given agree (λ e. all (or_left (slot_assigns here) (is_assigned there.slots) e)) before in
    let there_e : SameWalked deep there (walked lay (after_plain p b) (plain_instances b p n) rest) =
    coincide (after_plain p a) (after_plain p b) (plain_instances a p m) (plain_instances b p n)
    (agree_behind deep p a b m (asks there.slots) (takes there.slots) agree)
    (λ e. all (or_right (slot_assigns here) (is_assigned there.slots) e))
    (instances_same deep p a b m n (asks there.slots) given agree before) in
    record { slots = λ i. slot (here_e i) (there_e.slots i); instances = there_e.instances }

-- a component is kept as the same, and the same is known of it inside where that is compared
pub record SameNode (lay : Laying) (deep : Bool) (a b : Around) (k : Kind) (body : Items) : Type 0 where
  pub core : (node lay a k body).core ≡ (node lay b k body).core
  pub slots : (node lay a k body).slots ≡ (node lay b k body).slots
  pub instances : deep ≡ true → (body_of lay a body).instances ≡ (body_of lay b body).instances

-- what stands around a component agrees as far as its items listen
pub agree_inside : (lay : Laying) (deep : Bool) (k : Kind) (body : Items) (a b : Around) → AgreeOn deep (node lay a k body).core.seen.asks (node lay a k body).core.seen.takes a b
    → AgreeOn deep (asks (body_of lay a body).slots) (takes (body_of lay a body).slots) a b
agree_inside lay deep k body a b agree =
    let s = (body_of lay a body).slots in
    let own = without_properties (kind_set k) (stated (own_values body)) in
    let fields = without_access (is_ordered k (layouts_of lay k a.defaults body s)) (field_takes body s) in
    record { types = agree.types; defaults = same_second fields (takes s) a.defaults b.defaults (same_second own (with_properties fields (takes s)) a.defaults b.defaults agree.defaults) }

pub node_same : (lay : Laying) (deep : Bool) (k : Kind) (body : Items) → Coincide lay deep body → (a b : Around)
    → AgreeOn deep (node lay a k body).core.seen.asks (node lay a k body).core.seen.takes a b → IsDeepFor deep (node lay a k body).slots
    → SameNode lay deep a b k body
node_same lay deep k body coincide a b agree all =
    let s = (body_of lay a body).slots in
    let walked_e : SameWalked deep (body_of lay a body) (body_of lay b body) = coincide a b no_instances no_instances (agree_inside lay deep k body a b agree) all (λ e. refl) in
    let core_e : core_of lay k a.defaults body s ≡ core_of lay k b.defaults body s = core_same lay k a.defaults b.defaults body s agree.defaults in
    record {
      core = core_e ∙ ap (core_of lay k b.defaults body) walked_e.slots;
      slots = walked_e.slots;
      instances = walked_e.instances;
    }

pub known_same : (lay : Laying) (deep : Bool) (a b : Around) (k : Kind) (body : Items) → SameNode lay deep a b k body → deep ≡ true → known lay a k body ≡ known lay b k body
known_same lay deep a b k body same all = λ i. known_of (same.core i) (same.instances all i)

pub shown_same : (lay : Laying) (deep : Bool) (a b : Around) (k : Kind) (body : Items) → SameNode lay deep a b k body → shown deep (known lay a k body) ≡ shown deep (known lay b k body)
shown_same lay deep a b k body same =
    same_shown deep (known lay a k body) (known lay b k body) (ap (λ (c : Core). c.seen) same.core) (known_same lay deep a b k body same)

define_coincides : (lay : Laying) (deep : Bool) (name : List ℕ) (k : Kind) (body rest : Items) → Coincide lay deep body → Coincide lay deep rest → Coincide lay deep (holder (define name k) body rest)
define_coincides lay deep name k body rest inside behind a b m n agree all before =
    let seen = (node lay a k body).core.seen in
    let there = walked lay (with_type name (known lay a k body) a) m rest in
    let here : SameNode lay deep a b k body =
    node_same lay deep k body inside a b (agree_first seen.asks (asks there.slots) seen.takes (takes there.slots) agree)
    (λ e. all (or_left seen.is_assigned (is_assigned there.slots) e)) in
    let agree_there = agree_type deep name (known lay a k body) (known lay b k body) a b (asks there.slots) (takes there.slots) (shown_same lay deep a b k body here)
    (agree_second seen.asks (asks there.slots) seen.takes (takes there.slots) agree) in
    let there_e : SameWalked deep there (walked lay (with_type name (known lay b k body) b) n rest) =
    behind (with_type name (known lay a k body) a) (with_type name (known lay b k body) b) m n agree_there
    (λ e. all (or_right seen.is_assigned (is_assigned there.slots) e)) before in
    record { slots = λ i. written (type_slot (class_of name)) (here.core i) (here.slots i) (there_e.slots i); instances = there_e.instances }

-- a body whose first item is an instance that is written there, of a component that is kept by itself
abbrev with_part : Laying → Around → Inside → Shell → Kind → Items → Items → Walked
with_part lay a m sh k body rest =
    let there = walked lay a (with_instance sh.name (known lay a k body).within m) rest in
    record { slots = written part_slot (node lay a k body).core (node lay a k body).slots there.slots; instances = there.instances }

part_coincides : (lay : Laying) (deep : Bool) (sh : Shell) (k : Kind) (body rest : Items) → Coincide lay deep body → Coincide lay deep rest → (a b : Around) (m n : Inside)
    → AgreeOn deep (asks (with_part lay a m sh k body rest).slots) (takes (with_part lay a m sh k body rest).slots) a b → IsDeepFor deep (with_part lay a m sh k body rest).slots → (deep ≡ true → m ≡ n)
    → SameWalked deep (with_part lay a m sh k body rest) (with_part lay b n sh k body rest)
part_coincides lay deep sh k body rest inside behind a b m n agree all before =
    let seen = (node lay a k body).core.seen in
    let there = walked lay a (with_instance sh.name (known lay a k body).within m) rest in
    let here : SameNode lay deep a b k body =
    node_same lay deep k body inside a b (agree_first seen.asks (asks there.slots) seen.takes (takes there.slots) agree)
    (λ e. all (or_left seen.is_assigned (is_assigned there.slots) e)) in
    let there_e : SameWalked deep there (walked lay b (with_instance sh.name (known lay b k body).within n) rest) =
    behind a b (with_instance sh.name (known lay a k body).within m) (with_instance sh.name (known lay b k body).within n)
    (agree_second seen.asks (asks there.slots) seen.takes (takes there.slots) agree)
    (λ e. all (or_right seen.is_assigned (is_assigned there.slots) e))
    (λ deep_e i. with_instance sh.name (known_same lay deep a b k body here deep_e i).within (before deep_e i)) in
    record { slots = λ i. written part_slot (here.core i) (here.slots i) (there_e.slots i); instances = there_e.instances }

field_coincides : (lay : Laying) (deep : Bool) (sh : Shell) (body rest : Items) → Coincide lay deep rest → Coincide lay deep (holder (anonymous sh Field) body rest)
field_coincides lay deep sh body rest behind a b m n agree all before =
    let there = walked lay a (with_instance sh.name nothing_within m) rest in
    let there_e : SameWalked deep there (walked lay b (with_instance sh.name nothing_within n) rest) =
    behind a b (with_instance sh.name nothing_within m) (with_instance sh.name nothing_within n)
    (record { types = λ name has. agree.types name (has_second 0 (asks there.slots).bits (class_of name) has); defaults = same_whole (takes there.slots) a.defaults b.defaults agree.defaults })
    all (λ deep_e i. with_instance sh.name nothing_within (before deep_e i)) in
    record { slots = λ i. slot (field_slot (field_of body)) (there_e.slots i); instances = there_e.instances }

holder_coincides : (lay : Laying) (deep : Bool) (h : Holder) (body rest : Items) → Coincide lay deep body → Coincide lay deep rest → Coincide lay deep (holder h body rest)
holder_coincides lay deep (define name k) body rest inside behind = define_coincides lay deep name k body rest inside behind
holder_coincides lay deep (anonymous sh Field) body rest inside behind = field_coincides lay deep sh body rest behind
holder_coincides lay deep (anonymous sh Addrmap) body rest inside behind = part_coincides lay deep sh Addrmap body rest inside behind
holder_coincides lay deep (anonymous sh Regfile) body rest inside behind = part_coincides lay deep sh Regfile body rest inside behind
holder_coincides lay deep (anonymous sh Reg) body rest inside behind = part_coincides lay deep sh Reg body rest inside behind

none_coincides : (lay : Laying) (deep : Bool) → Coincide lay deep no_items
none_coincides lay deep a b m n agree all before = record { slots = refl; instances = before }

pub coincide : (lay : Laying) (deep : Bool) (t : Items) → Coincide lay deep t
coincide lay deep no_items = none_coincides lay deep
coincide lay deep (plain p rest) = plain_coincides lay deep p rest (coincide lay deep rest)
coincide lay deep (holder h body rest) = holder_coincides lay deep h body rest (coincide lay deep body) (coincide lay deep rest)
