-- The items of a body have the same faults where what stands around it agrees as far as they listen.
use Rattle.std.proofs.Common.{◌≡◌, Bool, true, false, List, ℕ, suc, Option, Some, None, option_map, ◌&&◌, refl, sym, ap, ◌∙◌}
use Rattle.std.specs.Option.{is_some, is_none}
use Rattle.std.proofs.lemmas.Bool.{or_left, or_right}
use Rattle.rdl_tree.specs.Component.{holder_kind}
use Rattle.rdl_tree.specs.Items.{Items, no_items, plain, holder, Plain, named, own, default, dynamic, Holder, define, anonymous}
use Rattle.rdl_tree.specs.Properties.{property_of}
use Rattle.rdl_tree.specs.declared.fault.FaultKind.{FaultKind}
use Rattle.rdl_tree.specs.declared.shell.Kind.{Kind}
use Rattle.rdl_tree.specs.declared.shell.Kind.TheVariants.{Addrmap, Regfile, Reg, Field}
use Rattle.rdl_tree.specs.declared.shell.Shell.{Shell}
use Rattle.rdl_scope.specs.Closed.{lookup}
use Rattle.rdl_scope.specs.ItemFaults.{define_fault, instance_fault, dynamic_fault, reached_before}
use Rattle.rdl_scope.specs.Target.{instance_before}
use Rattle.rdl_scope.specs.Types.{last_definition}
use Rattle.rdl_seen.specs.declared.names.NameSet.{NameSet}
use Rattle.rdl_seen.specs.declared.property_set.PropertySet.{PropertySet}
use Rattle.rdl_seen.specs.declared.seen.Seen.{Seen}
use Rattle.rdl_seen.specs.Agree.{AgreeOn}
use Rattle.rdl_seen.specs.Clean.{kind_of, kind_in, plain_fault, holder_fault, are_clean}
use Rattle.rdl_seen.specs.Contents.{slot_asks, asks, slot_gives, takes, slot_assigns, is_assigned}
use Rattle.rdl_seen.specs.Inside.{Inside, no_instances, with_instance, nothing_within}
use Rattle.rdl_seen.specs.Laws.{FaultsCoincide}
use Rattle.rdl_seen.specs.Layouts.{Laying}
use Rattle.rdl_seen.specs.Names.{class_of, names_of, with_names}
use Rattle.rdl_seen.specs.Node.{Known, Around, with_type, with_default, Walked, plain_slot, after_plain, after_holder, plain_instances, holder_instances, walked, node, known}
use Rattle.rdl_seen.specs.PropertySet.{without_properties}
use Rattle.rdl_seen.specs.Slots.{written, part_slot}
use Rattle.rdl_seen.proofs.Around.{agree_first, agree_second, agree_behind, agree_type, same_seen}
use Rattle.rdl_seen.proofs.Bits.{has_second}
use Rattle.rdl_seen.proofs.Stated.{same_whole}
use Rattle.rdl_seen.proofs.Walked.{IsDeepFor, agree_inside, SameNode, coincide, node_same, known_same, found_same, instances_same, shown_same}

-- these items have a fault, or have none, wherever what stands around them agrees as far as they listen
abbrev Coincide : Laying → Bool → Items → Type 0
Coincide lay deep t =
    (around : Option Kind) (body : Items) (i : ℕ) (a b : Around) (m n : Inside) → AgreeOn deep (asks (walked lay a m t).slots) (takes (walked lay a m t).slots) a b
    → IsDeepFor deep (walked lay a m t).slots → (deep ≡ true → m ≡ n) → are_clean lay a around body i m t ≡ are_clean lay b around body i n t

kind_seen : (o : Option Known) → option_map (λ (k : Known). k.seen.kind) o ≡ option_map (λ (s : Seen). s.kind) (option_map (λ (k : Known). k.seen) o)
kind_seen None = refl
kind_seen (Some k) = refl

kind_same : (deep : Bool) (t : List ℕ) (a b : Around) (more : NameSet) (s : PropertySet) → AgreeOn deep (with_names (names_of (class_of t)) more) s a b → kind_of t a ≡ kind_of t b
kind_same deep t a b more s agree =
    kind_seen (lookup t a.types)
    ∙ (ap (option_map (λ (x : Seen). x.kind)) (same_seen deep (lookup t a.types) (lookup t b.types) (found_same deep a b t more s agree)) ∙ sym (kind_seen (lookup t b.types)))

fault_same : (deep : Bool) (p : Plain) (around : Option Kind) (body : Items) (i : ℕ) (a b : Around) (m n : Inside) (more : NameSet) (s : PropertySet)
    → AgreeOn deep (with_names (slot_asks (plain_slot a m p)) more) s a b → (slot_assigns (plain_slot a m p) ≡ true → deep ≡ true) → (deep ≡ true → m ≡ n)
    → plain_fault a around body i m p ≡ plain_fault b around body i n p
fault_same deep (named sh t) around body i a b m n more s agree all before =
    ap (instance_fault around (is_some (instance_before sh.name i body)) sh) (kind_same deep t a b more s agree)
fault_same deep (own p x) around body i a b m n more s agree all before = refl
fault_same deep (default p x) around body i a b m n more s agree all before = refl
fault_same deep (dynamic t p x) around body i a b m n more s agree all before =
    ap (λ (k : Inside). dynamic_fault (reached_before t p i body) (property_of p) x (kind_in t k)) (before (all refl))

plain_coincides : (lay : Laying) (deep : Bool) (p : Plain) (rest : Items) → Coincide lay deep rest → Coincide lay deep (plain p rest)
plain_coincides lay deep p rest behind around body i a b m n agree all before =
    let here = plain_slot a m p in
    let there = walked lay (after_plain p a) (plain_instances a p m) rest in
    let given = without_properties (takes there.slots) (slot_gives here) in
    let here_e : plain_fault a around body i m p ≡ plain_fault b around body i n p =
    fault_same deep p around body i a b m n (asks there.slots) given agree (λ e. all (or_left (slot_assigns here) (is_assigned there.slots) e)) before in
    let there_e : are_clean lay (after_plain p a) around body (suc i) (plain_instances a p m) rest ≡ are_clean lay (after_plain p b) around body (suc i) (plain_instances b p n) rest =
    behind around body (suc i) (after_plain p a) (after_plain p b) (plain_instances a p m) (plain_instances b p n)
    (agree_behind deep p a b m (asks there.slots) (takes there.slots) agree)
    (λ e. all (or_right (slot_assigns here) (is_assigned there.slots) e))
    (instances_same deep p a b m n (asks there.slots) given agree before) in
    λ j. is_none (here_e j) && there_e j

define_coincides : (lay : Laying) (deep : Bool) (name : List ℕ) (k : Kind) (inner rest : Items) → Coincide lay deep inner → Coincide lay deep rest
    → Coincide lay deep (holder (define name k) inner rest)
define_coincides lay deep name k inner rest inside behind around body i a b m n agree all before =
    let seen = (node lay a k inner).core.seen in
    let there = walked lay (with_type name (known lay a k inner) a) m rest in
    let first = agree_first seen.asks (asks there.slots) seen.takes (takes there.slots) agree in
    let deep_first : seen.is_assigned ≡ true → deep ≡ true = λ e. all (or_left seen.is_assigned (is_assigned there.slots) e) in
    let same : SameNode lay deep a b k inner = node_same lay deep k inner (coincide lay deep inner) a b first deep_first in
    let inner_e = inside (Some k) inner 0 a b no_instances no_instances (agree_inside lay deep k inner a b first) deep_first (λ e. refl) in
    let agree_there = agree_type deep name (known lay a k inner) (known lay b k inner) a b (asks there.slots) (takes there.slots) (shown_same lay deep a b k inner same)
    (agree_second seen.asks (asks there.slots) seen.takes (takes there.slots) agree) in
    let there_e = behind around body (suc i) (with_type name (known lay a k inner) a) (with_type name (known lay b k inner) b) m n agree_there
    (λ e. all (or_right seen.is_assigned (is_assigned there.slots) e)) before in
    λ j. is_none (holder_fault around body i (define name k)) && (inner_e j && there_e j)

-- a body whose first item is an instance that is written there, of a component that is kept by itself
abbrev with_part : Laying → Around → Inside → Shell → Kind → Items → Items → Walked
with_part lay a m sh k inner rest =
    let there = walked lay a (with_instance sh.name (known lay a k inner).within m) rest in
    record { slots = written part_slot (node lay a k inner).core (node lay a k inner).slots there.slots; instances = there.instances }

abbrev part_clean : Laying → Around → Option Kind → Items → ℕ → Inside → Shell → Kind → Items → Items → Bool
part_clean lay a around body i m sh k inner rest =
    is_none (holder_fault around body i (anonymous sh k))
    && (are_clean lay a (Some k) inner 0 no_instances inner && are_clean lay a around body (suc i) (with_instance sh.name (known lay a k inner).within m) rest)

part_coincides : (lay : Laying) (deep : Bool) (sh : Shell) (k : Kind) (inner rest : Items) → Coincide lay deep inner → Coincide lay deep rest
    → (around : Option Kind) (body : Items) (i : ℕ) (a b : Around) (m n : Inside)
    → AgreeOn deep (asks (with_part lay a m sh k inner rest).slots) (takes (with_part lay a m sh k inner rest).slots) a b → IsDeepFor deep (with_part lay a m sh k inner rest).slots
    → (deep ≡ true → m ≡ n) → part_clean lay a around body i m sh k inner rest ≡ part_clean lay b around body i n sh k inner rest
part_coincides lay deep sh k inner rest inside behind around body i a b m n agree all before =
    let seen = (node lay a k inner).core.seen in
    let there = walked lay a (with_instance sh.name (known lay a k inner).within m) rest in
    let first = agree_first seen.asks (asks there.slots) seen.takes (takes there.slots) agree in
    let deep_first : seen.is_assigned ≡ true → deep ≡ true = λ e. all (or_left seen.is_assigned (is_assigned there.slots) e) in
    let same : SameNode lay deep a b k inner = node_same lay deep k inner (coincide lay deep inner) a b first deep_first in
    let inner_e = inside (Some k) inner 0 a b no_instances no_instances (agree_inside lay deep k inner a b first) deep_first (λ e. refl) in
    let there_e = behind around body (suc i) a b (with_instance sh.name (known lay a k inner).within m) (with_instance sh.name (known lay b k inner).within n)
    (agree_second seen.asks (asks there.slots) seen.takes (takes there.slots) agree)
    (λ e. all (or_right seen.is_assigned (is_assigned there.slots) e))
    (λ deep_e j. with_instance sh.name (known_same lay deep a b k inner same deep_e j).within (before deep_e j)) in
    λ j. is_none (holder_fault around body i (anonymous sh k)) && (inner_e j && there_e j)

-- a field holds no instances and no definitions, whatever stands around it
pub no_instance : (twice : Bool) (sh : Shell) (o : Option Kind) → is_none (instance_fault (Some Field) twice sh o) ≡ false
unfolding instance_fault
no_instance true sh None = refl
no_instance false sh None = refl
no_instance true sh (Some k) = refl
no_instance false sh (Some k) = refl

no_definition : (twice : Bool) (k : Kind) → is_none (define_fault (Some Field) twice k) ≡ false
unfolding define_fault
no_definition true k = refl
no_definition false k = refl

pub no_holder : (body : Items) (i : ℕ) (h : Holder) → is_none (holder_fault (Some Field) body i h) ≡ false
no_holder body i (define name k) = no_definition (is_some (last_definition name i body)) k
no_holder body i (anonymous sh k) = no_instance (is_some (instance_before sh.name i body)) sh (Some k)

both_false : (x y p q : Bool) → x ≡ false → y ≡ false → (x && p) ≡ (y && q)
both_false x y p q e f = ap (λ (z : Bool). z && p) e ∙ ap (λ (z : Bool). z && q) (sym f)

-- the items of a field have the same faults wherever it stands
field_same : (lay : Laying) (body : Items) (i : ℕ) (a b : Around) (t : Items) → are_clean lay a (Some Field) body i no_instances t ≡ are_clean lay b (Some Field) body i no_instances t
field_same lay body i a b no_items = refl
field_same lay body i a b (plain (named sh t) rest) =
    both_false (is_none (plain_fault a (Some Field) body i no_instances (named sh t))) (is_none (plain_fault b (Some Field) body i no_instances (named sh t)))
    (are_clean lay a (Some Field) body (suc i) (plain_instances a (named sh t) no_instances) rest)
    (are_clean lay b (Some Field) body (suc i) (plain_instances b (named sh t) no_instances) rest)
    (no_instance (is_some (instance_before sh.name i body)) sh (kind_of t a)) (no_instance (is_some (instance_before sh.name i body)) sh (kind_of t b))
field_same lay body i a b (plain (own p x) rest) =
    ap (λ (z : Bool). is_none (plain_fault a (Some Field) body i no_instances (own p x)) && z) (field_same lay body (suc i) a b rest)
field_same lay body i a b (plain (default p x) rest) =
    ap (λ (z : Bool). is_none (plain_fault a (Some Field) body i no_instances (default p x)) && z) (field_same lay body (suc i) (with_default p x a) (with_default p x b) rest)
field_same lay body i a b (plain (dynamic t p x) rest) =
    ap (λ (z : Bool). is_none (plain_fault a (Some Field) body i no_instances (dynamic t p x)) && z) (field_same lay body (suc i) a b rest)
field_same lay body i a b (holder h inner rest) =
    both_false (is_none (holder_fault (Some Field) body i h)) (is_none (holder_fault (Some Field) body i h))
    (are_clean lay a (Some (holder_kind h)) inner 0 no_instances inner && are_clean lay (after_holder h (known lay a (holder_kind h) inner) a) (Some Field) body (suc i) (holder_instances h (known lay a (holder_kind h) inner) no_instances) rest)
    (are_clean lay b (Some (holder_kind h)) inner 0 no_instances inner && are_clean lay (after_holder h (known lay b (holder_kind h) inner) b) (Some Field) body (suc i) (holder_instances h (known lay b (holder_kind h) inner) no_instances) rest)
    (no_holder body i h) (no_holder body i h)

field_coincides : (lay : Laying) (deep : Bool) (sh : Shell) (inner rest : Items) → Coincide lay deep rest → Coincide lay deep (holder (anonymous sh Field) inner rest)
field_coincides lay deep sh inner rest behind around body i a b m n agree all before =
    let there = walked lay a (with_instance sh.name nothing_within m) rest in
    let there_e = behind around body (suc i) a b (with_instance sh.name nothing_within m) (with_instance sh.name nothing_within n)
    (record { types = λ name has. agree.types name (has_second 0 (asks there.slots).bits (class_of name) has); defaults = same_whole (takes there.slots) a.defaults b.defaults agree.defaults })
    all (λ deep_e j. with_instance sh.name nothing_within (before deep_e j)) in
    λ j. is_none (holder_fault around body i (anonymous sh Field)) && (field_same lay inner 0 a b inner j && there_e j)

holder_coincides : (lay : Laying) (deep : Bool) (h : Holder) (inner rest : Items) → Coincide lay deep inner → Coincide lay deep rest → Coincide lay deep (holder h inner rest)
holder_coincides lay deep (define name k) inner rest inside behind = define_coincides lay deep name k inner rest inside behind
holder_coincides lay deep (anonymous sh Field) inner rest inside behind = field_coincides lay deep sh inner rest behind
holder_coincides lay deep (anonymous sh Addrmap) inner rest inside behind = part_coincides lay deep sh Addrmap inner rest inside behind
holder_coincides lay deep (anonymous sh Regfile) inner rest inside behind = part_coincides lay deep sh Regfile inner rest inside behind
holder_coincides lay deep (anonymous sh Reg) inner rest inside behind = part_coincides lay deep sh Reg inner rest inside behind

none_coincides : (lay : Laying) (deep : Bool) → Coincide lay deep no_items
none_coincides lay deep around body i a b m n agree all before = refl

pub faults_same : (lay : Laying) (deep : Bool) (t : Items) → Coincide lay deep t
faults_same lay deep no_items = none_coincides lay deep
faults_same lay deep (plain p rest) = plain_coincides lay deep p rest (faults_same lay deep rest)
faults_same lay deep (holder h inner rest) = holder_coincides lay deep h inner rest (faults_same lay deep inner) (faults_same lay deep rest)

pub faults_coincide : FaultsCoincide
faults_coincide lay a b k body agree =
    let deep = (node lay a k body).core.seen.is_assigned in
    sym (faults_same lay deep body (Some k) body 0 a b no_instances no_instances (agree_inside lay deep k body a b agree) (λ e. e) (λ e. refl))
