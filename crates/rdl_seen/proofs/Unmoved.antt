-- A component that listens to nothing that differs is kept as the same.
use Rattle.std.proofs.Common.{◌≡◌, ℕ, Bool, true, false, List, Option, Some, None, option_map, bytes_eq, if◌then◌else◌, refl, sym, ap, ◌∙◌}
use Rattle.std.proofs.lemmas.Bool.{both_ways}
use Rattle.std.proofs.lemmas.Slice.Eq.{bytes_eq-Decides}
use Rattle.rdl_tree.specs.Items.{Items}
use Rattle.rdl_tree.specs.Properties.{property_of}
use Rattle.rdl_tree.specs.declared.shell.Kind.{Kind}
use Rattle.rdl_tree.specs.declared.value.Value.{Value}
use Rattle.rdl_tree.specs.declared.property.Property.{Property}
use Rattle.rdl_tree.specs.declared.property.Property.TheVariants.{Addressing, Alignment, Regwidth, Accesswidth, Fieldwidth, Sw, Reset}
use Rattle.rdl_scope.specs.Closed.{lookup}
use Rattle.rdl_seen.specs.declared.names.NameSet.{NameSet}
use Rattle.rdl_seen.specs.declared.property_set.PropertySet.{PropertySet}
use Rattle.rdl_seen.specs.declared.values.Values.{Values}
use Rattle.rdl_seen.specs.Agree.{SameValues, shown, AgreeOn}
use Rattle.rdl_seen.specs.Laws.{Coincides, CoincidesWithin, CutsOff, IgnoresOtherTypes, IgnoresOtherDefaults}
use Rattle.rdl_seen.specs.Layouts.{Laying}
use Rattle.rdl_seen.specs.Names.{meet, class_of, has_class}
use Rattle.rdl_seen.specs.Node.{Known, Around, with_type, with_default, node}
use Rattle.rdl_seen.specs.PropertySet.{set_of, set_of_found, do_properties_meet}
use Rattle.rdl_seen.specs.Values.{put, put_found}
use Rattle.rdl_seen.proofs.Around.{agree_type, same_shown}
use Rattle.rdl_seen.proofs.Walked.{coincide, SameNode, node_same, known_same}

-- the same values on both sides
pub same_values : (s : PropertySet) (v : Values) → SameValues s v v
same_values s v = record { addressing = λ has. refl; alignment = λ has. refl; regwidth = λ has. refl; accesswidth = λ has. refl; fieldwidth = λ has. refl; sw = λ has. refl; reset = λ has. refl }

node_by : (lay : Laying) (deep : Bool) (a b : Around) (k : Kind) (body : Items) → AgreeOn deep (node lay a k body).core.seen.asks (node lay a k body).core.seen.takes a b
    → ((node lay a k body).core.seen.is_assigned ≡ true → deep ≡ true) → SameNode lay deep a b k body
node_by lay deep a b k body agree all = node_same lay deep k body (coincide lay deep body) a b agree all

node_path : (lay : Laying) (deep : Bool) (a b : Around) (k : Kind) (body : Items) → SameNode lay deep a b k body → node lay b k body ≡ node lay a k body
node_path lay deep a b k body same = sym (λ i. record { core = same.core i; slots = same.slots i })

pub coincides : Coincides
coincides lay a b k body agree =
    let deep = (node lay a k body).core.seen.is_assigned in
    node_path lay deep a b k body (node_by lay deep a b k body agree (λ e. e))

pub coincides_within : CoincidesWithin
coincides_within lay a b k body agree = sym (known_same lay true a b k body (node_by lay true a b k body agree (λ e. refl)) refl)

pub cuts_off : CutsOff
cuts_off lay a name x y k body e calm =
    let before = with_type name x a in
    let seen = (node lay before k body).core.seen in
    let own : AgreeOn false seen.asks seen.takes a a = record { types = λ asked has. refl; defaults = same_values seen.takes a.defaults } in
    let agree = agree_type false name x y a a seen.asks seen.takes (same_shown false x y e (λ all. absurd (both_ways false refl all))) own in
    node_path lay false before (with_type name y a) k body (node_by lay false before (with_type name y a) k body agree (λ assigned. sym calm ∙ assigned))

-- a name that isn't asked for leads to the same, whatever one of another class does
unasked : (deep here : Bool) (x : Known) (o : Option Known) → (here ≡ true → ⊥) → option_map (shown deep) o ≡ option_map (shown deep) (if here then Some x else o)
unasked deep true x o never = absurd (never refl)
unasked deep false x o never = refl

other_name : (s : NameSet) (name asked : List ℕ) → has_class s (class_of name) ≡ false → has_class s (class_of asked) ≡ true → bytes_eq name asked ≡ true → ⊥
other_name s name asked lacks has e =
    both_ways (has_class s (class_of name)) lacks (ap (λ (n : List ℕ). has_class s (class_of n)) (((bytes_eq-Decides name asked).0) e) ∙ has)

pub ignores_other_types : IgnoresOtherTypes
ignores_other_types lay a name x k body lacks =
    let seen = (node lay a k body).core.seen in
    let deep = seen.is_assigned in
    let agree : AgreeOn deep seen.asks seen.takes a (with_type name x a) = record {
      types = λ asked has. unasked deep (bytes_eq name asked) x (lookup asked a.types) (other_name seen.asks name asked lacks has);
      defaults = same_values seen.takes a.defaults;
    } in
    coincides lay a (with_type name x a) k body agree

never : {A : Type 0} (t : Bool) → t ≡ false → t ≡ true → A
never t lacks has = absurd (both_ways t lacks has)

-- a value of a property that isn't taken
untaken : (q : Property) (x : Value) (s : PropertySet) (v : Values) → do_properties_meet s (set_of q) ≡ false → SameValues s v (put q x v)
untaken Addressing x s v lacks = record { addressing = never (meet s.bits 1) lacks; alignment = λ has. refl; regwidth = λ has. refl; accesswidth = λ has. refl; fieldwidth = λ has. refl; sw = λ has. refl; reset = λ has. refl }
untaken Alignment x s v lacks = record { addressing = λ has. refl; alignment = never (meet s.bits 2) lacks; regwidth = λ has. refl; accesswidth = λ has. refl; fieldwidth = λ has. refl; sw = λ has. refl; reset = λ has. refl }
untaken Regwidth x s v lacks = record { addressing = λ has. refl; alignment = λ has. refl; regwidth = never (meet s.bits 4) lacks; accesswidth = λ has. refl; fieldwidth = λ has. refl; sw = λ has. refl; reset = λ has. refl }
untaken Accesswidth x s v lacks = record { addressing = λ has. refl; alignment = λ has. refl; regwidth = λ has. refl; accesswidth = never (meet s.bits 8) lacks; fieldwidth = λ has. refl; sw = λ has. refl; reset = λ has. refl }
untaken Fieldwidth x s v lacks = record { addressing = λ has. refl; alignment = λ has. refl; regwidth = λ has. refl; accesswidth = λ has. refl; fieldwidth = never (meet s.bits 16) lacks; sw = λ has. refl; reset = λ has. refl }
untaken Sw x s v lacks = record { addressing = λ has. refl; alignment = λ has. refl; regwidth = λ has. refl; accesswidth = λ has. refl; fieldwidth = λ has. refl; sw = never (meet s.bits 32) lacks; reset = λ has. refl }
untaken Reset x s v lacks = record { addressing = λ has. refl; alignment = λ has. refl; regwidth = λ has. refl; accesswidth = λ has. refl; fieldwidth = λ has. refl; sw = λ has. refl; reset = never (meet s.bits 64) lacks }
untaken q x s v lacks = same_values s v

pub untaken_found : (q : Option Property) (x : Value) (s : PropertySet) (v : Values) → do_properties_meet s (set_of_found q) ≡ false → SameValues s v (put_found q x v)
untaken_found None x s v lacks = same_values s v
untaken_found (Some q) x s v lacks = untaken q x s v lacks

pub ignores_other_defaults : IgnoresOtherDefaults
ignores_other_defaults lay a p x k body lacks =
    let seen = (node lay a k body).core.seen in
    let agree : AgreeOn seen.is_assigned seen.asks seen.takes a (with_default p x a) = record {
      types = λ asked has. refl;
      defaults = untaken_found (property_of p) x seen.takes a.defaults lacks;
    } in
    coincides lay a (with_default p x a) k body agree
