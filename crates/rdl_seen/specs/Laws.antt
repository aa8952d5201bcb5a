-- Who listens to nothing that differs, stays the same.
-- own: SystemRDL 2.0 has no edits.
use Rattle.std.specs.Prelude.{◌≡◌, ℕ, true, false, List}
use Rattle.rdl_tree.specs.Items.{Items}
use Rattle.rdl_tree.specs.declared.shell.Kind.{Kind}
use Rattle.rdl_tree.specs.declared.value.Value.{Value}
use Rattle.rdl_seen.specs.Agree.{AgreeOn, Agree}
use Rattle.rdl_seen.specs.Clean.{is_clean}
use Rattle.rdl_seen.specs.Layouts.{Laying}
use Rattle.rdl_seen.specs.Names.{class_of, has_class}
use Rattle.rdl_seen.specs.Node.{Known, Around, with_type, with_default, node, known}
use Rattle.rdl_seen.specs.PropertySet.{set_named, do_properties_meet}

-- a component is kept as the same where what stands around it agrees as far as it listens
abbrev pub Coincides : Type 0
Coincides =
    (lay : Laying) (a b : Around) (k : Kind) (body : Items) → Agree (node lay a k body).core.seen a b
    → node lay b k body ≡ node lay a k body

-- the same is known of it inside, too, where that agrees which is known inside of the types that it asks for
abbrev pub CoincidesWithin : Type 0
CoincidesWithin =
    (lay : Laying) (a b : Around) (k : Kind) (body : Items)
    → AgreeOn true (node lay a k body).core.seen.asks (node lay a k body).core.seen.takes a b
    → known lay b k body ≡ known lay a k body

-- another type of a name of which the same is seen changes nothing for who assigns nothing
abbrev pub CutsOff : Type 0
CutsOff =
    (lay : Laying) (a : Around) (name : List ℕ) (x y : Known) (k : Kind) (body : Items) → x.seen ≡ y.seen
    → (node lay (with_type name x a) k body).core.seen.is_assigned ≡ false
    → node lay (with_type name y a) k body ≡ node lay (with_type name x a) k body

-- nor does one of a name that isn't asked for
abbrev pub IgnoresOtherTypes : Type 0
IgnoresOtherTypes =
    (lay : Laying) (a : Around) (name : List ℕ) (x : Known) (k : Kind) (body : Items)
    → has_class (node lay a k body).core.seen.asks (class_of name) ≡ false
    → node lay (with_type name x a) k body ≡ node lay a k body

-- nor does a default of a property that isn't taken
abbrev pub IgnoresOtherDefaults : Type 0
IgnoresOtherDefaults =
    (lay : Laying) (a : Around) (p : List ℕ) (x : Value) (k : Kind) (body : Items)
    → do_properties_meet (node lay a k body).core.seen.takes (set_named p) ≡ false
    → node lay (with_default p x a) k body ≡ node lay a k body

-- its items have a fault, or have none, wherever what stands around it agrees as far as it listens
abbrev pub FaultsCoincide : Type 0
FaultsCoincide =
    (lay : Laying) (a b : Around) (k : Kind) (body : Items) → Agree (node lay a k body).core.seen a b → is_clean lay b k body ≡ is_clean lay a k body
