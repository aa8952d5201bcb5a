-- What an alert tells of the components that stand behind it.
-- own: SystemRDL 2.0 has no edits.
use Rattle.std.specs.Prelude.{◌≡◌, ℕ, ◌^◌, Bool, true, false, List}
use Rattle.rdl_tree.specs.Items.{Items, Plain}
use Rattle.rdl_tree.specs.declared.shell.Kind.{Kind}
use Rattle.rdl_tree.specs.declared.value.Value.{Value}
use Rattle.rdl_seen.specs.declared.alert.Alert.{Alert}
use Rattle.rdl_seen.specs.Agree.{shown}
use Rattle.rdl_seen.specs.Alert.{no_alert, with_alert, reaches, reaches_as, is_told, AgreeBut}
use Rattle.rdl_seen.specs.Clean.{is_clean}
use Rattle.rdl_seen.specs.Layouts.{Laying}
use Rattle.rdl_seen.specs.Names.{meet, class_of, has_class}
use Rattle.rdl_seen.specs.Node.{Known, Around, with_type, with_default, after_plain, node, known}
use Rattle.rdl_seen.specs.PropertySet.{set_named}

-- a component that listens to nothing of it is kept as it was, and its items have a fault where they had one
abbrev pub UnreachedAreKept : Type 0
UnreachedAreKept =
    (lay : Laying) (x : Alert) (a b : Around) (k : Kind) (body : Items) → AgreeBut x a b → reaches x (node lay a k body).core.seen ≡ false
    → (node lay b k body ≡ node lay a k body) × (is_clean lay b k body ≡ is_clean lay a k body)

-- and targets find the same inside it, if nothing is told of what is inside the types that it asks for
abbrev pub UnreachedAreKnown : Type 0
UnreachedAreKnown =
    (lay : Laying) (x : Alert) (a b : Around) (k : Kind) (body : Items) → AgreeBut x a b → reaches_as true x (node lay a k body).core.seen ≡ false
    → known lay b k body ≡ known lay a k body

-- what is the same differs in nothing, and what differs in less differs in no more
abbrev pub NothingDiffers : Type 0
NothingDiffers = (a : Around) → AgreeBut no_alert a a

abbrev pub MoreMayDiffer : Type 0
MoreMayDiffer = (x y : Alert) (a b : Around) → AgreeBut x a b → AgreeBut (with_alert x y) a b × AgreeBut (with_alert y x) a b

-- behind the same item no more differs
abbrev pub StaysBehind : Type 0
StaysBehind = (x : Alert) (a b : Around) (p : Plain) → AgreeBut x a b → AgreeBut x (after_plain p a) (after_plain p b)

-- nor behind a definition of which as much is seen as is told of
abbrev pub StaysBehindType : Type 0
StaysBehindType =
    (x : Alert) (a b : Around) (name : List ℕ) (k l : Known) → ((deep : Bool) → is_told deep x (class_of name) ≡ false → shown deep k ≡ shown deep l)
    → AgreeBut x a b → AgreeBut x (with_type name k a) (with_type name l b)

-- nor where one that is told of came or went
abbrev pub TypesComeAndGo : Type 0
TypesComeAndGo =
    (x : Alert) (a b : Around) (name : List ℕ) (k : Known) → has_class x.types (class_of name) ≡ true → AgreeBut x a b
    → AgreeBut x a (with_type name k b) × AgreeBut x (with_type name k a) b

-- nor where a default of a property that is told of did
abbrev pub DefaultsComeAndGo : Type 0
DefaultsComeAndGo =
    (x : Alert) (a b : Around) (p : List ℕ) (v : Value) → ((k : ℕ) → meet (set_named p).bits (2 ^ k) ≡ true → meet x.properties.bits (2 ^ k) ≡ true) → AgreeBut x a b
    → AgreeBut x a (with_default p v b) × AgreeBut x (with_default p v a) b
