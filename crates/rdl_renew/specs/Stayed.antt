-- What a definition that stayed in order under its name raises behind it.
-- own: SystemRDL 2.0 has no edits.
use Rattle.std.specs.Prelude.{◌≡◌, ℕ, Bool, true, List, if◌then◌else◌}
use Rattle.rdl_tree.specs.declared.description.Component.{Component}
use Rattle.rdl_seen.specs.declared.alert.Alert.{Alert}
use Rattle.rdl_seen.specs.Alert.{no_alert, with_inside, with_types}
use Rattle.rdl_seen.specs.Layouts.{Laying}
use Rattle.rdl_seen.specs.Names.{class_of, names_of}
use Rattle.rdl_seen.specs.Node.{Around, known}
use Rattle.rdl_seen.specs.Passing.{AreSeenBut}
use Rattle.rdl_renew.specs.Raised.{HasAll}

-- of this class of names: all, if something else is seen of it; else what is inside it, if targets may find something else there
abbrev pub definition_raises : (class : ℕ) → (is_seen_same is_inside_same : Bool) → Alert
definition_raises class is_seen_same is_inside_same =
    if is_seen_same then (if is_inside_same then no_alert else with_inside (names_of class) no_alert) else with_types (names_of class) no_alert

-- who has that tells of what is seen otherwise of the definition, if the same is seen of it where that is said, and the same is known of it
-- where that is said, too
abbrev pub StayedDefinitionsRaise : Type 0
StayedDefinitionsRaise =
    (lay : Laying) (x : Alert) (a b : Around) (name : List ℕ) (c d : Component) (is_seen_same is_inside_same : Bool)
    → HasAll x (definition_raises (class_of name) is_seen_same is_inside_same)
    → (is_seen_same ≡ true → (known lay a c.kind c.body).seen ≡ (known lay b d.kind d.body).seen)
    → (is_seen_same ≡ true → is_inside_same ≡ true → known lay a c.kind c.body ≡ known lay b d.kind d.body)
    → AreSeenBut lay x a b name c d
