-- What may differ before an item from what stood before it, and who listens to it.
-- own: SystemRDL 2.0 has no edits.
use Rattle.std.specs.Prelude.{◌≡◌, ℕ, ◌&&◌, ◌||◌, Bool, false, List}
use Rattle.rdl_tree.specs.declared.property.Property.{Property}
use Rattle.rdl_seen.specs.declared.alert.Alert.{Alert}
use Rattle.rdl_seen.specs.declared.names.NameSet.{NameSet}
use Rattle.rdl_seen.specs.declared.property_set.PropertySet.{PropertySet}
use Rattle.rdl_seen.specs.declared.seen.Seen.{Seen}
use Rattle.rdl_seen.specs.Agree.{SameValues, shown_of}
use Rattle.rdl_seen.specs.Names.{class_of, no_names, with_names, is_no_name, do_names_meet, has_class}
use Rattle.rdl_seen.specs.Node.{Around}
use Rattle.rdl_seen.specs.PropertySet.{no_properties, set_of, is_no_property, with_properties, do_properties_meet, has_property}

abbrev pub no_alert : Alert
no_alert = record { properties = no_properties; types = no_names; inside = no_names }

-- what differs by either
abbrev pub with_alert : Alert → Alert → Alert
with_alert x y = record { properties = with_properties x.properties y.properties; types = with_names x.types y.types; inside = with_names x.inside y.inside }

-- of these properties too; of definitions of these classes; inside them alone
abbrev pub with_properties_of : PropertySet → Alert → Alert
with_properties_of s x = record x { properties = with_properties x.properties s }

abbrev pub with_types : NameSet → Alert → Alert
with_types s x = record x { types = with_names x.types s; inside = with_names x.inside s }

abbrev pub with_inside : NameSet → Alert → Alert
with_inside s x = record x { inside = with_names x.inside s }

abbrev pub is_silent : Alert → Bool
is_silent x = is_no_property x.properties && is_no_name x.types && is_no_name x.inside

-- a component of which this is seen listens to some of it, if what is inside the types that it asks for matters to it, or else not
abbrev pub reaches_as : (deep : Bool) → Alert → Seen → Bool
reaches_as deep x s = do_properties_meet s.takes x.properties || do_names_meet s.asks x.types || deep && do_names_meet s.asks x.inside

abbrev pub reaches : Alert → Seen → Bool
reaches x s = reaches_as s.is_assigned x s

-- something else may be seen of a definition of this class, or found inside it
abbrev pub is_told : (deep : Bool) → Alert → (class : ℕ) → Bool
is_told deep x class = has_class x.types class || deep && has_class x.inside class

-- two bodies see the same but for this
pub record AgreeBut (x : Alert) (a b : Around) : Type 0 where
  pub types : (deep : Bool) (name : List ℕ) → is_told deep x (class_of name) ≡ false → shown_of deep name a ≡ shown_of deep name b
  pub defaults : (p : Property) → has_property x.properties p ≡ false → SameValues (set_of p) a.defaults b.defaults
