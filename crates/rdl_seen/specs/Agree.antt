-- Where two bodies see the same, as far as they listen.
-- own: SystemRDL 2.0 has no edits.
use Rattle.std.specs.Prelude.{◌≡◌, ℕ, Bool, true, false, List, Option, option_map}
use Rattle.rdl_tree.specs.declared.property.Property.TheVariants.{Addressing, Alignment, Regwidth, Accesswidth, Fieldwidth, Sw, Reset}
use Rattle.rdl_scope.specs.Closed.{lookup}
use Rattle.rdl_seen.specs.declared.names.NameSet.{NameSet}
use Rattle.rdl_seen.specs.declared.property_set.PropertySet.{PropertySet}
use Rattle.rdl_seen.specs.declared.seen.Seen.{Seen}
use Rattle.rdl_seen.specs.declared.values.Values.{Values}
use Rattle.rdl_seen.specs.Inside.{nothing_within}
use Rattle.rdl_seen.specs.Names.{class_of, has_class}
use Rattle.rdl_seen.specs.Node.{Known, Around}
use Rattle.rdl_seen.specs.PropertySet.{has_property}

-- the same is stated of each of these properties
pub record SameValues (takes : PropertySet) (v w : Values) : Type 0 where
  pub addressing : has_property takes Addressing ≡ true → v.addressing ≡ w.addressing
  pub alignment : has_property takes Alignment ≡ true → v.alignment ≡ w.alignment
  pub regwidth : has_property takes Regwidth ≡ true → v.regwidth ≡ w.regwidth
  pub accesswidth : has_property takes Accesswidth ≡ true → v.accesswidth ≡ w.accesswidth
  pub fieldwidth : has_property takes Fieldwidth ≡ true → v.fieldwidth ≡ w.fieldwidth
  pub sw : has_property takes Sw ≡ true → v.sw ≡ w.sw
  pub reset : has_property takes Reset ≡ true → v.reset ≡ w.reset

-- what is asked of a type: all that is known of it where something may be assigned inside it, else what is seen of it
abbrev pub shown : Bool → Known → Known
shown true k = k
shown false k = record { seen = k.seen; within = nothing_within }

-- the same of the type of a name, if there is one
abbrev pub shown_of : Bool → List ℕ → Around → Option Known
shown_of deep name a = option_map (shown deep) (lookup name a.types)

-- each name of these classes leads to the same of a type, and the same is stated of each of these properties
pub record AgreeOn (deep : Bool) (asks : NameSet) (takes : PropertySet) (a b : Around) : Type 0 where
  pub types : (name : List ℕ) → has_class asks (class_of name) ≡ true → shown_of deep name a ≡ shown_of deep name b
  pub defaults : SameValues takes a.defaults b.defaults

-- they agree as far as a component listens of which this is seen
abbrev pub Agree : Seen → Around → Around → Type 0
Agree s a b = AgreeOn s.is_assigned s.asks s.takes a b
