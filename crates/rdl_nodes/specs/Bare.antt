-- What layouts take of instances, and when those of a component are the same as before.
-- own: an instance's name, its reset and whether it is external tell nothing of where it lies.
use Rattle.std.specs.Prelude.{◌≡◌, true, Bool, List, [], None, map}
use Rattle.rdl_tree.specs.Items.{Items}
use Rattle.rdl_tree.specs.declared.shell.Kind.{Kind}
use Rattle.rdl_tree.specs.declared.shell.Outside.TheVariants.{Unsaid}
use Rattle.rdl_tree.specs.declared.shell.Shell.{Shell}
use Rattle.rdl_seen.specs.declared.values.Values.{Values}
use Rattle.rdl_seen.specs.Contents.{own_weight}
use Rattle.rdl_seen.specs.Fields.{members}
use Rattle.rdl_seen.specs.Layouts.{Member, Laying}
use Rattle.rdl_seen.specs.Node.{values_of, layouts_of, apart_of}
use Rattle.rdl_seen.specs.Slots.{Slots, Core}
use Rattle.rdl_seen.specs.Values.{own_values}

-- what an instance says of its place
abbrev pub said : Shell → Shell
said s = record s { name = []; reset = None; outside = Unsaid }

abbrev pub bare : Member → Member
bare m = record m { shell = said m.shell }

-- layouts go by that alone
abbrev pub GoesBySaid : Laying → Type 0
GoesBySaid lay = (k : Kind) (v : Values) (ms ns : List Member) → map bare ms ≡ map bare ns → lay k v ms ≡ lay k v ns

-- if instances are alike, these layouts are those of values that are as they were
abbrev pub AreStillLayouts : Laying → Bool → Core → Kind → Values → List Member → Type 0
AreStillLayouts lay alike before k v ms = alike ≡ true → v ≡ before.values → before.layouts ≡ lay k v ms

-- this was kept of how a component with this body is laid out, and it still is so
pub record IsLaidOut (lay : Laying) (before : Core) (k : Kind) (defaults : Values) (body : Items) (s : Slots) : Type 0 where
  pub layouts : before.layouts ≡ layouts_of lay k defaults body s
  pub apart : before.apart ≡ apart_of k (values_of k defaults body) (layouts_of lay k defaults body s) (members defaults body s)

-- if its instances are alike, so it is where its values are as they were
abbrev pub StaysLaidOut : Laying → Bool → Core → Kind → Values → Items → Slots → Type 0
StaysLaidOut lay alike before k defaults body s = alike ≡ true → values_of k defaults body ≡ before.values → IsLaidOut lay before k defaults body s

-- what was kept of what its own assignments state, and of what its items weigh, still holds, if that is said
abbrev pub StaysOwn : Bool → Core → Items → Type 0
StaysOwn same before body = same ≡ true → (before.own ≡ own_values body) × (before.own_weight ≡ own_weight body)
