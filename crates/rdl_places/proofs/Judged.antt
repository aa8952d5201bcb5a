-- The fault of an item that is looked up from its place is the one that it has by all that its body sees.
use Rattle.std.proofs.Common.{◌≡◌, ℕ, false, List, ◌∷◌, Option, Some, None, option_map, refl, ap, ◌∙◌}
use Rattle.std.specs.Option.{is_some}
use Rattle.rdl_tree.specs.Properties.{property_of}
use Rattle.rdl_tree.specs.declared.shell.Kind.{Kind}
use Rattle.rdl_tree.specs.declared.description.Item.{Item}
use Rattle.rdl_tree.specs.declared.description.Item.TheVariants.{Define, Instance, Own, Default, Dynamic}
use Rattle.rdl_tree.specs.declared.description.Of.TheVariants.{Named, Anonymous}
use Rattle.rdl_scope.specs.ItemFaults.{instance_fault, dynamic_fault, reached_before}
use Rattle.rdl_scope.specs.Target.{instance_before}
use Rattle.rdl_seen.specs.Clean.{kind_of}
use Rattle.rdl_seen.specs.Layouts.{Laying}
use Rattle.rdl_seen.specs.Node.{Known}
use Rattle.rdl_places.specs.Scopes.{Place, around_places, IsScope, Holding, known_at, find_type}
use Rattle.rdl_places.specs.Reached.{instances_at}
use Rattle.rdl_places.specs.Judged.{item_fault, kind_of_type, fault_at, lone_fault, lone_fault_at}
use Rattle.rdl_places.proofs.Scopes.{type_known}
use Rattle.rdl_places.proofs.Ends.{kind_is}

kind_of_known : (lay : Laying) (o : Option Holding) → option_map (λ (h : Holding). h.kind) o ≡ option_map (λ (k : Known). k.seen.kind) (option_map (known_at lay) o)
kind_of_known lay None = refl
kind_of_known lay (Some h) = refl

pub type_kind : (lay : Laying) (name : List ℕ) (ps : List Place) → IsScope lay ps → kind_of_type name ps ≡ kind_of name (around_places lay ps)
type_kind lay name ps is =
    kind_of_known lay (find_type name ps) ∙ ap (option_map (λ (k : Known). k.seen.kind)) (type_known lay name ps is)

pub fault_is : (lay : Laying) (around : Option Kind) (p : Place) (ps : List Place) (x : Item) → IsScope lay (p ∷ ps)
    → fault_at around p ps x ≡ item_fault (around_places lay (p ∷ ps)) around p.body p.number (instances_at lay (p ∷ ps)) x
fault_is lay around p ps (Define name c) is = refl
fault_is lay around p ps (Instance s (Named t)) is = ap (instance_fault around (is_some (instance_before s.name p.number p.body)) s) (type_kind lay t (p ∷ ps) is)
fault_is lay around p ps (Instance s (Anonymous c)) is = refl
fault_is lay around p ps (Own q v) is = refl
fault_is lay around p ps (Default q v) is = refl
fault_is lay around p ps (Dynamic t q v) is = ap (dynamic_fault (reached_before t q p.number p.body) (property_of q) v) (kind_is lay t (p ∷ ps) is)

pub lone_fault_is : (lay : Laying) (around : Option Kind) (ps : List Place) (x : Item) → IsScope lay ps
    → lone_fault_at around ps x ≡ lone_fault (around_places lay ps) around (instances_at lay ps) x
lone_fault_is lay around ps (Define name c) is = refl
lone_fault_is lay around ps (Instance s (Named t)) is = ap (instance_fault around false s) (type_kind lay t ps is)
lone_fault_is lay around ps (Instance s (Anonymous c)) is = refl
lone_fault_is lay around ps (Own q v) is = refl
lone_fault_is lay around ps (Default q v) is = refl
lone_fault_is lay around ps (Dynamic t q v) is = ap (dynamic_fault false (property_of q) v) (kind_is lay t ps is)
