-- The fault of an item, by all that its body sees, and looked up from its place.
-- SystemRDL 2.0, clause 5: names, scopes, definitions, instances, property assignments and defaults.
use Rattle.std.specs.Prelude.{ℕ, false, List, ◌∷◌, Option, Some, option_map}
use Rattle.std.specs.Option.{is_some}
use Rattle.rdl_tree.specs.Items.{Items, named, own, default, dynamic, define, anonymous}
use Rattle.rdl_tree.specs.Properties.{property_of}
use Rattle.rdl_tree.specs.declared.fault.FaultKind.{FaultKind}
use Rattle.rdl_tree.specs.declared.shell.Kind.{Kind}
use Rattle.rdl_tree.specs.declared.description.Item.{Item}
use Rattle.rdl_tree.specs.declared.description.Item.TheVariants.{Define, Instance, Own, Default, Dynamic}
use Rattle.rdl_tree.specs.declared.description.Of.{Of}
use Rattle.rdl_tree.specs.declared.description.Of.TheVariants.{Named, Anonymous}
use Rattle.rdl_scope.specs.ItemFaults.{define_fault, instance_fault, own_fault, default_fault, dynamic_fault, excluded_by, reached_before}
use Rattle.rdl_scope.specs.Target.{instance_before}
use Rattle.rdl_scope.specs.Types.{last_definition}
use Rattle.rdl_scope.specs.Value.{own_before, last_default}
use Rattle.rdl_seen.specs.Clean.{kind_in, kind_of, plain_fault, holder_fault}
use Rattle.rdl_seen.specs.Inside.{Inside}
use Rattle.rdl_seen.specs.Node.{Around}
use Rattle.rdl_places.specs.Scopes.{Place, Holding, find_type}
use Rattle.rdl_places.specs.Ends.{kind_at}

-- the fault of item n of the body of a component of this kind, or of the root, behind these instances of the body
abbrev pub item_fault : Around → Option Kind → (body : Items) → ℕ → Inside → Item → Option FaultKind
item_fault a around body n before (Define name c) = holder_fault around body n (define name c.kind)
item_fault a around body n before (Instance s (Named t)) = plain_fault a around body n before (named s t)
item_fault a around body n before (Instance s (Anonymous c)) = holder_fault around body n (anonymous s c.kind)
item_fault a around body n before (Own p v) = plain_fault a around body n before (own p v)
item_fault a around body n before (Default p v) = plain_fault a around body n before (default p v)
item_fault a around body n before (Dynamic t p v) = plain_fault a around body n before (dynamic t p v)

-- the kind of what an instance at a place is an instance of
abbrev pub kind_of_type : List ℕ → List Place → Option Kind
kind_of_type name ps = option_map (λ (h : Holding). h.kind) (find_type name ps)

abbrev pub kind_of_instance : Of → List Place → Option Kind
kind_of_instance (Named t) ps = kind_of_type t ps
kind_of_instance (Anonymous c) ps = Some c.kind

-- the same fault, looked up from the item's place
abbrev pub fault_at : Option Kind → Place → List Place → Item → Option FaultKind
fault_at around p ps (Define name c) = define_fault around (is_some (last_definition name p.number p.body)) c.kind
fault_at around p ps (Instance s of) = instance_fault around (is_some (instance_before s.name p.number p.body)) s (kind_of_instance of (p ∷ ps))
fault_at around p ps (Own q v) = own_fault around (is_some (own_before q p.number p.body)) (excluded_by p.number p.body (property_of q)) (property_of q) v
fault_at around p ps (Default q v) = default_fault (is_some (last_default q p.number p.body)) (property_of q) v
fault_at around p ps (Dynamic t q v) = dynamic_fault (reached_before t q p.number p.body) (property_of q) v (kind_at t (p ∷ ps))

-- ---- Where nothing before the item in its body makes a fault of it.

abbrev pub lone_fault : Around → Option Kind → Inside → Item → Option FaultKind
lone_fault a around before (Define name c) = define_fault around false c.kind
lone_fault a around before (Instance s (Named t)) = instance_fault around false s (kind_of t a)
lone_fault a around before (Instance s (Anonymous c)) = instance_fault around false s (Some c.kind)
lone_fault a around before (Own q v) = own_fault around false false (property_of q) v
lone_fault a around before (Default q v) = default_fault false (property_of q) v
lone_fault a around before (Dynamic t q v) = dynamic_fault false (property_of q) v (kind_in t before)

-- the same fault, looked up from the item's place
abbrev pub lone_fault_at : Option Kind → List Place → Item → Option FaultKind
lone_fault_at around ps (Define name c) = define_fault around false c.kind
lone_fault_at around ps (Instance s of) = instance_fault around false s (kind_of_instance of ps)
lone_fault_at around ps (Own q v) = own_fault around false false (property_of q) v
lone_fault_at around ps (Default q v) = default_fault false (property_of q) v
lone_fault_at around ps (Dynamic t q v) = dynamic_fault false (property_of q) v (kind_at t ps)
