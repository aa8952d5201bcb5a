-- The items of a component that have a fault, by what its body sees around it.
-- SystemRDL 2.0, clause 5: names, scopes, definitions, instances, property assignments and defaults. `ItemFaults` of `rdl_scope` says the
-- same by the addresses of a whole description; here an item has no address, so that it can be said of a body wherever it stands.
use Rattle.std.specs.Prelude.{ℕ, suc, ◌&&◌, Bool, true, List, [], ◌∷◌, Option, Some, None, option_map, option_and_then}
use Rattle.std.specs.Option.{is_some, is_none}
use Rattle.rdl_tree.specs.Items.{Items, no_items, plain, holder, Plain, named, own, default, dynamic, Holder, define, anonymous}
use Rattle.rdl_tree.specs.Component.{holder_kind}
use Rattle.rdl_tree.specs.Properties.{property_of}
use Rattle.rdl_tree.specs.declared.fault.FaultKind.{FaultKind}
use Rattle.rdl_tree.specs.declared.shell.Kind.{Kind}
use Rattle.rdl_scope.specs.Closed.{lookup}
use Rattle.rdl_scope.specs.ItemFaults.{define_fault, instance_fault, own_fault, default_fault, dynamic_fault, excluded_by, reached_before}
use Rattle.rdl_scope.specs.Target.{instance_before}
use Rattle.rdl_scope.specs.Types.{last_definition}
use Rattle.rdl_scope.specs.Value.{own_before, last_default}
use Rattle.rdl_seen.specs.Inside.{Inside, no_instances, Found, find}
use Rattle.rdl_seen.specs.Layouts.{Laying}
use Rattle.rdl_seen.specs.Node.{Known, Around, after_plain, after_holder, plain_instances, holder_instances, known}

-- the kind of a type, if there is one of this name
abbrev pub kind_of : List ℕ → Around → Option Kind
kind_of name a = option_map (λ (k : Known). k.seen.kind) (lookup name a.types)

-- the kind of the component at which a target ends, the first of whose instances is among these
abbrev pub kind_in : List (List ℕ) → Inside → Option Kind
kind_in [] before = None
kind_in (name ∷ []) before = option_map (λ (f : Found). f.within.kind) (find name before)
kind_in (name ∷ next ∷ names) before = option_and_then (λ (f : Found). kind_in (next ∷ names) f.within.inside) (find name before)

-- the fault of item n of the body of a component of this kind, or of the root, behind these instances of the body
abbrev pub plain_fault : Around → Option Kind → (body : Items) → ℕ → Inside → Plain → Option FaultKind
plain_fault a around body n before (named s t) = instance_fault around (is_some (instance_before s.name n body)) s (kind_of t a)
plain_fault a around body n before (own p v) = own_fault around (is_some (own_before p n body)) (excluded_by n body (property_of p)) (property_of p) v
plain_fault a around body n before (default p v) = default_fault (is_some (last_default p n body)) (property_of p) v
plain_fault a around body n before (dynamic t p v) = dynamic_fault (reached_before t p n body) (property_of p) v (kind_in t before)

abbrev pub holder_fault : Option Kind → (body : Items) → ℕ → Holder → Option FaultKind
holder_fault around body n (define name k) = define_fault around (is_some (last_definition name n body)) k
holder_fault around body n (anonymous s k) = instance_fault around (is_some (instance_before s.name n body)) s (Some k)

-- none of the items from number n on has a fault, nor any inside them
abbrev pub are_clean : Laying → Around → Option Kind → (body : Items) → ℕ → Inside → Items → Bool
are_clean lay a around body n before no_items = true
are_clean lay a around body n before (plain p rest) =
    is_none (plain_fault a around body n before p)
    && are_clean lay (after_plain p a) around body (suc n) (plain_instances a p before) rest
are_clean lay a around body n before (holder h inner rest) =
    let known = known lay a (holder_kind h) inner in
    is_none (holder_fault around body n h)
    && (are_clean lay a (Some (holder_kind h)) inner 0 no_instances inner
    && are_clean lay (after_holder h known a) around body (suc n) (holder_instances h known before) rest)

-- none of a component's items, and none inside them
abbrev pub is_clean : Laying → Around → Kind → Items → Bool
is_clean lay a k body = are_clean lay a (Some k) body 0 no_instances body
