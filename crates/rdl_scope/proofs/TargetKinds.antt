-- The kind of the component to which a target leads, by its first name.
use Rattle.std.proofs.Common.{◌≡◌, ℕ, suc, ◌+◌, ◌<◌, Bool, true, false, cond, List, [], ◌∷◌, ◌++◌, length, Some, None, Option, refl, ap, sym, ◌∙◌, arith, option_map}
use Rattle.std.specs.Prelude.{option_and_then, slice_get, bytes_eq}
use Rattle.std.specs.Option.{option_or, is_some}
use Rattle.std.proofs.lemmas.Slice.Eq.{bytes_eq-Decides}
use Rattle.rdl_tree.specs.ItemAt.{item_at}
use Rattle.rdl_tree.specs.Items.{Items}
use Rattle.rdl_tree.specs.View.{list_of}
use Rattle.rdl_tree.specs.Address.{body_at}
use Rattle.rdl_tree.specs.Component.{own_component}
use Rattle.rdl_tree.specs.declared.shell.Kind.{Kind}
use Rattle.rdl_tree.specs.declared.shell.Shell.{Shell}
use Rattle.rdl_tree.specs.declared.fault.Fault.{Fault}
use Rattle.rdl_tree.specs.declared.fault.FaultKind.{FaultKind}
use Rattle.rdl_tree.specs.declared.description.Component.{Component}
use Rattle.rdl_tree.specs.declared.description.Of.{Of}
use Rattle.rdl_tree.specs.declared.description.Of.TheVariants.{Named, Anonymous}
use Rattle.rdl_tree.specs.declared.description.Item.{Item}
use Rattle.rdl_tree.specs.declared.description.Item.TheVariants.{Instance}
use Rattle.rdl_scope.specs.Types.{held_by, component_of, items_in}
use Rattle.rdl_scope.specs.Target.{passes, instance_in, instance_before}
use Rattle.rdl_scope.specs.ItemFaults.{kind_at, instance_kind, target_kind, last_of, instance_fault, fault_at}
use Rattle.rdl_scope.specs.Walk.{is_instance}
use Rattle.rdl_scope.specs.Scopes.{kind_below, kind_of_instance, instance_component}
use Rattle.rdl_scope.proofs.Depths.{depth-body_at}
use Rattle.rdl_scope.proofs.Instances.{instance-suc}
use Rattle.rdl_scope.proofs.InstanceKinds.{component-anonymous}
use Rattle.rdl_scope.proofs.Levelled.{item-deeper}

-- a target that is found passes an instance
passes-some : (d : Items) (c : List ℕ) (n : ℕ) (name : List ℕ) (names : List (List ℕ)) → passes d c n (name ∷ names) ≡ Some [] → ⊥
passes-some d c n name [] e = into (instance_in d c n name) e
  where
    into : (o : Option (List ℕ)) → option_map (λ a. a ∷ []) o ≡ Some [] → ⊥
    into None h = cc
    into (Some a) h = cc
passes-some d c n name (next ∷ names) e = into (instance_in d c n name) e
  where
    more : (a : List ℕ) (o : Option (List (List ℕ))) → option_map (λ more. a ∷ more) o ≡ Some [] → ⊥
    more a None h = cc
    more a (Some x) h = cc

    into : (o : Option (List ℕ)) → option_and_then (λ a. option_map (λ more. a ∷ more) (option_and_then (λ c. passes d c (items_in c d) (next ∷ names)) (component_of d a))) o ≡ Some [] → ⊥
    into None h = cc
    into (Some a) h = more a (option_and_then (λ c. passes d c (items_in c d) (next ∷ names)) (component_of d a)) h

last-more : (d : Items) (a : List ℕ) (o : Option (List (List ℕ))) → (o ≡ Some [] → ⊥)
    → option_and_then (instance_kind d) (option_and_then last_of (option_map (λ more. a ∷ more) o)) ≡ option_and_then (instance_kind d) (option_and_then last_of o)
last-more d a None h = refl
last-more d a (Some []) h = absurd (h refl)
last-more d a (Some (b ∷ path)) h = refl

-- the first name leads to a component, and the others on from there
pub target-first : (d : Items) (b : List ℕ) (n : ℕ) (name : List ℕ) (names : List (List ℕ)) → target_kind d b n (name ∷ names) ≡ option_and_then (kind_below d names) (instance_component d b n name)
target-first d b n name [] = into (instance_in d b n name)
  where
    into : (o : Option (List ℕ)) → option_and_then (instance_kind d) (option_and_then last_of (option_map (λ a. a ∷ []) o)) ≡ option_and_then (kind_below d []) (option_and_then (component_of d) o)
    into None = refl
    into (Some a) = refl
target-first d b n name (next ∷ names) = into (instance_in d b n name)
  where
    deeper : (a : List ℕ) (o : Option (List ℕ)) → option_and_then (instance_kind d) (option_and_then last_of (option_map (λ more. a ∷ more) (option_and_then (λ c. passes d c (items_in c d) (next ∷ names)) o))) ≡ option_and_then (kind_below d (next ∷ names)) o
    deeper a None = refl
    deeper a (Some c) = last-more d a (passes d c (items_in c d) (next ∷ names)) (passes-some d c (items_in c d) next names)

    into : (o : Option (List ℕ)) → option_and_then (instance_kind d) (option_and_then last_of (option_and_then (λ a. option_map (λ more. a ∷ more) (option_and_then (λ c. passes d c (items_in c d) (next ∷ names)) (component_of d a))) o))
        ≡ option_and_then (kind_below d (next ∷ names)) (option_and_then (component_of d) o)
    into None = refl
    into (Some a) = deeper a (component_of d a)

pub target-split : (d : Items) (b : List ℕ) (n : ℕ) (names : List (List ℕ)) (name : List ℕ) (rest : List (List ℕ)) → names ≡ name ∷ rest → target_kind d b n names ≡ option_and_then (kind_below d rest) (instance_component d b n name)
target-split d b n names name rest e = ap (target_kind d b n) e ∙ target-first d b n name rest

pub below-empty : (d : Items) (names : List (List ℕ)) (c : List ℕ) → names ≡ [] → kind_below d names c ≡ kind_at d c
below-empty d names c e = ap (λ ns. kind_below d ns c) e

pub below-more : (d : Items) (names : List (List ℕ)) (c : List ℕ) → 0 < length names → kind_below d names c ≡ target_kind d c (items_in c d) names
below-more d [] c h = absurd (omega arith)
below-more d (name ∷ names) c h = refl

-- one name
below-found : (d : Items) (name c : List ℕ) → kind_below d (name ∷ []) c ≡ option_and_then (instance_kind d) (option_map (λ k. c ++ k ∷ []) (option_and_then (instance_before name (items_in c d)) (body_at c d)))
below-found d name c = into (option_map (λ k. c ++ k ∷ []) (option_and_then (instance_before name (items_in c d)) (body_at c d)))
  where
    into : (o : Option (List ℕ)) → option_and_then (instance_kind d) (option_and_then last_of (option_map (λ a. a ∷ []) o)) ≡ option_and_then (instance_kind d) o
    into None = refl
    into (Some a) = refl

abbrev kind_numbered : Items → List ℕ → Option ℕ → Option Kind
kind_numbered d c o = option_and_then (instance_kind d) (option_map (λ k. c ++ k ∷ []) o)

below-at : (d : Items) (name c : List ℕ) (o : Option Items) → body_at c d ≡ o
    → kind_below d (name ∷ []) c ≡ kind_numbered d c (option_and_then (λ b. instance_before name (length (list_of b)) b) o)
below-at d name c None e = below-found d name c ∙ ap (λ o. kind_numbered d c (option_and_then (instance_before name (items_in c d)) o)) e
below-at d name c (Some b) e =
    below-found d name c ∙ ap (λ o. kind_numbered d c (option_and_then (instance_before name (items_in c d)) o)) e
    ∙ ap (λ o. kind_numbered d c (instance_before name (elim o [ None ↦ 0 | Some t ↦ length (list_of t) ]) b)) e

pub below-no-body : (d : Items) (name c : List ℕ) → body_at c d ≡ None → kind_below d (name ∷ []) c ≡ None
below-no-body d name c e = below-at d name c None e

pub below-absent : (d : Items) (name c : List ℕ) (b : Items) → body_at c d ≡ Some b → instance_before name (length (list_of b)) b ≡ None → kind_below d (name ∷ []) c ≡ None
below-absent d name c b e h = below-at d name c (Some b) e ∙ ap (kind_numbered d c) h

pub below-number : (d : Items) (name c : List ℕ) (b : Items) (k : ℕ) → body_at c d ≡ Some b → instance_before name (length (list_of b)) b ≡ Some k → kind_below d (name ∷ []) c ≡ instance_kind d (c ++ k ∷ [])
below-number d name c b k e h = below-at d name c (Some b) e ∙ ap (kind_numbered d c) h

no-item : (d : Items) (a : List ℕ) → item_at a d ≡ None → instance_kind d a ≡ None
no-item d a e = ap (λ o. option_and_then (kind_at d) (option_and_then (held_by d a) o)) e

pub below-no-item : (d : Items) (name c : List ℕ) (b : Items) (k : ℕ) → body_at c d ≡ Some b → instance_before name (length (list_of b)) b ≡ Some k → slice_get (list_of b) k ≡ None → kind_below d (name ∷ []) c ≡ None
below-no-item d name c b k e h g = below-number d name c b k e h ∙ no-item d (c ++ k ∷ []) (item-deeper c k d b e ∙ g)

pub ruleset one_name = (below-no-body, below-absent, below-number, below-no-item, item-deeper, depth-body_at)

-- the kind of an instance
pub kind-instance : (d : Items) (a : List ℕ) (s : Shell) (o : Of) → item_at a d ≡ Some (Instance s o) → instance_kind d a ≡ kind_of_instance d a o
kind-instance d a s (Named t) e = refl
kind-instance d a s (Anonymous c) e =
    ap (option_and_then (kind_at d)) (component-anonymous d a s c e) ∙ ap (λ x. option_map (λ (k : Component). k.kind) (option_and_then own_component x)) e

-- and of no other item
pub kind-other : (d : Items) (a : List ℕ) (x : Item) → item_at a d ≡ Some x → held_by d a x ≡ None → instance_kind d a ≡ None
kind-other d a x e h = ap (λ o. option_and_then (kind_at d) (option_and_then (held_by d a) o)) e ∙ ap (option_and_then (kind_at d)) h

pub ruleset kinds = (kind-instance, kind-other)

pub ruleset below = (below-empty, below-more)

pub ruleset targets = (target-split, target-first)

-- an item without a fault: the name of an instance isn't used before, and its type is known
accepted : (around : Option Kind) (twice : Bool) (s : Shell) (kind : Option Kind) → instance_fault around twice s kind ≡ None → (twice ≡ false) × (is_some kind ≡ true)
unfolding instance_fault
accepted around true s None e = cc
accepted around false s None e = cc
accepted around true s (Some k) e = cc
accepted around false s (Some k) e = (refl, refl)

none-of : {X : Type 0} (o : Option X) → is_some o ≡ false → o ≡ None
none-of None h = refl
none-of (Some x) h = cc

or-none : {X : Type 0} (o : Option X) → option_or o None ≡ o
or-none None = refl
or-none (Some x) = refl

-- what stands under a name, once more
by-name : (same : Bool) (o : Option ℕ) (n : ℕ) (c : List ℕ) (f : Option ℕ → Option (List ℕ)) → (same ≡ true → o ≡ None) → f (Some n) ≡ Some c → cond same (Some c) (f o) ≡ f (option_or o (cond same (Some n) None))
by-name true o n c f h e = sym (ap (λ z. f (option_or z (Some n))) (h refl) ∙ e)
by-name false o n c f h e = ap f (sym (or-none o))

abbrev at_number : Items → List ℕ → Option ℕ → Option (List ℕ)
at_number d b o = option_and_then (component_of d) (option_map (λ k. b ++ k ∷ []) o)

in-body : (d : Items) (b : List ℕ) (body : Items) (n : ℕ) (q : List ℕ) → body_at b d ≡ Some body → instance_component d b n q ≡ at_number d b (instance_before q n body)
in-body d b body n q e = ap (λ o. at_number d b (option_and_then (instance_before q n) o)) e

next-number : (d : Items) (b : List ℕ) (body : Items) (n : ℕ) (x : Item) (q : List ℕ) → body_at b d ≡ Some body → slice_get (list_of body) n ≡ Some x
    → instance_component d b (n + 1) q ≡ at_number d b (option_or (instance_before q n body) (cond (is_instance q (Some x)) (Some n) None))
next-number d b body n x q e got =
    let j : n + 1 ≡ suc n = omega arith in
    in-body d b body (n + 1) q e ∙ ap (λ m. at_number d b (instance_before q m body)) j ∙ ap (at_number d b) (instance-suc q n body) ∙ ap (λ o. at_number d b (option_or (instance_before q n body) (cond (is_instance q o) (Some n) None))) got

-- an item that is no instance
pub component-same : (d : Items) (b : List ℕ) (body : Items) (n : ℕ) (x : Item) (q : List ℕ) → body_at b d ≡ Some body → slice_get (list_of body) n ≡ Some x → is_instance q (Some x) ≡ false
    → instance_component d b n q ≡ instance_component d b (n + 1) q
component-same d b body n x q e got h =
    sym (next-number d b body n x q e got ∙ ap (λ z. at_number d b (option_or (instance_before q n body) (cond z (Some n) None))) h ∙ ap (at_number d b) (or-none (instance_before q n body)) ∙ sym (in-body d b body n q e))

none-known : (o : Option Kind) → o ≡ None → is_some o ≡ true → ⊥
none-known None e h = cc
none-known (Some k) e h = cc

-- the component of an instance without a fault is known
pub is-known : (d : Items) (around : Option Kind) (a : List ℕ) (twice : Bool) (s : Shell) (c : Option (List ℕ)) → instance_fault around twice s (instance_kind d a) ≡ None → c ≡ component_of d a → c ≡ None → ⊥
is-known d around a twice s c h e none =
    none-known (instance_kind d a) (ap (option_and_then (kind_at d)) (sym e ∙ none)) (accepted around twice s (instance_kind d a) h).1

-- an instance without a fault
pub component-next : (d : Items) (around : Option Kind) (b : List ℕ) (body : Items) (n : ℕ) (s : Shell) (o : Of) (q c : List ℕ) → body_at b d ≡ Some body → slice_get (list_of body) n ≡ Some (Instance s o)
    → instance_fault around (is_some (instance_before s.name n body)) s (instance_kind d (b ++ n ∷ [])) ≡ None → Some c ≡ component_of d (b ++ n ∷ [])
    → cond (bytes_eq s.name q) (Some c) (instance_component d b n q) ≡ instance_component d b (n + 1) q
component-next d around b body n s o q c e got h w =
    let first = (accepted around (is_some (instance_before s.name n body)) s (instance_kind d (b ++ n ∷ [])) h).0 in
    ap (cond (bytes_eq s.name q) (Some c)) (in-body d b body n q e)
    ∙ by-name (bytes_eq s.name q) (instance_before q n body) n c (at_number d b)
    (λ t. ap (λ m. instance_before m n body) (sym ((bytes_eq-Decides s.name q).0 t)) ∙ none-of (instance_before s.name n body) first) (sym w)
    ∙ sym (next-number d b body n (Instance s o) q e got)

-- no fault at an address is no fault
pub no-fault-at : (a : List ℕ) (k : Option FaultKind) (o : Option Fault) → o ≡ fault_at a k → o ≡ None → k ≡ None
no-fault-at a None o e h = refl
no-fault-at a (Some k) o e h = cc
