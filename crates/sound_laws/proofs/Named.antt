-- In a description without a fault a target passes, by the names of a component's instances, those that the search finds.
use Rattle.std.proofs.Common.{◌≡◌, ℕ, zero, suc, ◌+◌, ◌<◌, ◌≤◌, Bool, true, false, List, [], ◌∷◌, ◌++◌, length, Option, Some, None, option_map, refl, ap, sym, subst, ◌∙◌, arith, ◌⊎◌, inl, inr}
use Rattle.std.specs.Prelude.{option_and_then, slice_get, nat_lt, bytes_eq, if◌then◌else◌}
use Rattle.std.specs.Option.{is_some}
use Rattle.std.proofs.lemmas.Bool.{cases_lt, lt-ltb, le-ltb}
use Rattle.rdl_tree.specs.ItemAt.{item_at}
use Rattle.rdl_tree.specs.Items.{Items, no_items, plain, holder, named as named_item, own, default, dynamic, define, anonymous}
use Rattle.rdl_tree.specs.View.{list_of}
use Rattle.rdl_tree.specs.Address.{number_of, inner, body_at}
use Rattle.rdl_tree.specs.Component.{own_component}
use Rattle.rdl_tree.specs.declared.shell.Kind.{Kind}
use Rattle.rdl_tree.specs.declared.shell.Shell.{Shell}
use Rattle.rdl_tree.specs.declared.description.Component.{Component}
use Rattle.rdl_tree.specs.declared.description.Item.TheVariants.{Instance as InstanceItem}
use Rattle.rdl_tree.specs.declared.description.Of.{Of}
use Rattle.rdl_tree.specs.declared.description.Of.TheVariants.{Named, Anonymous}
use Rattle.rdl_tree.proofs.Places.{number-place}
use Rattle.rdl_scope.specs.Types.{component_of, component_at, items_in}
use Rattle.rdl_scope.specs.Target.{plain_named, holder_named, instance_before, instance_in, passes}
use Rattle.rdl_scope.specs.ItemFaults.{kind_at, instance_kind, instance_fault, item_fault, fault_of}
use Rattle.rdl_scope.specs.Closed.{Made, Parts, no_parts, part, component, instances, with_made}
use Rattle.rdl_scope.proofs.AsFound.{as_found}
use Rattle.rdl_scope.proofs.Accepted.{clear-inside}
use Rattle.rdl_scope.proofs.Holds.{holds}
use Rattle.rdl_elab.specs.Found.{ArePartsFound}
use Rattle.rdl_elab.specs.Reaches.{plain_reach, reaches_by, reaches}
use Rattle.rdl_elab.proofs.PartsFound.{parts-found}
use Rattle.sound_laws.specs.Targets.{Instance, named, passed_by, is_before, target_in, own_assignments}

-- ---- The first of some items, and the first of all of them.

abbrev limited : ℕ → Option ℕ → Option ℕ
limited n None = None
limited n (Some k) = if nat_lt k n then Some k else None

lt-suc : (k n : ℕ) → nat_lt (suc k) (suc n) ≡ nat_lt k n
lt-suc k n = by (cases_lt k n)
  where
    by : ((k < n) ⊎ (n ≤ k)) → nat_lt (suc k) (suc n) ≡ nat_lt k n
    by (inl l) = lt-ltb (suc k) (suc n) (omega (arith, l)) ∙ sym (lt-ltb k n l)
    by (inr g) = le-ltb (suc k) (suc n) (omega (arith, g)) ∙ sym (le-ltb k n g)

limited-none : (o : Option ℕ) → limited 0 o ≡ None
limited-none None = refl
limited-none (Some k) = ap (λ b. if b then Some k else None) (le-ltb k 0 (omega arith))

limited-suc : (n : ℕ) (o : Option ℕ) → option_map suc (limited n o) ≡ limited (suc n) (option_map suc o)
limited-suc n None = refl
limited-suc n (Some k) = by (nat_lt k n) ∙ ap (λ b. if b then Some (suc k) else None) (sym (lt-suc k n))
  where
    by : (b : Bool) → option_map suc (if b then Some k else None) ≡ (if b then Some (suc k) else None)
    by true = refl
    by false = refl

limited-next : (n : ℕ) (b : Bool) (first all : Option ℕ) → first ≡ limited n all → (if b then Some 0 else option_map suc first) ≡ limited (suc n) (if b then Some 0 else option_map suc all)
limited-next n true first all e = sym (ap (λ t. if t then Some 0 else None) (lt-ltb 0 (suc n) (omega arith)))
limited-next n false first all e = ap (option_map suc) e ∙ limited-suc n all

before-limit : (name : List ℕ) (n : ℕ) (t : Items) → instance_before name n t ≡ limited n (instance_before name (length (list_of t)) t)
before-limit name zero t = sym (limited-none (instance_before name (length (list_of t)) t))
before-limit name (suc n) no_items = refl
before-limit name (suc n) (plain p rest) = limited-next n (plain_named name p) (instance_before name n rest) (instance_before name (length (list_of rest)) rest) (before-limit name n rest)
before-limit name (suc n) (holder h body rest) = limited-next n (holder_named name h) (instance_before name n rest) (instance_before name (length (list_of rest)) rest) (before-limit name n rest)

-- ---- In a description without a fault each instance has a component.

abbrev Resolves : Items → List ℕ → ℕ → Items → Type 0
Resolves d b j t = (i : ℕ) (s : Shell) (o : Of) → slice_get (list_of t) i ≡ Some (InstanceItem s o) → (m : Made) × (option_and_then (component d) (component_of d (b ++ (j + i) ∷ [])) ≡ Some m)

resolves-next : (d : Items) (b : List ℕ) (j : ℕ) (t rest : Items) → ((i : ℕ) → slice_get (list_of t) (suc i) ≡ slice_get (list_of rest) i) → Resolves d b j t → Resolves d b (suc j) rest
resolves-next d b j t rest more r i s o e =
    let h = r (suc i) s o (more i ∙ e) in
    let n : suc j + i ≡ j + suc i = omega arith in
    (h.0, ap (λ k. option_and_then (component d) (component_of d (b ++ k ∷ []))) n ∙ h.1)

resolves-first : (d : Items) (b : List ℕ) (j : ℕ) (t : Items) (s : Shell) (o : Of) → slice_get (list_of t) 0 ≡ Some (InstanceItem s o) → Resolves d b j t
    → (m : Made) × (option_and_then (component d) (component_of d (b ++ j ∷ [])) ≡ Some m)
resolves-first d b j t s o e r =
    let h = r 0 s o e in
    let n : j ≡ j + 0 = omega arith in
    (h.0, ap (λ k. option_and_then (component d) (component_of d (b ++ k ∷ []))) n ∙ h.1)

held-inner : (k : ℕ) (t : Items) (c : Component) → option_and_then own_component (slice_get (list_of t) k) ≡ Some c → inner k t ≡ Some c.body
held-inner k no_items c e = cc
held-inner zero (plain (named_item s n) rest) c e = cc
held-inner zero (plain (own p v) rest) c e = cc
held-inner zero (plain (default p v) rest) c e = cc
held-inner zero (plain (dynamic n p v) rest) c e = cc
held-inner zero (holder (define n k) body rest) c e = let same : c ≡ record { kind = k; body = body } = cc in ap (λ (x : Component). Some x.body) (sym same)
held-inner zero (holder (anonymous s k) body rest) c e = let same : c ≡ record { kind = k; body = body } = cc in ap (λ (x : Component). Some x.body) (sym same)
held-inner (suc k) (plain p rest) c e = held-inner k rest c e
held-inner (suc k) (holder h body rest) c e = held-inner k rest c e

held-body : (a : List ℕ) (t : Items) (c : Component) → component_at t a ≡ Some c → body_at a t ≡ Some c.body
held-body [] t c e = cc
held-body (k ∷ []) t c e = ap (option_and_then (body_at [])) (held-inner k t c e)
held-body (k ∷ j ∷ a) t c e = into (λ u. held-body (j ∷ a) u c) (inner k t) refl e
  where
    into : ((u : Items) → component_at u (j ∷ a) ≡ Some c → body_at (j ∷ a) u ≡ Some c.body) → (o : Option Items) → inner k t ≡ o
        → option_and_then own_component (option_and_then (item_at (j ∷ a)) o) ≡ Some c → option_and_then (body_at (j ∷ a)) (inner k t) ≡ Some c.body
    into ih None g e = cc
    into ih (Some u) g e = ap (option_and_then (body_at (j ∷ a))) g ∙ ih u e

there-made : (d : Items) (a : List ℕ) (c : Component) → component_at d a ≡ Some c → (m : Made) × (component d a ≡ Some m)
there-made d [] c e = cc
there-made d (i ∷ a) c e = by (component d (i ∷ a)) refl (holds d i a ∙ ap is_some (held-body (i ∷ a) d c e))
  where
    by : (o : Option Made) → component d (i ∷ a) ≡ o → is_some (component d (i ∷ a)) ≡ true → (m : Made) × (component d (i ∷ a) ≡ Some m)
    by None g h = let no : false ≡ true = sym (ap is_some g) ∙ h in cc
    by (Some m) g h = (m, g)

known-kind : (around : Option Kind) (twice : Bool) (s : Shell) (o : Option Kind) → instance_fault around twice s o ≡ None → (k : Kind) × (o ≡ Some k)
unfolding instance_fault
known-kind around true s None e = cc
known-kind around false s None e = cc
known-kind around twice s (Some k) e = (k, refl)

instance-clear : (d : Items) (around : Option Kind) (b : List ℕ) (body : Items) (n : ℕ) (s : Shell) (o : Of) → item_fault d around b body n (InstanceItem s o) ≡ None
    → (k : Kind) × (instance_kind d (b ++ n ∷ []) ≡ Some k)
unfolding item_fault
instance-clear d around b body n s o e = known-kind around (is_some (instance_before s.name n body)) s (instance_kind d (b ++ n ∷ [])) e

kind-made : (d : Items) (o : Option (List ℕ)) (k : Kind) → option_and_then (kind_at d) o ≡ Some k → (m : Made) × (option_and_then (component d) o ≡ Some m)
kind-made d None k e = cc
kind-made d (Some a) k e = by (component_at d a) refl e
  where
    by : (o : Option Component) → component_at d a ≡ o → option_map (λ (c : Component). c.kind) o ≡ Some k → (m : Made) × (component d a ≡ Some m)
    by None g h = cc
    by (Some c) g h = there-made d a c g

resolved : (d : Items) (b : List ℕ) (c : Made) → fault_of d ≡ None → component d b ≡ Some c → Resolves d b 0 c.head.body
resolved d b c none made i s o e =
    let f = as_found d b c made in
    let held : Component = record { kind = c.head.kind; body = c.head.body } in
    let clear = instance-clear d (Some c.head.kind) b c.head.body i s o (clear-inside d b held i (InstanceItem s o) none f.component e) in
    let m = kind-made d (component_of d (b ++ i ∷ [])) clear.0 clear.1 in
    let n : 0 + i ≡ i = omega arith in
    (m.0, ap (λ k. option_and_then (component d) (component_of d (b ++ k ∷ []))) n ∙ m.1)

-- ---- The first instance of a name is where the search finds it.

module _ (d : Items) (b name : List ℕ) where
  abbrev place_in : ℕ → Option ℕ → Option (List ℕ)
  place_in j o = option_map (λ k. b ++ (j + k) ∷ []) o

  abbrev first_in : Items → Option ℕ
  first_in t = instance_before name (length (list_of t)) t

  abbrev place_of : Option Instance → Option (List ℕ)
  place_of o = option_map (λ (i : Instance). i.at) o

  abbrev SameFirst : ℕ → Items → Type 0
  SameFirst j t = place_of (named name (instances d b j t)) ≡ place_in j (first_in t)

  shifted : (j : ℕ) (o : Option ℕ) → place_in (suc j) o ≡ place_in j (option_map suc o)
  shifted j None = refl
  shifted j (Some k) = let n : suc j + k ≡ j + suc k = omega arith in ap (λ i. Some (b ++ i ∷ [])) n

  -- behind an item that is no instance
  first_later : (j : ℕ) (t rest : Items) → instances d b j t ≡ instances d b (suc j) rest → first_in t ≡ option_map suc (first_in rest) → SameFirst (suc j) rest → SameFirst j t
  first_later j t rest e g ih = ap (λ ps. place_of (named name ps)) e ∙ ih ∙ shifted j (first_in rest) ∙ ap (place_in j) (sym g)

  -- at an instance
  first_here : (j : ℕ) (t rest : Items) (s : Shell) (m : Made) → instances d b j t ≡ with_made (b ++ j ∷ []) s (option_and_then (component d) (component_of d (b ++ j ∷ []))) (instances d b (suc j) rest)
      → option_and_then (component d) (component_of d (b ++ j ∷ [])) ≡ Some m → first_in t ≡ (if bytes_eq s.name name then Some 0 else option_map suc (first_in rest)) → SameFirst (suc j) rest → SameFirst j t
  first_here j t rest s m e found g ih =
      ap (λ ps. place_of (named name ps)) (e ∙ ap (λ o. with_made (b ++ j ∷ []) s o (instances d b (suc j) rest)) found)
      ∙ by (bytes_eq s.name name)
      ∙ ap (place_in j) (sym g)
    where
      by : (test : Bool)
          → place_of (if test then Some (record { at = b ++ j ∷ []; head = m.head; inside = m.parts }) else named name (instances d b (suc j) rest))
          ≡ place_in j (if test then Some 0 else option_map suc (first_in rest))
      by true = let n : j ≡ j + 0 = omega arith in ap (λ k. Some (b ++ k ∷ [])) n
      by false = ih ∙ shifted j (first_in rest)

  same_first : (t : Items) (j : ℕ) → Resolves d b j t → SameFirst j t
  same_first no_items j r = refl
  same_first (plain (named_item s n) rest) j r =
      let m = resolves-first d b j (plain (named_item s n) rest) s (Named n) refl r in
      first_here j (plain (named_item s n) rest) rest s m.0 refl m.1 refl (same_first rest (suc j) (resolves-next d b j (plain (named_item s n) rest) rest (λ i. refl) r))
  same_first (plain (own p v) rest) j r = first_later j (plain (own p v) rest) rest refl refl (same_first rest (suc j) (resolves-next d b j (plain (own p v) rest) rest (λ i. refl) r))
  same_first (plain (default p v) rest) j r = first_later j (plain (default p v) rest) rest refl refl (same_first rest (suc j) (resolves-next d b j (plain (default p v) rest) rest (λ i. refl) r))
  same_first (plain (dynamic n p v) rest) j r = first_later j (plain (dynamic n p v) rest) rest refl refl (same_first rest (suc j) (resolves-next d b j (plain (dynamic n p v) rest) rest (λ i. refl) r))
  same_first (holder (define n k) body rest) j r = first_later j (holder (define n k) body rest) rest refl refl (same_first rest (suc j) (resolves-next d b j (holder (define n k) body rest) rest (λ i. refl) r))
  same_first (holder (anonymous s k) body rest) j r =
      let m = resolves-first d b j (holder (anonymous s k) body rest) s (Anonymous (record { kind = k; body = body })) refl r in
      first_here j (holder (anonymous s k) body rest) rest s m.0 refl m.1 refl (same_first rest (suc j) (resolves-next d b j (holder (anonymous s k) body rest) rest (λ i. refl) r))

-- ---- A target passes the same instances.

-- an instance has the component that the search finds
pub record IsOne (d : Items) (i : Instance) : Type 0 where
  pub is : component_of d i.at ≡ Some i.head.at
  pub made : component d i.head.at ≡ Some (record { head = i.head; parts = i.inside })

pub one_named : (d : Items) (b name : List ℕ) (ps : Parts) (i : Instance) → ArePartsFound d b ps → named name ps ≡ Some i → IsOne d i
one_named d b name no_parts i found e = cc
one_named d b name (part at s h inside rest) i found e = by (one_named d b name rest i found.2) (bytes_eq s.name name) e
  where
    here : IsOne d (record { at = at; head = h; inside = inside })
    here = record { is = found.0.is; made = found.0.component }

    by : (named name rest ≡ Some i → IsOne d i) → (test : Bool) → (if test then Some (record { at = at; head = h; inside = inside }) else named name rest) ≡ Some i → IsOne d i
    by later true g = let same : ◌≡◌ {A = Instance} (record { at = at; head = h; inside = inside }) i = cc in subst (IsOne d) same here
    by later false g = later g

same_instance : (d : Items) (b : List ℕ) (n m : ℕ) (name : List ℕ) (names : List (List ℕ)) → instance_in d b n name ≡ instance_in d b m name → passes d b n (name ∷ names) ≡ passes d b m (name ∷ names)
same_instance d b n m name [] e = ap (option_map (λ a. a ∷ [])) e
same_instance d b n m name (next ∷ names) e = ap (option_and_then (λ a. option_map (λ more. a ∷ more) (option_and_then (λ c. passes d c (items_in c d) (next ∷ names)) (component_of d a)))) e

no_instance : (d : Items) (b : List ℕ) (n : ℕ) (name : List ℕ) (names : List (List ℕ)) → instance_in d b n name ≡ None → passes d b n (name ∷ names) ≡ None
no_instance d b n name [] e = ap (option_map (λ a. a ∷ [])) e
no_instance d b n name (next ∷ names) e = ap (option_and_then (λ a. option_map (λ more. a ∷ more) (option_and_then (λ c. passes d c (items_in c d) (next ∷ names)) (component_of d a)))) e

module _ (d : Items) (none : fault_of d ≡ None) where
  -- the instances of one component
  module _ (b : List ℕ) (c : Made) (made : component d b ≡ Some c) where
    abbrev body : Items
    body = c.head.body

    abbrev first : List ℕ → Option ℕ
    first name = instance_before name (length (list_of body)) body

    instance_at : (n : ℕ) (name : List ℕ) → instance_in d b n name ≡ option_map (λ k. b ++ k ∷ []) (instance_before name n body)
    instance_at n name = ap (λ o. option_map (λ k. b ++ k ∷ []) (option_and_then (instance_before name n) o)) (as_found d b c made).body

    count_is : items_in b d ≡ length (list_of body)
    count_is = ap (λ (o : Option Items). elim o [ None ↦ 0 | Some t ↦ length (list_of t) ]) (as_found d b c made).body

    from_zero : (o : Option ℕ) → option_map (λ k. b ++ (0 + k) ∷ []) o ≡ option_map (λ k. b ++ k ∷ []) o
    from_zero None = refl
    from_zero (Some k) = let n : 0 + k ≡ k = omega arith in ap (λ i. Some (b ++ i ∷ [])) n

    first_is : (name : List ℕ) → option_map (λ (i : Instance). i.at) (named name c.parts) ≡ option_map (λ k. b ++ k ∷ []) (first name)
    first_is name =
        ap (λ ps. option_map (λ (i : Instance). i.at) (named name ps)) (as_found d b c made).parts
        ∙ same_first d b name body 0 (resolved d b c none made) ∙ from_zero (first name)

    instance_is : (name : List ℕ) → option_map (λ (i : Instance). i.at) (named name c.parts) ≡ instance_in d b (items_in b d) name
    instance_is name = first_is name ∙ sym (instance_at (length (list_of body)) name) ∙ ap (λ n. instance_in d b n name) (sym count_is)

    limit_is : (n : ℕ) (name : List ℕ) → instance_in d b n name ≡ option_map (λ k. b ++ k ∷ []) (limited n (first name))
    limit_is n name = instance_at n name ∙ ap (option_map (λ k. b ++ k ∷ [])) (before-limit name n body)

    -- a target of item n passes what it would pass from the end of the body, if its first instance stands before
    target_first : (n : ℕ) (name : List ℕ) (names : List (List ℕ)) → passed_by (name ∷ names) c.parts ≡ passes d b (items_in b d) (name ∷ names) → target_in c.parts n (name ∷ names) ≡ passes d b n (name ∷ names)
    target_first n name names all = by (named name c.parts) (first name) (instance_is name) (first_is name) (limit_is n name)
      where
        by_test : (k : ℕ) (test : Bool) → instance_in d b (items_in b d) name ≡ Some (b ++ k ∷ []) → instance_in d b n name ≡ option_map (λ k. b ++ k ∷ []) (if test then Some k else None)
            → (if test then passed_by (name ∷ names) c.parts else None) ≡ passes d b n (name ∷ names)
        by_test k true e g = all ∙ same_instance d b (items_in b d) n name names (e ∙ sym g)
        by_test k false e g = sym (no_instance d b n name names g)

        by : (o : Option Instance) (first : Option ℕ) → option_map (λ (i : Instance). i.at) o ≡ instance_in d b (items_in b d) name → option_map (λ (i : Instance). i.at) o ≡ option_map (λ k. b ++ k ∷ []) first
            → instance_in d b n name ≡ option_map (λ k. b ++ k ∷ []) (limited n first) → (if is_before n o then passed_by (name ∷ names) c.parts else None) ≡ passes d b n (name ∷ names)
        by None None h e g = sym (no_instance d b n name names g)
        by None (Some k) h e g = cc
        by (Some i) None h e g = cc
        by (Some i) (Some k) h e g =
            let at : i.at ≡ b ++ k ∷ [] = cc in
            let number : number_of i.at ≡ k = ap number_of at ∙ number-place b k in
            ap (λ j. if nat_lt j n then passed_by (name ∷ names) c.parts else None) number ∙ by_test k (nat_lt k n) (sym h ∙ e) g

  -- the way from a component on
  passed_same : (names : List (List ℕ)) (b : List ℕ) (c : Made) → component d b ≡ Some c → passed_by names c.parts ≡ passes d b (items_in b d) names
  passed_same [] b c made = refl
  passed_same (name ∷ []) b c made = by (named name c.parts) ∙ ap (option_map (λ a. a ∷ [])) (instance_is b c made name)
    where
      by : (o : Option Instance) → option_map (λ (i : Instance). i.at ∷ []) o ≡ option_map (λ a. a ∷ []) (option_map (λ (i : Instance). i.at) o)
      by None = refl
      by (Some i) = refl
  passed_same (name ∷ next ∷ names) b c made =
      by (λ a k. passed_same (next ∷ names) a k) (named name c.parts) refl (instance_is b c made name)
    where
      by : ((a : List ℕ) (k : Made) → component d a ≡ Some k → passed_by (next ∷ names) k.parts ≡ passes d a (items_in a d) (next ∷ names))
          → (o : Option Instance) → named name c.parts ≡ o → option_map (λ (i : Instance). i.at) o ≡ instance_in d b (items_in b d) name
          → option_and_then (λ (i : Instance). option_map (λ more. i.at ∷ more) (passed_by (next ∷ names) i.inside)) o ≡ passes d b (items_in b d) (name ∷ next ∷ names)
      by ih None e h = sym (no_instance d b (items_in b d) name (next ∷ names) (sym h))
      by ih (Some i) e h =
          let one = one_named d b name c.parts i (parts-found d b c made) e in
          ap (option_map (λ more. i.at ∷ more)) (ih i.head.at (record { head = i.head; parts = i.inside }) one.made)
          ∙ ap (λ o. option_map (λ more. i.at ∷ more) (option_and_then (λ a. passes d a (items_in a d) (next ∷ names)) o)) (sym one.is)
          ∙ ap (option_and_then (λ a. option_map (λ more. a ∷ more) (option_and_then (λ c. passes d c (items_in c d) (next ∷ names)) (component_of d a)))) h

  pub target_same : (b : List ℕ) (c : Made) → component d b ≡ Some c → (n : ℕ) (names : List (List ℕ)) → target_in c.parts n names ≡ passes d b n names
  target_same b c made n [] = refl
  target_same b c made n (name ∷ names) = target_first b c made n name names (passed_same (name ∷ names) b c made)

  -- the dynamic assignments of a component are those that its names find
  same_reaches : (b : List ℕ) (c : Made) → component d b ≡ Some c → (n : ℕ) (t : Items) → reaches_by (target_in c.parts) n t ≡ reaches d b n t
  same_reaches b c made n no_items = refl
  same_reaches b c made n (plain x rest) = λ i. plain_reach (λ names. target_same b c made n names i) x (same_reaches b c made (suc n) rest i)
  same_reaches b c made n (holder h inner rest) = same_reaches b c made (suc n) rest

  pub own_found : (b : List ℕ) (c : Made) → component d b ≡ Some c → own_assignments c.head c.parts ≡ reaches d b 0 c.head.body
  own_found b c made = same_reaches b c made 0 c.head.body
