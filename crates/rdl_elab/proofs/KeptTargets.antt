-- In a description without a fault a target passes, by what is kept of the components, the instances that the search finds.
use Rattle.std.proofs.Common.{◌≡◌, ℕ, zero, suc, ◌+◌, ◌<◌, ◌≤◌, Bool, true, false, List, [], ◌∷◌, ◌++◌, length, Option, Some, None, option_map, refl, ap, sym, subst, ◌∙◌, arith, ◌⊎◌, inl, inr}
use Rattle.std.specs.Prelude.{option_and_then, slice_get, nat_lt, bytes_eq, if◌then◌else◌}
use Rattle.std.specs.Option.{is_some}
use Rattle.std.proofs.lemmas.Bool.{cases_lt, lt-ltb, le-ltb}
use Rattle.rdl_tree.specs.ItemAt.{item_at}
use Rattle.rdl_tree.specs.Items.{Items, no_items, plain, holder, named, own, default, dynamic, define, anonymous}
use Rattle.rdl_tree.specs.View.{list_of}
use Rattle.rdl_tree.specs.Address.{number_of, inner, body_at}
use Rattle.rdl_tree.specs.Component.{own_component}
use Rattle.rdl_tree.specs.declared.shell.Kind.{Kind}
use Rattle.rdl_tree.specs.declared.shell.Shell.{Shell}
use Rattle.rdl_tree.specs.declared.description.Component.{Component}
use Rattle.rdl_tree.specs.declared.description.Item.TheVariants.{Instance}
use Rattle.rdl_tree.specs.declared.description.Of.{Of}
use Rattle.rdl_tree.specs.declared.description.Of.TheVariants.{Named, Anonymous}
use Rattle.rdl_tree.proofs.Places.{number-place}
use Rattle.rdl_scope.specs.Types.{component_of, component_at, items_in}
use Rattle.rdl_scope.specs.Target.{plain_named, holder_named, instance_before, instance_in, passes}
use Rattle.rdl_scope.specs.ItemFaults.{kind_at, instance_kind, instance_fault, item_fault, fault_of}
use Rattle.rdl_scope.specs.Closed.{Head, Made, Parts, no_parts, part, component, instances, with_made}
use Rattle.rdl_scope.proofs.AsFound.{as_found}
use Rattle.rdl_scope.proofs.Accepted.{clear-inside}
use Rattle.rdl_scope.proofs.Holds.{holds}
use Rattle.rdl_elab.specs.Found.{ArePartsFound}
use Rattle.rdl_elab.specs.Kept.{Part}
use Rattle.rdl_elab.specs.declared.walk.finished.Finished.{Finished}
use Rattle.rdl_elab.specs.Finished.{AreParts}
use Rattle.rdl_elab.specs.PartNames.{part_named}
use Rattle.rdl_elab.specs.KeptTargets.{kept_passes, is_before, kept_target}
use Rattle.rdl_elab.proofs.PartsFound.{parts-found}

-- ---- The first of some items, and the first of all of them.

abbrev limited : ℕ → Option ℕ → Option ℕ
limited n None = None
limited n (Some k) = if nat_lt k n then Some k else None

lt-suc : (k n : ℕ) → nat_lt (suc k) (suc n) ≡ nat_lt k n
lt-suc k n = by (cases_lt k n)
  where
    by : ((k < n) ⊎ (n ≤ k)) → nat_lt (suc k) (suc n) ≡ nat_lt k n
    by (inl l) = lt-ltb (suc k) (suc n) (omega (arith, l)) ∙ sym (lt-ltb k n l)
    by (inr g) = le-ltb (suc k) (suc n) (omega (arith, g)) ∙ sym (le-ltb k n g)

limited-none : (o : Option ℕ) → limited 0 o ≡ None
limited-none None = refl
limited-none (Some k) = ap (λ b. if b then Some k else None) (le-ltb k 0 (omega arith))

limited-suc : (n : ℕ) (o : Option ℕ) → option_map suc (limited n o) ≡ limited (suc n) (option_map suc o)
limited-suc n None = refl
limited-suc n (Some k) = by (nat_lt k n) ∙ ap (λ b. if b then Some (suc k) else None) (sym (lt-suc k n))
  where
    by : (b : Bool) → option_map suc (if b then Some k else None) ≡ (if b then Some (suc k) else None)
    by true = refl
    by false = refl

limited-next : (n : ℕ) (b : Bool) (first all : Option ℕ) → first ≡ limited n all → (if b then Some 0 else option_map suc first) ≡ limited (suc n) (if b then Some 0 else option_map suc all)
limited-next n true first all e = sym (ap (λ t. if t then Some 0 else None) (lt-ltb 0 (suc n) (omega arith)))
limited-next n false first all e = ap (option_map suc) e ∙ limited-suc n all

before-limit : (name : List ℕ) (n : ℕ) (t : Items) → instance_before name n t ≡ limited n (instance_before name (length (list_of t)) t)
before-limit name zero t = sym (limited-none (instance_before name (length (list_of t)) t))
before-limit name (suc n) no_items = refl
before-limit name (suc n) (plain p rest) = limited-next n (plain_named name p) (instance_before name n rest) (instance_before name (length (list_of rest)) rest) (before-limit name n rest)
before-limit name (suc n) (holder h body rest) = limited-next n (holder_named name h) (instance_before name n rest) (instance_before name (length (list_of rest)) rest) (before-limit name n rest)

-- ---- In a description without a fault each instance has a component.

abbrev Resolves : Items → List ℕ → ℕ → Items → Type 0
Resolves d b j t = (i : ℕ) (s : Shell) (o : Of) → slice_get (list_of t) i ≡ Some (Instance s o) → (m : Made) × (option_and_then (component d) (component_of d (b ++ (j + i) ∷ [])) ≡ Some m)

resolves-next : (d : Items) (b : List ℕ) (j : ℕ) (t rest : Items) → ((i : ℕ) → slice_get (list_of t) (suc i) ≡ slice_get (list_of rest) i) → Resolves d b j t → Resolves d b (suc j) rest
resolves-next d b j t rest more r i s o e =
    let h = r (suc i) s o (more i ∙ e) in
    let n : suc j + i ≡ j + suc i = omega arith in
    (h.0, ap (λ k. option_and_then (component d) (component_of d (b ++ k ∷ []))) n ∙ h.1)

resolves-first : (d : Items) (b : List ℕ) (j : ℕ) (t : Items) (s : Shell) (o : Of) → slice_get (list_of t) 0 ≡ Some (Instance s o) → Resolves d b j t
    → (m : Made) × (option_and_then (component d) (component_of d (b ++ j ∷ [])) ≡ Some m)
resolves-first d b j t s o e r =
    let h = r 0 s o e in
    let n : j ≡ j + 0 = omega arith in
    (h.0, ap (λ k. option_and_then (component d) (component_of d (b ++ k ∷ []))) n ∙ h.1)

held-inner : (k : ℕ) (t : Items) (c : Component) → option_and_then own_component (slice_get (list_of t) k) ≡ Some c → inner k t ≡ Some c.body
held-inner k no_items c e = cc
held-inner zero (plain (named s n) rest) c e = cc
held-inner zero (plain (own p v) rest) c e = cc
held-inner zero (plain (default p v) rest) c e = cc
held-inner zero (plain (dynamic n p v) rest) c e = cc
held-inner zero (holder (define n k) body rest) c e = let same : c ≡ record { kind = k; body = body } = cc in ap (λ (x : Component). Some x.body) (sym same)
held-inner zero (holder (anonymous s k) body rest) c e = let same : c ≡ record { kind = k; body = body } = cc in ap (λ (x : Component). Some x.body) (sym same)
held-inner (suc k) (plain p rest) c e = held-inner k rest c e
held-inner (suc k) (holder h body rest) c e = held-inner k rest c e

held-body : (a : List ℕ) (t : Items) (c : Component) → component_at t a ≡ Some c → body_at a t ≡ Some c.body
held-body [] t c e = cc
held-body (k ∷ []) t c e = ap (option_and_then (body_at [])) (held-inner k t c e)
held-body (k ∷ j ∷ a) t c e = into (λ u. held-body (j ∷ a) u c) (inner k t) refl e
  where
    into : ((u : Items) → component_at u (j ∷ a) ≡ Some c → body_at (j ∷ a) u ≡ Some c.body) → (o : Option Items) → inner k t ≡ o
        → option_and_then own_component (option_and_then (item_at (j ∷ a)) o) ≡ Some c → option_and_then (body_at (j ∷ a)) (inner k t) ≡ Some c.body
    into ih None g e = cc
    into ih (Some u) g e = ap (option_and_then (body_at (j ∷ a))) g ∙ ih u e

there-made : (d : Items) (a : List ℕ) (c : Component) → component_at d a ≡ Some c → (m : Made) × (component d a ≡ Some m)
there-made d [] c e = cc
there-made d (i ∷ a) c e = by (component d (i ∷ a)) refl (holds d i a ∙ ap is_some (held-body (i ∷ a) d c e))
  where
    by : (o : Option Made) → component d (i ∷ a) ≡ o → is_some (component d (i ∷ a)) ≡ true → (m : Made) × (component d (i ∷ a) ≡ Some m)
    by None g h = let no : false ≡ true = sym (ap is_some g) ∙ h in cc
    by (Some m) g h = (m, g)

known-kind : (around : Option Kind) (twice : Bool) (s : Shell) (o : Option Kind) → instance_fault around twice s o ≡ None → (k : Kind) × (o ≡ Some k)
unfolding instance_fault
known-kind around true s None e = cc
known-kind around false s None e = cc
known-kind around twice s (Some k) e = (k, refl)

instance-clear : (d : Items) (around : Option Kind) (b : List ℕ) (body : Items) (n : ℕ) (s : Shell) (o : Of) → item_fault d around b body n (Instance s o) ≡ None
    → (k : Kind) × (instance_kind d (b ++ n ∷ []) ≡ Some k)
unfolding item_fault
instance-clear d around b body n s o e = known-kind around (is_some (instance_before s.name n body)) s (instance_kind d (b ++ n ∷ [])) e

kind-made : (d : Items) (o : Option (List ℕ)) (k : Kind) → option_and_then (kind_at d) o ≡ Some k → (m : Made) × (option_and_then (component d) o ≡ Some m)
kind-made d None k e = cc
kind-made d (Some a) k e = by (component_at d a) refl e
  where
    by : (o : Option Component) → component_at d a ≡ o → option_map (λ (c : Component). c.kind) o ≡ Some k → (m : Made) × (component d a ≡ Some m)
    by None g h = cc
    by (Some c) g h = there-made d a c g

resolved : (d : Items) (b : List ℕ) (c : Made) → fault_of d ≡ None → component d b ≡ Some c → Resolves d b 0 c.head.body
resolved d b c none made i s o e =
    let f = as_found d b c made in
    let held : Component = record { kind = c.head.kind; body = c.head.body } in
    let clear = instance-clear d (Some c.head.kind) b c.head.body i s o (clear-inside d b held i (Instance s o) none f.component e) in
    let m = kind-made d (component_of d (b ++ i ∷ [])) clear.0 clear.1 in
    let n : 0 + i ≡ i = omega arith in
    (m.0, ap (λ k. option_and_then (component d) (component_of d (b ++ k ∷ []))) n ∙ m.1)

-- ---- The first instance of a name is where the search finds it.

module _ (d : Items) (fs : List Finished) (b name : List ℕ) (bound : ℕ) where
  abbrev place_in : ℕ → Option ℕ → Option (List ℕ)
  place_in j o = option_map (λ k. b ++ (j + k) ∷ []) o

  abbrev first_in : Items → Option ℕ
  first_in t = instance_before name (length (list_of t)) t

  abbrev SameFirst : ℕ → Items → Type 0
  SameFirst j t = (ps : List Part) (P : Parts) → P ≡ instances d b j t → AreParts d fs bound ps P → option_map (λ (p : Part). p.at) (part_named name ps) ≡ place_in j (first_in t)

  shifted : (j : ℕ) (o : Option ℕ) → place_in (suc j) o ≡ place_in j (option_map suc o)
  shifted j None = refl
  shifted j (Some k) = let n : suc j + k ≡ j + suc k = omega arith in ap (λ i. Some (b ++ i ∷ [])) n

  -- behind an item that is no instance
  first-later : (j : ℕ) (t rest : Items) → instances d b j t ≡ instances d b (suc j) rest → first_in t ≡ option_map suc (first_in rest) → SameFirst (suc j) rest → SameFirst j t
  first-later j t rest e g ih ps P is are = ih ps P (is ∙ e) are ∙ shifted j (first_in rest) ∙ ap (place_in j) (sym g)

  -- at an instance
  first-here : (j : ℕ) (t rest : Items) (s : Shell) (m : Made) → instances d b j t ≡ with_made (b ++ j ∷ []) s (option_and_then (component d) (component_of d (b ++ j ∷ []))) (instances d b (suc j) rest)
      → option_and_then (component d) (component_of d (b ++ j ∷ [])) ≡ Some m → first_in t ≡ (if bytes_eq s.name name then Some 0 else option_map suc (first_in rest)) → SameFirst (suc j) rest → SameFirst j t
  first-here j t rest s m e found g ih ps P is are =
      by ps (subst (AreParts d fs bound ps) (is ∙ e ∙ ap (λ o. with_made (b ++ j ∷ []) s o (instances d b (suc j) rest)) found) are)
    where
      by_test : (p : Part) (ps : List Part) → p.at ≡ b ++ j ∷ [] → AreParts d fs bound ps (instances d b (suc j) rest) → (test : Bool)
          → option_map (λ (p : Part). p.at) (if test then Some p else part_named name ps) ≡ place_in j (if test then Some 0 else option_map suc (first_in rest))
      by_test p ps at are true = let n : j ≡ j + 0 = omega arith in ap Some (at ∙ ap (λ k. b ++ k ∷ []) n)
      by_test p ps at are false = ih ps (instances d b (suc j) rest) refl are ∙ shifted j (first_in rest)

      by : (ps : List Part) → AreParts d fs bound ps (part (b ++ j ∷ []) s m.head m.parts (instances d b (suc j) rest)) → option_map (λ (p : Part). p.at) (part_named name ps) ≡ place_in j (first_in t)
      by [] are = absurd are
      by (p ∷ ps) are =
          ap (λ (z : Shell). option_map (λ (p : Part). p.at) (if bytes_eq z.name name then Some p else part_named name ps)) are.0.shell
          ∙ by_test p ps are.0.place are.1 (bytes_eq s.name name)
          ∙ ap (place_in j) (sym g)

  same-first : (t : Items) (j : ℕ) → Resolves d b j t → SameFirst j t
  same-first no_items j r = λ ps P is are. by ps (subst (AreParts d fs bound ps) is are)
    where
      by : (ps : List Part) → AreParts d fs bound ps no_parts → option_map (λ (p : Part). p.at) (part_named name ps) ≡ None
      by [] are = refl
      by (p ∷ ps) are = absurd are
  same-first (plain (named s n) rest) j r =
      let m = resolves-first d b j (plain (named s n) rest) s (Named n) refl r in
      first-here j (plain (named s n) rest) rest s m.0 refl m.1 refl (same-first rest (suc j) (resolves-next d b j (plain (named s n) rest) rest (λ i. refl) r))
  same-first (plain (own p v) rest) j r = first-later j (plain (own p v) rest) rest refl refl (same-first rest (suc j) (resolves-next d b j (plain (own p v) rest) rest (λ i. refl) r))
  same-first (plain (default p v) rest) j r = first-later j (plain (default p v) rest) rest refl refl (same-first rest (suc j) (resolves-next d b j (plain (default p v) rest) rest (λ i. refl) r))
  same-first (plain (dynamic n p v) rest) j r = first-later j (plain (dynamic n p v) rest) rest refl refl (same-first rest (suc j) (resolves-next d b j (plain (dynamic n p v) rest) rest (λ i. refl) r))
  same-first (holder (define n k) body rest) j r = first-later j (holder (define n k) body rest) rest refl refl (same-first rest (suc j) (resolves-next d b j (holder (define n k) body rest) rest (λ i. refl) r))
  same-first (holder (anonymous s k) body rest) j r =
      let m = resolves-first d b j (holder (anonymous s k) body rest) s (Anonymous (record { kind = k; body = body })) refl r in
      first-here j (holder (anonymous s k) body rest) rest s m.0 refl m.1 refl (same-first rest (suc j) (resolves-next d b j (holder (anonymous s k) body rest) rest (λ i. refl) r))

-- ---- A target passes the same instances.

-- an instance among these leads to what is kept of the component that the search finds
record IsOne (d : Items) (fs : List Finished) (p : Part) : Type 0 where
  finished : Finished
  there : slice_get fs p.component ≡ Some finished
  head : Head
  inside : Parts
  is : component_of d p.at ≡ Some head.at
  made : component d head.at ≡ Some (record { head = head; parts = inside })
  parts : AreParts d fs p.component finished.parts.items inside

one-named : (d : Items) (fs : List Finished) (b name : List ℕ) (bound : ℕ) (ps : List Part) (P : Parts) (p : Part) → AreParts d fs bound ps P → ArePartsFound d b P → part_named name ps ≡ Some p → IsOne d fs p
one-named d fs b name bound [] no_parts p are found e = cc
one-named d fs b name bound (q ∷ ps) no_parts p are found e = absurd are
one-named d fs b name bound [] (part at s h inside rest) p are found e = absurd are
one-named d fs b name bound (q ∷ ps) (part at s h inside rest) p are found e = by (one-named d fs b name bound ps rest p are.1 found.2) (bytes_eq q.shell.name name) e
  where
    here : IsOne d fs q
    here = record {
      finished = are.0.finished;
      there = are.0.there;
      head = h;
      inside = inside;
      is = ap (component_of d) are.0.place ∙ found.0.is;
      made = found.0.component;
      parts = are.0.inside;
    }

    by : (part_named name ps ≡ Some p → IsOne d fs p) → (test : Bool) → (if test then Some q else part_named name ps) ≡ Some p → IsOne d fs p
    by later true g = let same : q ≡ p = cc in subst (IsOne d fs) same here
    by later false g = later g

same-instance : (d : Items) (b : List ℕ) (n m : ℕ) (name : List ℕ) (names : List (List ℕ)) → instance_in d b n name ≡ instance_in d b m name → passes d b n (name ∷ names) ≡ passes d b m (name ∷ names)
same-instance d b n m name [] e = ap (option_map (λ a. a ∷ [])) e
same-instance d b n m name (next ∷ names) e = ap (option_and_then (λ a. option_map (λ more. a ∷ more) (option_and_then (λ c. passes d c (items_in c d) (next ∷ names)) (component_of d a)))) e

no-instance : (d : Items) (b : List ℕ) (n : ℕ) (name : List ℕ) (names : List (List ℕ)) → instance_in d b n name ≡ None → passes d b n (name ∷ names) ≡ None
no-instance d b n name [] e = ap (option_map (λ a. a ∷ [])) e
no-instance d b n name (next ∷ names) e = ap (option_and_then (λ a. option_map (λ more. a ∷ more) (option_and_then (λ c. passes d c (items_in c d) (next ∷ names)) (component_of d a)))) e

module _ (d : Items) (fs : List Finished) (none : fault_of d ≡ None) where
  -- the instances of one component
  module _ (b : List ℕ) (c : Made) (bound : ℕ) (ps : List Part) (made : component d b ≡ Some c) (are : AreParts d fs bound ps c.parts) where
    abbrev body : Items
    body = c.head.body

    abbrev first : List ℕ → Option ℕ
    first name = instance_before name (length (list_of body)) body

    instance-at : (n : ℕ) (name : List ℕ) → instance_in d b n name ≡ option_map (λ k. b ++ k ∷ []) (instance_before name n body)
    instance-at n name = ap (λ o. option_map (λ k. b ++ k ∷ []) (option_and_then (instance_before name n) o)) (as_found d b c made).body

    count-is : items_in b d ≡ length (list_of body)
    count-is = ap (λ (o : Option Items). elim o [ None ↦ 0 | Some t ↦ length (list_of t) ]) (as_found d b c made).body

    from-zero : (o : Option ℕ) → option_map (λ k. b ++ (0 + k) ∷ []) o ≡ option_map (λ k. b ++ k ∷ []) o
    from-zero None = refl
    from-zero (Some k) = let n : 0 + k ≡ k = omega arith in ap (λ i. Some (b ++ i ∷ [])) n

    first-is : (name : List ℕ) → option_map (λ (p : Part). p.at) (part_named name ps) ≡ option_map (λ k. b ++ k ∷ []) (first name)
    first-is name = same-first d fs b name bound body 0 (resolved d b c none made) ps c.parts (as_found d b c made).parts are ∙ from-zero (first name)

    instance-is : (name : List ℕ) → option_map (λ (p : Part). p.at) (part_named name ps) ≡ instance_in d b (items_in b d) name
    instance-is name = first-is name ∙ sym (instance-at (length (list_of body)) name) ∙ ap (λ n. instance_in d b n name) (sym count-is)

    limit-is : (n : ℕ) (name : List ℕ) → instance_in d b n name ≡ option_map (λ k. b ++ k ∷ []) (limited n (first name))
    limit-is n name = instance-at n name ∙ ap (option_map (λ k. b ++ k ∷ [])) (before-limit name n body)

    -- a target of item n passes what it would pass from the end of the body, if its first instance stands before
    target-first : (n : ℕ) (name : List ℕ) (names : List (List ℕ)) → kept_passes fs ps (name ∷ names) ≡ passes d b (items_in b d) (name ∷ names) → kept_target fs ps n (name ∷ names) ≡ passes d b n (name ∷ names)
    target-first n name names all = by (part_named name ps) (first name) (instance-is name) (first-is name) (limit-is n name)
      where
        by_test : (k : ℕ) (test : Bool) → instance_in d b (items_in b d) name ≡ Some (b ++ k ∷ []) → instance_in d b n name ≡ option_map (λ k. b ++ k ∷ []) (if test then Some k else None)
            → (if test then kept_passes fs ps (name ∷ names) else None) ≡ passes d b n (name ∷ names)
        by_test k true e g = all ∙ same-instance d b (items_in b d) n name names (e ∙ sym g)
        by_test k false e g = sym (no-instance d b n name names g)

        by : (o : Option Part) (first : Option ℕ) → option_map (λ (p : Part). p.at) o ≡ instance_in d b (items_in b d) name → option_map (λ (p : Part). p.at) o ≡ option_map (λ k. b ++ k ∷ []) first
            → instance_in d b n name ≡ option_map (λ k. b ++ k ∷ []) (limited n first) → (if is_before n o then kept_passes fs ps (name ∷ names) else None) ≡ passes d b n (name ∷ names)
        by None None h e g = sym (no-instance d b n name names g)
        by None (Some k) h e g = cc
        by (Some p) None h e g = cc
        by (Some p) (Some k) h e g =
            let at : p.at ≡ b ++ k ∷ [] = cc in
            let number : number_of p.at ≡ k = ap number_of at ∙ number-place b k in
            ap (λ i. if nat_lt i n then kept_passes fs ps (name ∷ names) else None) number ∙ by_test k (nat_lt k n) (sym h ∙ e) g

  -- the way from a component on
  kept-same : (names : List (List ℕ)) (b : List ℕ) (c : Made) (bound : ℕ) (ps : List Part) → component d b ≡ Some c → AreParts d fs bound ps c.parts → kept_passes fs ps names ≡ passes d b (items_in b d) names
  kept-same [] b c bound ps made are = refl
  kept-same (name ∷ []) b c bound ps made are = by (part_named name ps) ∙ ap (option_map (λ a. a ∷ [])) (instance-is b c bound ps made are name)
    where
      by : (o : Option Part) → option_map (λ (p : Part). p.at ∷ []) o ≡ option_map (λ a. a ∷ []) (option_map (λ (p : Part). p.at) o)
      by None = refl
      by (Some p) = refl
  kept-same (name ∷ next ∷ names) b c bound ps made are =
      by (λ a k q. kept-same (next ∷ names) a k q) (part_named name ps) refl (instance-is b c bound ps made are name)
    where
      by : ((a : List ℕ) (k : Made) (q : ℕ) (qs : List Part) → component d a ≡ Some k → AreParts d fs q qs k.parts → kept_passes fs qs (next ∷ names) ≡ passes d a (items_in a d) (next ∷ names))
          → (o : Option Part) → part_named name ps ≡ o → option_map (λ (p : Part). p.at) o ≡ instance_in d b (items_in b d) name
          → option_and_then (λ (p : Part). option_map (λ more. p.at ∷ more) (option_and_then (λ (f : Finished). kept_passes fs f.parts.items (next ∷ names)) (slice_get fs p.component))) o ≡ passes d b (items_in b d) (name ∷ next ∷ names)
      by ih None e h = sym (no-instance d b (items_in b d) name (next ∷ names) (sym h))
      by ih (Some p) e h =
          let one = one-named d fs b name bound ps c.parts p are (parts-found d b c made) e in
          ap (λ o. option_map (λ more. p.at ∷ more) (option_and_then (λ (f : Finished). kept_passes fs f.parts.items (next ∷ names)) o)) one.there
          ∙ ap (option_map (λ more. p.at ∷ more)) (ih one.head.at (record { head = one.head; parts = one.inside }) p.component one.finished.parts.items one.made one.parts)
          ∙ ap (λ o. option_map (λ more. p.at ∷ more) (option_and_then (λ a. passes d a (items_in a d) (next ∷ names)) o)) (sym one.is)
          ∙ ap (option_and_then (λ a. option_map (λ more. a ∷ more) (option_and_then (λ c. passes d c (items_in c d) (next ∷ names)) (component_of d a)))) h

  pub target-same : (b : List ℕ) (c : Made) (bound : ℕ) (ps : List Part) → component d b ≡ Some c → AreParts d fs bound ps c.parts → (n : ℕ) (names : List (List ℕ)) → kept_target fs ps n names ≡ passes d b n names
  target-same b c bound ps made are n [] = refl
  target-same b c bound ps made are n (name ∷ names) = target-first b c bound ps made are n name names (kept-same (name ∷ names) b c bound ps made are)
