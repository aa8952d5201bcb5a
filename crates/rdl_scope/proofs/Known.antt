-- What the walk keeps of the items of a body, one item more.
use Rattle.std.proofs.Common.{◌≡◌, ℕ, suc, ◌+◌, ◌<◌, ◌≤◌, Bool, true, false, cond, List, [], ◌∷◌, ◌++◌, length, Some, None, Option, refl, ap, sym, ◌∙◌, arith, option_map, length-append}
use Rattle.std.specs.Prelude.{◌||◌, option_and_then, slice_get, bytes_eq}
use Rattle.std.specs.Option.{option_or, is_some}
use Rattle.std.specs.Cmp.Lexicographic.{pointwise}
use Rattle.std.proofs.lemmas.List.{take-append-le, take_all}
use Rattle.rdl_tree.specs.ItemAt.{item_at}
use Rattle.rdl_tree.specs.Items.{Items}
use Rattle.rdl_tree.specs.View.{list_of}
use Rattle.rdl_tree.specs.Address.{body_at}
use Rattle.rdl_tree.specs.Component.{own_component}
use Rattle.rdl_tree.specs.declared.shell.Kind.{Kind}
use Rattle.rdl_tree.specs.declared.shell.Shell.{Shell}
use Rattle.rdl_tree.specs.declared.value.Value.{Value}
use Rattle.rdl_tree.specs.declared.description.Component.{Component}
use Rattle.rdl_tree.specs.declared.description.Of.{Of}
use Rattle.rdl_tree.specs.declared.description.Of.TheVariants.{Named, Anonymous}
use Rattle.rdl_tree.specs.declared.description.Item.{Item}
use Rattle.rdl_tree.specs.declared.description.Item.TheVariants.{Define, Instance, Own, Default, Dynamic}
use Rattle.rdl_scope.specs.Types.{component_of}
use Rattle.rdl_scope.specs.Target.{instance_before}
use Rattle.rdl_scope.specs.Value.{own_before, last_default}
use Rattle.rdl_scope.specs.Walk.{found, is_instance, owned_by, defaulted_by}
use Rattle.rdl_scope.specs.ItemFaults.{kind_at, instance_kind, instance_fault}
use Rattle.rdl_scope.specs.Keys.{Holds, has_key, key_before}
use Rattle.rdl_scope.specs.declared.keys.Keys.{Keys}
use Rattle.rdl_scope.specs.declared.names.Names.{Names}
use Rattle.rdl_scope.specs.declared.places.VisibleItem.{VisibleItem}
use Rattle.rdl_scope.specs.declared.places.Places.{Places}
use Rattle.rdl_scope.specs.declared.passed.Passed.{Passed}
use Rattle.rdl_scope.specs.Scopes.{number_under, place_under, along_place, place_put, place_held, kind_held, Knows}
use Rattle.rdl_scope.proofs.Searches.{along, type_at-found}
use Rattle.rdl_scope.proofs.InstanceKinds.{found-within, component-named, component-anonymous}
use Rattle.rdl_scope.proofs.Instances.{instance-suc}
use Rattle.rdl_scope.proofs.ValueSearches.{own-suc, default-suc}
use Rattle.rdl_scope.proofs.Repeats.{key-suc}
use Rattle.rdl_scope.proofs.TargetKinds.{component-same, component-next, is-known}

either : {X : Type 0} (a b : Option X) → is_some (option_or a b) ≡ is_some b || is_some a
either None None = refl
either None (Some y) = refl
either (Some x) None = refl
either (Some x) (Some y) = refl

or-either : {X : Type 0} (a b : Option X) → is_some (option_or a b) ≡ is_some a || is_some b
or-either None b = refl
or-either (Some x) b = refl

some-cond : {X : Type 0} (t : Bool) (x : X) (o : Option X) → is_some (cond t (Some x) o) ≡ t || is_some o
some-cond true x o = refl
some-cond false x o = refl

some-only : {X : Type 0} (t : Bool) (x : X) → is_some (cond t (Some x) None) ≡ t
some-only true x = refl
some-only false x = refl

-- an instance of the name is among the items up to this one
instances-next : (q : List ℕ) (n : ℕ) (body : Items) (x : Item) → slice_get (list_of body) n ≡ Some x → is_some (instance_before q (n + 1) body) ≡ is_instance q (Some x) || is_some (instance_before q n body)
instances-next q n body x got =
    let j : n + 1 ≡ suc n = omega arith in
    ap (λ m. is_some (instance_before q m body)) j ∙ ap is_some (instance-suc q n body)
    ∙ ap (λ o. is_some (option_or (instance_before q n body) (cond (is_instance q o) (Some n) None))) got
    ∙ either (instance_before q n body) (cond (is_instance q (Some x)) (Some n) None)
    ∙ ap (λ t. t || is_some (instance_before q n body)) (some-only (is_instance q (Some x)) n)

-- an own assignment, and a default
owns-next : (q : List ℕ) (n : ℕ) (body : Items) (x : Item) → slice_get (list_of body) n ≡ Some x → is_some (own_before q (n + 1) body) ≡ is_some (owned_by q (Some x)) || is_some (own_before q n body)
owns-next q n body x got =
    let j : n + 1 ≡ suc n = omega arith in
    ap (λ m. is_some (own_before q m body)) j ∙ ap is_some (own-suc q n body) ∙ ap (λ o. is_some (option_or (own_before q n body) (owned_by q o))) got
    ∙ either (own_before q n body) (owned_by q (Some x))

defaults-next : (q : List ℕ) (n : ℕ) (body : Items) (x : Item) → slice_get (list_of body) n ≡ Some x → is_some (last_default q (n + 1) body) ≡ is_some (defaulted_by q (Some x)) || is_some (last_default q n body)
defaults-next q n body x got =
    let j : n + 1 ≡ suc n = omega arith in
    ap (λ m. is_some (last_default q m body)) j ∙ ap is_some (default-suc q n body) ∙ ap (λ o. is_some (option_or (defaulted_by q o) (last_default q n body))) got
    ∙ or-either (defaulted_by q (Some x)) (last_default q n body)

keys-next : (key : List (List ℕ)) (n : ℕ) (body : Items) (x : Item) → slice_get (list_of body) n ≡ Some x → key_before key (n + 1) (list_of body) ≡ has_key key x || key_before key n (list_of body)
keys-next key n body x got =
    let j : n + 1 ≡ suc n = omega arith in
    ap (λ m. key_before key m (list_of body)) j ∙ key-suc key n (list_of body) x got

-- the name, once it is noted
noted : (q name : List ℕ) (n : ℕ) (old new : Names) → number_under new q ≡ cond (bytes_eq name q) (Some n) (number_under old q) → is_some (number_under new q) ≡ bytes_eq name q || is_some (number_under old q)
noted q name n old new h = ap is_some h ∙ some-cond (bytes_eq name q) n (number_under old q)

pub know-define : (d : Items) (b : List ℕ) (body : Items) (n : ℕ) (p : Passed) (m : List ℕ) (c : Component) → body_at b d ≡ Some body → slice_get (list_of body) n ≡ Some (Define m c) → Knows d b body n p → Knows d b body (n + 1) p
know-define d b body n p m c e got k =
    record {
      places = λ q. k.places q ∙ component-same d b body n (Define m c) q e got refl;
      instances = λ q. k.instances q ∙ sym (instances-next q n body (Define m c) got);
      owns = λ q. k.owns q ∙ sym (owns-next q n body (Define m c) got);
      defaults = λ q. k.defaults q ∙ sym (defaults-next q n body (Define m c) got);
      dynamics = λ q. k.dynamics q ∙ sym (keys-next q n body (Define m c) got);
    }

pub know-own : (d : Items) (b : List ℕ) (body : Items) (n : ℕ) (p : Passed) (name : List ℕ) (v : Value) (owns : Names) → body_at b d ≡ Some body → slice_get (list_of body) n ≡ Some (Own name v)
    → ((q : List ℕ) → number_under owns q ≡ cond (bytes_eq name q) (Some n) (number_under p.owns q)) → Knows d b body n p → Knows d b body (n + 1) (record p { owns = owns })
know-own d b body n p name v owns e got h k =
    record {
      places = λ q. k.places q ∙ component-same d b body n (Own name v) q e got refl;
      instances = λ q. k.instances q ∙ sym (instances-next q n body (Own name v) got);
      owns = λ q.
          noted q name n p.owns owns (h q) ∙ ap (λ t. bytes_eq name q || t) (k.owns q) ∙ ap (λ t. t || is_some (own_before q n body)) (sym (some-only (bytes_eq name q) v))
          ∙ sym (owns-next q n body (Own name v) got);
      defaults = λ q. k.defaults q ∙ sym (defaults-next q n body (Own name v) got);
      dynamics = λ q. k.dynamics q ∙ sym (keys-next q n body (Own name v) got);
    }

pub know-default : (d : Items) (b : List ℕ) (body : Items) (n : ℕ) (p : Passed) (name : List ℕ) (v : Value) (defaults : Names) → body_at b d ≡ Some body → slice_get (list_of body) n ≡ Some (Default name v)
    → ((q : List ℕ) → number_under defaults q ≡ cond (bytes_eq name q) (Some n) (number_under p.defaults q)) → Knows d b body n p → Knows d b body (n + 1) (record p { defaults = defaults })
know-default d b body n p name v defaults e got h k =
    record {
      places = λ q. k.places q ∙ component-same d b body n (Default name v) q e got refl;
      instances = λ q. k.instances q ∙ sym (instances-next q n body (Default name v) got);
      owns = λ q. k.owns q ∙ sym (owns-next q n body (Default name v) got);
      defaults = λ q.
          noted q name n p.defaults defaults (h q) ∙ ap (λ t. bytes_eq name q || t) (k.defaults q) ∙ ap (λ t. t || is_some (last_default q n body)) (sym (some-only (bytes_eq name q) v))
          ∙ sym (defaults-next q n body (Default name v) got);
      dynamics = λ q. k.dynamics q ∙ sym (keys-next q n body (Default name v) got);
    }

pub know-dynamic : (d : Items) (b : List ℕ) (body : Items) (n : ℕ) (p : Passed) (t : List (List ℕ)) (name : List ℕ) (v : Value) (dynamics : Keys) → body_at b d ≡ Some body → slice_get (list_of body) n ≡ Some (Dynamic t name v)
    → Holds dynamics (λ key. pointwise bytes_eq (name ∷ t) key || key_before key n (list_of body)) → Knows d b body n p → Knows d b body (n + 1) (record p { dynamics = dynamics })
know-dynamic d b body n p t name v dynamics e got h k =
    record {
      places = λ q. k.places q ∙ component-same d b body n (Dynamic t name v) q e got refl;
      instances = λ q. k.instances q ∙ sym (instances-next q n body (Dynamic t name v) got);
      owns = λ q. k.owns q ∙ sym (owns-next q n body (Dynamic t name v) got);
      defaults = λ q. k.defaults q ∙ sym (defaults-next q n body (Dynamic t name v) got);
      dynamics = λ q. h q ∙ sym (keys-next q n body (Dynamic t name v) got);
    }

-- the place of an instance's component
within-body : (b : List ℕ) (n : ℕ) (o : Option (ℕ × ℕ)) → ((r : ℕ × ℕ) → o ≡ Some r → r.0 < length (b ++ n ∷ []))
    → option_map (along_place b) (option_map (λ p. record { depth = p.0; number = p.1 }) o) ≡ option_map (along (b ++ n ∷ [])) o
within-body b n None h = refl
within-body b n (Some r) h =
    let longer : length (b ++ n ∷ []) ≡ length b + 1 = simp length-append refl in
    let inside : r.0 ≤ length b = omega (arith, h r refl) in
    ap (λ xs. Some (xs ++ r.1 ∷ [])) (sym (take-append-le r.0 b (n ∷ []) inside))

pub place-component : (d : Items) (b : List ℕ) (n : ℕ) (s : Shell) (o : Of) (f : List ℕ → Option (ℕ × ℕ)) → item_at (b ++ n ∷ []) d ≡ Some (Instance s o) → ((q : List ℕ) → f q ≡ found (b ++ n ∷ []) d q)
    → option_map (along_place b) (place_held b n o f) ≡ component_of d (b ++ n ∷ [])
place-component d b n s (Named t) f e scope =
    ap (λ z. option_map (along_place b) (option_map (λ p. record { depth = p.0; number = p.1 }) z)) (scope t)
    ∙ within-body b n (found (b ++ n ∷ []) d t) (found-within (b ++ n ∷ []) d t)
    ∙ sym (type_at-found (b ++ n ∷ []) d t)
    ∙ sym (component-named d (b ++ n ∷ []) s t e)
place-component d b n s (Anonymous c) f e scope =
    let all : length b ≤ length b = omega arith in
    ap (λ xs. Some (xs ++ n ∷ [])) (take_all (length b) b all) ∙ sym (component-anonymous d (b ++ n ∷ []) s c e)

at-place : (d : Items) (b : List ℕ) (p : Option VisibleItem) → option_and_then (λ p. kind_at d (along_place b p)) p ≡ option_and_then (kind_at d) (option_map (along_place b) p)
at-place d b None = refl
at-place d b (Some p) = refl

-- and its kind
pub held-kind : (d : Items) (b : List ℕ) (n : ℕ) (s : Shell) (o : Of) (p : Option VisibleItem) → item_at (b ++ n ∷ []) d ≡ Some (Instance s o) → option_map (along_place b) p ≡ component_of d (b ++ n ∷ [])
    → kind_held d b o p ≡ instance_kind d (b ++ n ∷ [])
held-kind d b n s (Named t) p e h = at-place d b p ∙ ap (option_and_then (kind_at d)) h
held-kind d b n s (Anonymous c) p e h =
    sym (ap (option_and_then (kind_at d)) (component-anonymous d (b ++ n ∷ []) s c e) ∙ ap (λ x. option_map (λ (k : Component). k.kind) (option_and_then own_component x)) e)

-- and its fault
pub met-instance : (d : Items) (around : Option Kind) (b : List ℕ) (body : Items) (n : ℕ) (p : Passed) (s : Shell) (o : Of) (held : Option VisibleItem) (kind : Option Kind) (twice : Bool) → item_at (b ++ n ∷ []) d ≡ Some (Instance s o)
    → option_map (along_place b) held ≡ component_of d (b ++ n ∷ []) → kind ≡ kind_held d b o held → twice ≡ is_some (place_under p.places s.name) → Knows d b body n p
    → instance_fault around twice s kind ≡ instance_fault around (is_some (instance_before s.name n body)) s (instance_kind d (b ++ n ∷ []))
met-instance d around b body n p s o held kind twice e leads of before k =
    ap (λ t. instance_fault around t s kind) (before ∙ k.instances s.name) ∙ ap (instance_fault around (is_some (instance_before s.name n body)) s) (of ∙ held-kind d b n s o held e leads)

put-some : (q name : List ℕ) (p : VisibleItem) (b : List ℕ) (old : Option VisibleItem) → option_map (along_place b) (place_put name q (Some p) old) ≡ cond (bytes_eq name q) (Some (along_place b p)) (option_map (along_place b) old)
put-some q name p b old =
    elim (bytes_eq name q) as (λ t. option_map (along_place b) (cond t (Some p) old) ≡ cond t (Some (along_place b p)) (option_map (along_place b) old)) [ true ↦ refl | false ↦ refl ]

pub know-instance : (d : Items) (around : Option Kind) (b : List ℕ) (body : Items) (n : ℕ) (p : Passed) (s : Shell) (o : Of) (held : Option VisibleItem) (places : Places) → body_at b d ≡ Some body → slice_get (list_of body) n ≡ Some (Instance s o)
    → option_map (along_place b) held ≡ component_of d (b ++ n ∷ [])
    → instance_fault around (is_some (instance_before s.name n body)) s (instance_kind d (b ++ n ∷ [])) ≡ None
    → ((q : List ℕ) → place_under places q ≡ place_put s.name q held (place_under p.places q)) → Knows d b body n p → Knows d b body (n + 1) (record p { places = places })
know-instance d around b body n p s o None places e got at fine h k =
    absurd (is-known d around (b ++ n ∷ []) (is_some (instance_before s.name n body)) s None fine at refl)
know-instance d around b body n p s o (Some c) places e got at fine h k =
    record {
      places = λ q.
          ap (option_map (along_place b)) (h q) ∙ put-some q s.name c b (place_under p.places q) ∙ ap (cond (bytes_eq s.name q) (Some (along_place b c))) (k.places q)
          ∙ component-next d around b body n s o q (along_place b c) e got fine at;
      instances = λ q.
          ap is_some (h q) ∙ some-cond (bytes_eq s.name q) c (place_under p.places q) ∙ ap (λ t. bytes_eq s.name q || t) (k.instances q) ∙ sym (instances-next q n body (Instance s o) got);
      owns = λ q. k.owns q ∙ sym (owns-next q n body (Instance s o) got);
      defaults = λ q. k.defaults q ∙ sym (defaults-next q n body (Instance s o) got);
      dynamics = λ q. k.dynamics q ∙ sym (keys-next q n body (Instance s o) got);
    }
