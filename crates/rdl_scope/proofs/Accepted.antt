-- Where a description has no fault, no item of it has one.
use Rattle.std.proofs.Common.{◌≡◌, ℕ, zero, suc, ◌+◌, Bool, true, false, List, [], ◌∷◌, ◌++◌, Some, None, Option, refl, ap, sym, subst, ◌∙◌, arith, append_assoc}
use Rattle.std.specs.Prelude.{option_and_then, slice_get, not}
use Rattle.std.specs.Option.{option_or, is_some}
use Rattle.rdl_tree.specs.ItemAt.{item_at}
use Rattle.rdl_tree.specs.Items.{Items, no_items, plain, holder, Plain, named, own, default, dynamic, Holder, define, anonymous}
use Rattle.rdl_tree.specs.View.{list_of, holder_item, plain_item}
use Rattle.rdl_tree.specs.Address.{inner}
use Rattle.rdl_tree.specs.Component.{own_component, holder_kind}
use Rattle.rdl_tree.specs.declared.shell.Kind.{Kind}
use Rattle.rdl_tree.specs.declared.shell.Shell.{Shell}
use Rattle.rdl_tree.specs.declared.fault.Fault.{Fault}
use Rattle.rdl_tree.specs.declared.fault.FaultKind.{FaultKind}
use Rattle.rdl_tree.specs.declared.fault.FaultKind.TheVariants.{NameTwice, KindNotAllowed, PartNotAllowed, OutOfRange, DescriptionTooLarge}
use Rattle.rdl_tree.specs.declared.description.Component.{Component}
use Rattle.rdl_tree.specs.declared.description.Item.{Item}
use Rattle.rdl_tree.specs.declared.description.Item.TheVariants.{Instance}
use Rattle.rdl_tree.specs.declared.description.Of.{Of}
use Rattle.rdl_scope.specs.Types.{component_at}
use Rattle.rdl_scope.specs.Target.{instance_before}
use Rattle.rdl_scope.specs.ItemFaults.{may_instantiate, wrong_part, wrong_number, first_of, instance_kind, instance_fault, item_fault, fault_at, first_fault, inside_fault, is_too_large, fault_of}

pub neither : {X : Type 0} (a b : Option X) → option_or a b ≡ None → (a ≡ None) × (b ≡ None)
neither None b e = (refl, e)
neither (Some x) b e = cc

pub no_kind : (a : List ℕ) (k : Option FaultKind) → fault_at a k ≡ None → k ≡ None
no_kind a None e = refl
no_kind a (Some k) e = cc

-- item i of those from number n on, and what is inside it
record IsClear (d : Items) (around : Option Kind) (b : List ℕ) (body : Items) (n : ℕ) (x : Item) : Type 0 where
  here : item_fault d around b body n x ≡ None
  inside : inside_fault d (b ++ n ∷ []) (own_component x) ≡ None

clear-plain : (d : Items) (around : Option Kind) (b : List ℕ) (body : Items) (n : ℕ) (p : Plain) → item_fault d around b body n (plain_item p) ≡ None → IsClear d around b body n (plain_item p)
clear-plain d around b body n (named s t) e = record { here = e; inside = refl }
clear-plain d around b body n (own p v) e = record { here = e; inside = refl }
clear-plain d around b body n (default p v) e = record { here = e; inside = refl }
clear-plain d around b body n (dynamic t p v) e = record { here = e; inside = refl }

clear-holder : (d : Items) (around : Option Kind) (b : List ℕ) (body : Items) (n : ℕ) (h : Holder) (inside : Items) → item_fault d around b body n (holder_item h inside) ≡ None
    → first_fault d (Some (holder_kind h)) (b ++ n ∷ []) inside 0 inside ≡ None → IsClear d around b body n (holder_item h inside)
clear-holder d around b body n (define m k) inside e g = record { here = e; inside = g }
clear-holder d around b body n (anonymous s k) inside e g = record { here = e; inside = g }

is_clear : (d : Items) (around : Option Kind) (b : List ℕ) (body : Items) (n i : ℕ) (t : Items) (x : Item) → first_fault d around b body n t ≡ None → slice_get (list_of t) i ≡ Some x
    → IsClear d around b body (n + i) x
is_clear d around b body n i no_items x h e = cc
is_clear d around b body n zero (plain p rest) x h e =
    let same : plain_item p ≡ x = cc in
    let number : n ≡ n + 0 = omega arith in
    let clear = neither (fault_at (b ++ n ∷ []) (item_fault d around b body n (plain_item p))) (first_fault d around b body (suc n) rest) h in
    subst (λ y. IsClear d around b body (n + 0) y) same (subst (λ k. IsClear d around b body k (plain_item p)) number (clear-plain d around b body n p (no_kind (b ++ n ∷ []) (item_fault d around b body n (plain_item p)) clear.0)))
is_clear d around b body n (suc i) (plain p rest) x h e =
    let number : suc n + i ≡ n + suc i = omega arith in
    let clear = neither (fault_at (b ++ n ∷ []) (item_fault d around b body n (plain_item p))) (first_fault d around b body (suc n) rest) h in
    subst (λ k. IsClear d around b body k x) number (is_clear d around b body (suc n) i rest x clear.1 e)
is_clear d around b body n zero (holder k inside rest) x h e =
    let same : holder_item k inside ≡ x = cc in
    let number : n ≡ n + 0 = omega arith in
    let clear =
    neither (fault_at (b ++ n ∷ []) (item_fault d around b body n (holder_item k inside)))
    (option_or (first_fault d (Some (holder_kind k)) (b ++ n ∷ []) inside 0 inside) (first_fault d around b body (suc n) rest)) h in
    let deeper = neither (first_fault d (Some (holder_kind k)) (b ++ n ∷ []) inside 0 inside) (first_fault d around b body (suc n) rest) clear.1 in
    subst (λ y. IsClear d around b body (n + 0) y) same
    (subst (λ j. IsClear d around b body j (holder_item k inside)) number
    (clear-holder d around b body n k inside (no_kind (b ++ n ∷ []) (item_fault d around b body n (holder_item k inside)) clear.0) deeper.0))
is_clear d around b body n (suc i) (holder k inside rest) x h e =
    let number : suc n + i ≡ n + suc i = omega arith in
    let clear =
    neither (fault_at (b ++ n ∷ []) (item_fault d around b body n (holder_item k inside)))
    (option_or (first_fault d (Some (holder_kind k)) (b ++ n ∷ []) inside 0 inside) (first_fault d around b body (suc n) rest)) h in
    let deeper = neither (first_fault d (Some (holder_kind k)) (b ++ n ∷ []) inside 0 inside) (first_fault d around b body (suc n) rest) clear.1 in
    subst (λ j. IsClear d around b body j x) number (is_clear d around b body (suc n) i rest x deeper.1 e)

-- the component of item i, of which the body is this
pub inner-own : (i : ℕ) (t s : Items) → inner i t ≡ Some s → (x : Item) × (k : Kind) × (slice_get (list_of t) i ≡ Some x) × (own_component x ≡ Some (record { kind = k; body = s }))
inner-own i no_items s e = cc
inner-own zero (plain p rest) s e = cc
inner-own (suc i) (plain p rest) s e = inner-own i rest s e
inner-own zero (holder (define n k) body rest) s e =
    let same : body ≡ s = cc in (holder_item (define n k) body, k, refl, ap (λ b. Some (record { kind = k; body = b })) same)
inner-own zero (holder (anonymous z k) body rest) s e =
    let same : body ≡ s = cc in (holder_item (anonymous z k) body, k, refl, ap (λ b. Some (record { kind = k; body = b })) same)
inner-own (suc i) (holder h body rest) s e = inner-own i rest s e

-- item k of a body that is clear holds a component that is clear
pub clear-component : (d : Items) (around : Option Kind) (b : List ℕ) (body : Items) (k : ℕ) (x : Item) (c : Component) → first_fault d around b body 0 body ≡ None → slice_get (list_of body) k ≡ Some x → own_component x ≡ Some c
    → inside_fault d (b ++ k ∷ []) (Some c) ≡ None
clear-component d around b body k x c h e o =
    let number : 0 + k ≡ k = omega arith in
    ap (λ j. inside_fault d (b ++ j ∷ []) (Some c)) (sym number) ∙ ap (inside_fault d (b ++ (0 + k) ∷ [])) (sym o) ∙ (is_clear d around b body 0 k body x h e).inside

pub clear-below : (d : Items) (a : List ℕ) (around : Option Kind) (b : List ℕ) (body : Items) (c : Component) → first_fault d around b body 0 body ≡ None → component_at body a ≡ Some c → inside_fault d (b ++ a) (Some c) ≡ None
clear-below d [] around b body c h e = cc
clear-below d (k ∷ []) around b body c h e = by (slice_get (list_of body) k) refl e
  where
    by : (o : Option Item) → slice_get (list_of body) k ≡ o → option_and_then own_component o ≡ Some c → inside_fault d (b ++ k ∷ []) (Some c) ≡ None
    by None g e = cc
    by (Some x) g e = clear-component d around b body k x c h g e
clear-below d (k ∷ j ∷ a) around b body c h e = into (λ kind t. clear-below d (j ∷ a) (Some kind) (b ++ k ∷ []) t c) (inner k body) refl e
  where
    into : ((kind : Kind) (t : Items) → first_fault d (Some kind) (b ++ k ∷ []) t 0 t ≡ None → component_at t (j ∷ a) ≡ Some c → inside_fault d ((b ++ k ∷ []) ++ j ∷ a) (Some c) ≡ None)
        → (o : Option Items) → inner k body ≡ o → option_and_then own_component (option_and_then (item_at (j ∷ a)) o) ≡ Some c → inside_fault d (b ++ k ∷ j ∷ a) (Some c) ≡ None
    into ih None g e = cc
    into ih (Some t) g e =
        let held = inner-own k body t g in
        let deeper = clear-component d around b body k held.0 (record { kind = held.1; body = t }) h held.2 held.3 in
        ap (λ z. inside_fault d z (Some c)) (sym (append_assoc b (k ∷ []) (j ∷ a))) ∙ ih held.1 t deeper e

pub no_first : (d : Items) → fault_of d ≡ None → first_fault d None [] d 0 d ≡ None
no_first d h = by (is_too_large d) h
  where
    by : (z : Bool) → ◌≡◌ {A = Option Fault} (elim z [ true ↦ Some (record { kind = DescriptionTooLarge; address = [] }) | false ↦ first_fault d None [] d 0 d ]) None → first_fault d None [] d 0 d ≡ None
    by true e = cc
    by false e = e

-- an item of a body that is clear has no fault
pub clear-item : (d : Items) (around : Option Kind) (b : List ℕ) (body : Items) (n : ℕ) (x : Item) → first_fault d around b body 0 body ≡ None → slice_get (list_of body) n ≡ Some x → item_fault d around b body n x ≡ None
clear-item d around b body n x h e =
    let number : 0 + n ≡ n = omega arith in
    ap (λ k. item_fault d around b body k x) (sym number) ∙ (is_clear d around b body 0 n body x h e).here

pub clear-root : (d : Items) (n : ℕ) (x : Item) → fault_of d ≡ None → slice_get (list_of d) n ≡ Some x → item_fault d None [] d n x ≡ None
clear-root d n x h e = clear-item d None [] d n x (no_first d h) e

pub clear-inside : (d : Items) (a : List ℕ) (c : Component) (n : ℕ) (x : Item) → fault_of d ≡ None → component_at d a ≡ Some c → slice_get (list_of c.body) n ≡ Some x → item_fault d (Some c.kind) a c.body n x ≡ None
clear-inside d a c n x h e g = clear-item d (Some c.kind) a c.body n x (clear-below d a None [] d c (no_first d h) e) g

-- the tests of a list without a fault
pub first_none : (t : Bool) (k : FaultKind) (fs : List (Bool × FaultKind)) → first_of ((t, k) ∷ fs) ≡ None → (t ≡ false) × (first_of fs ≡ None)
first_none true k fs e = cc
first_none false k fs e = (refl, e)

pub not_false : (t : Bool) → not t ≡ false → t ≡ true
not_false true e = refl
not_false false e = cc

allowed : (around : Option Kind) (twice : Bool) (s : Shell) (k : Kind) → instance_fault around twice s (Some k) ≡ None → may_instantiate around k ≡ true
unfolding instance_fault
allowed around twice s k e =
    let rest = first_none twice NameTwice ((not (may_instantiate around k), KindNotAllowed) ∷ (wrong_part k s, PartNotAllowed) ∷ (wrong_number k s, OutOfRange) ∷ []) e in
    let test = first_none (not (may_instantiate around k)) KindNotAllowed ((wrong_part k s, PartNotAllowed) ∷ (wrong_number k s, OutOfRange) ∷ []) rest.1 in
    not_false (may_instantiate around k) test.0

instance-clear : (d : Items) (around : Option Kind) (b : List ℕ) (body : Items) (n : ℕ) (s : Shell) (o : Of) → item_fault d around b body n (Instance s o) ≡ None
    → instance_fault around (is_some (instance_before s.name n body)) s (instance_kind d (b ++ n ∷ [])) ≡ None
unfolding item_fault
instance-clear d around b body n s o e = e

pub kinds-allowed : (d : Items) (a : List ℕ) (c : Component) (n : ℕ) (s : Shell) (o : Of) (k : Kind) → fault_of d ≡ None → component_at d a ≡ Some c → slice_get (list_of c.body) n ≡ Some (Instance s o)
    → instance_kind d (a ++ n ∷ []) ≡ Some k → may_instantiate (Some c.kind) k ≡ true
kinds-allowed d a c n s o k h e g i =
    allowed (Some c.kind) (is_some (instance_before s.name n c.body)) s k
    (ap (instance_fault (Some c.kind) (is_some (instance_before s.name n c.body)) s) (sym i) ∙ instance-clear d (Some c.kind) a c.body n s o (clear-inside d a c n (Instance s o) h e g))
