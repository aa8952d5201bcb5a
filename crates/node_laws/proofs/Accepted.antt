-- In a description without a fault each reference leads to a type, each instance stands where it may, and values are kept whole.
use Rattle.std.proofs.Common.{◌≡◌, ℕ, zero, suc, ◌+◌, true, false, List, [], ◌∷◌, ◌++◌, Option, Some, None, option_map, refl, sym, ap, subst, ◌∙◌, arith, append_assoc}
use Rattle.std.specs.Prelude.{Bool, option_and_then, slice_get, not}
use Rattle.std.specs.Option.{option_or, is_some}
use Rattle.std.proofs.lemmas.Bool.{false≢true}
use Rattle.rdl_tree.specs.Address.{inner}
use Rattle.rdl_tree.specs.Component.{holder_kind, own_component}
use Rattle.rdl_tree.specs.Depth.{depth}
use Rattle.rdl_tree.specs.ItemAt.{item_at}
use Rattle.rdl_tree.specs.Items.{Items, no_items, plain, holder, Plain, named, own, default, dynamic, Holder, define, anonymous}
use Rattle.rdl_tree.specs.View.{list_of, plain_item, holder_item}
use Rattle.rdl_tree.specs.declared.description.Component.{Component}
use Rattle.rdl_tree.specs.declared.description.Item.TheVariants.{Instance}
use Rattle.rdl_tree.specs.declared.description.Of.{Of}
use Rattle.rdl_tree.specs.declared.description.Of.TheVariants.{Named, Anonymous}
use Rattle.rdl_tree.specs.declared.fault.FaultKind.TheVariants.{NameTwice, KindNotAllowed, PartNotAllowed, OutOfRange}
use Rattle.rdl_tree.specs.declared.shell.Kind.{Kind}
use Rattle.rdl_tree.specs.declared.shell.Kind.TheVariants.{Addrmap, Regfile, Reg, Field}
use Rattle.rdl_tree.specs.declared.shell.Shell.{Shell}
use Rattle.rdl_scope.specs.Closed.{Made, Standing, lookup, head_at, parts, nothing, after_plain, after_holder, before, component_in, standing_at, closed, component}
use Rattle.rdl_scope.specs.ItemFaults.{may_define, may_instantiate, wrong_part, wrong_number, kind_at, instance_kind, define_fault, instance_fault, item_fault, fault_at, first_fault, fault_of}
use Rattle.rdl_scope.specs.Target.{instance_before}
use Rattle.rdl_scope.specs.Types.{last_definition, component_at, type_at}
use Rattle.rdl_scope.proofs.Accepted.{neither, no_kind, no_first, first_none, not_false}
use Rattle.rdl_scope.proofs.InstanceKinds.{component-named, component-anonymous}
use Rattle.rdl_scope.proofs.StandingBefore.{lookup-component}
use Rattle.rdl_seen.specs.Meaning.{defaults_of, stated_of, HasValues}
use Rattle.rdl_seen.specs.Node.{values_of}
use Rattle.rdl_seen.proofs.Whole.{values_are_stated, values_are_whole}

-- ---- What is known of each item.

-- a reference leads to a type, and doesn't stand in a field
pub record IsNamed (around : Option Kind) (e : Standing) (t : List ℕ) : Type 0 where
  pub made : Made
  pub there : lookup t e.types ≡ Some made
  pub holds : around ≡ Some Field → ⊥

abbrev pub PlainAccepted : Option Kind → Standing → Plain → Type 0
PlainAccepted around e (named s t) = IsNamed around e t
PlainAccepted around e (own p x) = Unit {0}
PlainAccepted around e (default p x) = Unit {0}
PlainAccepted around e (dynamic t p x) = Unit {0}

abbrev pub MayStand : Option Kind → Holder → Type 0
MayStand around (define n k) = may_define around k ≡ true
MayStand around (anonymous s k) = may_instantiate around k ≡ true

-- a definition or an instance stands where it may, and the values of a component are what is stated of it, and whole
pub record HolderAccepted (around : Option Kind) (e : Standing) (at : List ℕ) (h : Holder) (body : Items) : Type 0 where
  pub stands : MayStand around h
  pub stated : values_of (holder_kind h) (defaults_of e.defaults) body ≡ stated_of (head_at at (holder_kind h) body e)
  pub whole : HasValues (head_at at (holder_kind h) body e) (values_of (holder_kind h) (defaults_of e.defaults) body)

-- the items from number n on of the body at b, in a component of this kind or in the root
abbrev pub AreAccepted : Option Kind → Standing → List ℕ → ℕ → Items → Type 0
AreAccepted around e b n no_items = Unit {0}
AreAccepted around e b n (plain p rest) = PlainAccepted around e p × AreAccepted around (after_plain p e) b (suc n) rest
AreAccepted around e b n (holder h body rest) =
    HolderAccepted around e (b ++ n ∷ []) h body
    × AreAccepted (Some (holder_kind h)) e (b ++ n ∷ []) 0 body
    × AreAccepted around (after_holder h (b ++ n ∷ []) body (parts e (b ++ n ∷ []) 0 body) e) b (suc n) rest

-- nothing stands in a field
fields-define-none : (k : Kind) → may_define (Some Field) k ≡ false
fields-define-none Addrmap = refl
fields-define-none Regfile = refl
fields-define-none Reg = refl
fields-define-none Field = refl

fields-hold-none : (k : Kind) → may_instantiate (Some Field) k ≡ false
fields-hold-none Addrmap = refl
fields-hold-none Regfile = refl
fields-hold-none Reg = refl
fields-hold-none Field = refl

pub not-in-field : (around : Option Kind) (k : Kind) → may_instantiate around k ≡ true → around ≡ Some Field → ⊥
not-in-field around k may is = false≢true (sym (fields-hold-none k) ∙ ap (λ o. may_instantiate o k) (sym is) ∙ may)

pub stand-in-field : (h : Holder) → MayStand (Some Field) h → ⊥
stand-in-field (define n k) may = false≢true (sym (fields-define-none k) ∙ may)
stand-in-field (anonymous s k) may = false≢true (sym (fields-hold-none k) ∙ may)

pub fields-hold-nothing : (i : ℕ) (e : Standing) (b : List ℕ) (n : ℕ) (t inside : Items) → AreAccepted (Some Field) e b n t → inner i t ≡ Some inside → ⊥
fields-hold-nothing i e b n no_items inside h is = absurd cc
fields-hold-nothing zero e b n (plain p rest) inside h is = absurd cc
fields-hold-nothing (suc i) e b n (plain p rest) inside h is = fields-hold-nothing i (after_plain p e) b (suc n) rest inside h.1 is
fields-hold-nothing zero e b n (holder k body rest) inside h is =
    let first : HolderAccepted (Some Field) e (b ++ n ∷ []) k body = h.0 in stand-in-field k first.stands
fields-hold-nothing (suc i) e b n (holder k body rest) inside h is =
    fields-hold-nothing i (after_holder k (b ++ n ∷ []) body (parts e (b ++ n ∷ []) 0 body) e) b (suc n) rest inside h.2 is

pub fields-are-flat : (e : Standing) (b : List ℕ) (n : ℕ) (t : Items) → AreAccepted (Some Field) e b n t → depth t ≡ 0
fields-are-flat e b n no_items h = refl
fields-are-flat e b n (plain p rest) h = fields-are-flat (after_plain p e) b (suc n) rest h.1
fields-are-flat e b n (holder k body rest) h = let first : HolderAccepted (Some Field) e (b ++ n ∷ []) k body = h.0 in absurd (stand-in-field k first.stands)

-- a field stands in a register
pub field-in-register : (around : Option Kind) → may_instantiate around Field ≡ true → around ≡ Some Reg
field-in-register None may = absurd cc
field-in-register (Some Addrmap) may = absurd cc
field-in-register (Some Regfile) may = absurd cc
field-in-register (Some Reg) may = refl
field-in-register (Some Field) may = absurd cc

-- ---- What the items of a body say of the description.

abbrev pub standing_from : Standing → List ℕ → ℕ → ℕ → List ℕ → Items → Option Standing
standing_from e b n i [] t = Some (before i e b n t)
standing_from e b n i (j ∷ c) t = option_and_then (standing_at (before i e b n t) (b ++ (n + i) ∷ []) (j ∷ c)) (inner i t)

abbrev pub closed_from : Standing → List ℕ → ℕ → ℕ → List ℕ → Items → Option Made
closed_from e b n i [] t = component_in i e b n t
closed_from e b n i (j ∷ c) t = option_and_then (closed (before i e b n t) (b ++ (n + i) ∷ []) (j ∷ c)) (inner i t)

-- the items of the body at b from number n on are t, and e stands before them
pub record Lies (d : Items) (b : List ℕ) (n : ℕ) (t : Items) (e : Standing) : Type 0 where
  pub standing : (i : ℕ) (c : List ℕ) → standing_at nothing [] (b ++ (n + i) ∷ c) d ≡ standing_from e b n i c t
  pub holds : (i : ℕ) (c : List ℕ) → component d (b ++ (n + i) ∷ c) ≡ closed_from e b n i c t
  pub items : (i : ℕ) (c : List ℕ) → item_at (b ++ (n + i) ∷ c) d ≡ item_at (i ∷ c) t

next-number : (n i : ℕ) → suc n + i ≡ n + suc i
next-number n i = omega arith

standing-plain : (e : Standing) (b : List ℕ) (n i : ℕ) (c : List ℕ) (p : Plain) (rest : Items)
    → standing_from e b n (suc i) c (plain p rest) ≡ standing_from (after_plain p e) b (suc n) i c rest
standing-plain e b n i [] p rest = refl
standing-plain e b n i (j ∷ c) p rest =
    ap (λ k. option_and_then (standing_at (before i (after_plain p e) b (suc n) rest) (b ++ k ∷ []) (j ∷ c)) (inner i rest)) (sym (next-number n i))

closed-plain : (e : Standing) (b : List ℕ) (n i : ℕ) (c : List ℕ) (p : Plain) (rest : Items)
    → closed_from e b n (suc i) c (plain p rest) ≡ closed_from (after_plain p e) b (suc n) i c rest
closed-plain e b n i [] p rest = refl
closed-plain e b n i (j ∷ c) p rest =
    ap (λ k. option_and_then (closed (before i (after_plain p e) b (suc n) rest) (b ++ k ∷ []) (j ∷ c)) (inner i rest)) (sym (next-number n i))

items-plain : (i : ℕ) (c : List ℕ) (p : Plain) (rest : Items) → item_at (suc i ∷ c) (plain p rest) ≡ item_at (i ∷ c) rest
items-plain i [] p rest = refl
items-plain i (j ∷ c) p rest = refl

pub lies-plain : (d : Items) (b : List ℕ) (n : ℕ) (p : Plain) (rest : Items) (e : Standing) → Lies d b n (plain p rest) e → Lies d b (suc n) rest (after_plain p e)
lies-plain d b n p rest e l = record {
  standing = λ i c. ap (λ k. standing_at nothing [] (b ++ k ∷ c) d) (next-number n i) ∙ l.standing (suc i) c ∙ standing-plain e b n i c p rest;
  holds = λ i c. ap (λ k. component d (b ++ k ∷ c)) (next-number n i) ∙ l.holds (suc i) c ∙ closed-plain e b n i c p rest;
  items = λ i c. ap (λ k. item_at (b ++ k ∷ c) d) (next-number n i) ∙ l.items (suc i) c ∙ items-plain i c p rest;
}

-- what stands behind an item with a component
abbrev pub standing_behind : Standing → List ℕ → ℕ → Holder → Items → Standing
standing_behind e b n h body = after_holder h (b ++ n ∷ []) body (parts e (b ++ n ∷ []) 0 body) e

standing-holder : (e : Standing) (b : List ℕ) (n i : ℕ) (c : List ℕ) (h : Holder) (body rest : Items)
    → standing_from e b n (suc i) c (holder h body rest) ≡ standing_from (standing_behind e b n h body) b (suc n) i c rest
standing-holder e b n i [] h body rest = refl
standing-holder e b n i (j ∷ c) h body rest =
    ap (λ k. option_and_then (standing_at (before i (standing_behind e b n h body) b (suc n) rest) (b ++ k ∷ []) (j ∷ c)) (inner i rest)) (sym (next-number n i))

closed-holder : (e : Standing) (b : List ℕ) (n i : ℕ) (c : List ℕ) (h : Holder) (body rest : Items)
    → closed_from e b n (suc i) c (holder h body rest) ≡ closed_from (standing_behind e b n h body) b (suc n) i c rest
closed-holder e b n i [] h body rest = refl
closed-holder e b n i (j ∷ c) h body rest =
    ap (λ k. option_and_then (closed (before i (standing_behind e b n h body) b (suc n) rest) (b ++ k ∷ []) (j ∷ c)) (inner i rest)) (sym (next-number n i))

items-holder : (i : ℕ) (c : List ℕ) (h : Holder) (body rest : Items) → item_at (suc i ∷ c) (holder h body rest) ≡ item_at (i ∷ c) rest
items-holder i [] h body rest = refl
items-holder i (j ∷ c) h body rest = refl

pub lies-holder : (d : Items) (b : List ℕ) (n : ℕ) (h : Holder) (body rest : Items) (e : Standing) → Lies d b n (holder h body rest) e
    → Lies d b (suc n) rest (standing_behind e b n h body)
lies-holder d b n h body rest e l = record {
  standing = λ i c. ap (λ k. standing_at nothing [] (b ++ k ∷ c) d) (next-number n i) ∙ l.standing (suc i) c ∙ standing-holder e b n i c h body rest;
  holds = λ i c. ap (λ k. component d (b ++ k ∷ c)) (next-number n i) ∙ l.holds (suc i) c ∙ closed-holder e b n i c h body rest;
  items = λ i c. ap (λ k. item_at (b ++ k ∷ c) d) (next-number n i) ∙ l.items (suc i) c ∙ items-holder i c h body rest;
}

-- the items inside the first item
no-more : (n : ℕ) → n ≡ n + 0
no-more n = omega arith

from-zero : (i : ℕ) → i ≡ 0 + i
from-zero i = omega arith

standing-zero : (e : Standing) (b : List ℕ) (i : ℕ) (c : List ℕ) (t : Items) → standing_at e b (i ∷ c) t ≡ standing_from e b 0 i c t
standing-zero e b i [] t = refl
standing-zero e b i (j ∷ c) t = ap (λ k. option_and_then (standing_at (before i e b 0 t) (b ++ k ∷ []) (j ∷ c)) (inner i t)) (from-zero i)

closed-zero : (e : Standing) (b : List ℕ) (i : ℕ) (c : List ℕ) (t : Items) → closed e b (i ∷ c) t ≡ closed_from e b 0 i c t
closed-zero e b i [] t = refl
closed-zero e b i (j ∷ c) t = ap (λ k. option_and_then (closed (before i e b 0 t) (b ++ k ∷ []) (j ∷ c)) (inner i t)) (from-zero i)

inside-address : (b : List ℕ) (n i : ℕ) (c : List ℕ) → (b ++ n ∷ []) ++ (0 + i) ∷ c ≡ b ++ (n + 0) ∷ i ∷ c
inside-address b n i c = append_assoc b (n ∷ []) ((0 + i) ∷ c) ∙ (λ k. b ++ no-more n k ∷ sym (from-zero i) k ∷ c)

pub lies-inside : (d : Items) (b : List ℕ) (n : ℕ) (h : Holder) (body rest : Items) (e : Standing) → Lies d b n (holder h body rest) e → Lies d (b ++ n ∷ []) 0 body e
lies-inside d b n h body rest e l = record {
  standing = λ i c.
      ap (λ a. standing_at nothing [] a d) (inside-address b n i c) ∙ l.standing 0 (i ∷ c)
      ∙ ap (λ k. standing_at e (b ++ k ∷ []) (i ∷ c) body) (sym (no-more n)) ∙ standing-zero e (b ++ n ∷ []) i c body;
  holds = λ i c.
      ap (component d) (inside-address b n i c) ∙ l.holds 0 (i ∷ c)
      ∙ ap (λ k. closed e (b ++ k ∷ []) (i ∷ c) body) (sym (no-more n)) ∙ closed-zero e (b ++ n ∷ []) i c body;
  items = λ i c. ap (λ a. item_at a d) (inside-address b n i c) ∙ l.items 0 (i ∷ c);
}

pub root-lies : (d : Items) → Lies d [] 0 d nothing
root-lies d = record {
  standing = λ i c. ap (λ k. standing_at nothing [] (k ∷ c) d) (sym (from-zero i)) ∙ standing-zero nothing [] i c d;
  holds = λ i c. ap (λ k. component d (k ∷ c)) (sym (from-zero i)) ∙ closed-zero nothing [] i c d;
  items = λ i c. ap (λ k. item_at (k ∷ c) d) (sym (from-zero i));
}

-- ---- Items without a fault.

pub define-allowed : (around : Option Kind) (twice : Bool) (k : Kind) → define_fault around twice k ≡ None → may_define around k ≡ true
unfolding define_fault
define-allowed around twice k e =
    let rest = first_none twice NameTwice ((not (may_define around k), KindNotAllowed) ∷ []) e in
    let test = first_none (not (may_define around k)) KindNotAllowed [] rest.1 in
    not_false (may_define around k) test.0

define-clear : (d : Items) (around : Option Kind) (b : List ℕ) (body : Items) (n : ℕ) (name : List ℕ) (k : Kind) (inside : Items) → item_fault d around b body n (holder_item (define name k) inside) ≡ None
    → define_fault around (is_some (last_definition name n body)) k ≡ None
unfolding item_fault
define-clear d around b body n name k inside e = e

instance-clear : (d : Items) (around : Option Kind) (b : List ℕ) (body : Items) (n : ℕ) (s : Shell) (o : Of) → item_fault d around b body n (Instance s o) ≡ None
    → instance_fault around (is_some (instance_before s.name n body)) s (instance_kind d (b ++ n ∷ [])) ≡ None
unfolding item_fault
instance-clear d around b body n s o e = e

pub record IsAllowed (around : Option Kind) (o : Option Kind) : Type 0 where
  pub kind : Kind
  pub is : o ≡ Some kind
  pub may : may_instantiate around kind ≡ true

pub instance-allowed : (around : Option Kind) (twice : Bool) (s : Shell) (o : Option Kind) → instance_fault around twice s o ≡ None → IsAllowed around o
unfolding instance_fault
instance-allowed around true s None e = absurd cc
instance-allowed around false s None e = absurd cc
instance-allowed around twice s (Some k) e =
    let last = (wrong_part k s, PartNotAllowed) ∷ (wrong_number k s, OutOfRange) ∷ [] in
    let rest = first_none twice NameTwice ((not (may_instantiate around k), KindNotAllowed) ∷ last) e in
    let test = first_none (not (may_instantiate around k)) KindNotAllowed last rest.1 in
    record { kind = k; is = refl; may = not_false (may_instantiate around k) test.0 }

-- where there is no component, the search finds none
plain-none : (p : Plain) → own_component (plain_item p) ≡ None
plain-none (named s t) = refl
plain-none (own p x) = refl
plain-none (default p x) = refl
plain-none (dynamic t p x) = refl

none-here : (i : ℕ) (e : Standing) (b : List ℕ) (n : ℕ) (t : Items) → component_in i e b n t ≡ None → option_and_then own_component (slice_get (list_of t) i) ≡ None
none-here i e b n no_items h = refl
none-here zero e b n (plain p rest) h = plain-none p
none-here zero e b n (holder k body rest) h = absurd cc
none-here (suc i) e b n (plain p rest) h = none-here i (after_plain p e) b (suc n) rest h
none-here (suc i) e b n (holder k body rest) h = none-here i (standing_behind e b n k body) b (suc n) rest h

none-along : (a : List ℕ) (e : Standing) (b : List ℕ) (t : Items) → closed e b a t ≡ None → component_at t a ≡ None
none-along [] e b t h = refl
none-along (i ∷ []) e b t h = none-here i e b 0 t h
none-along (i ∷ j ∷ a) e b t h = by (λ inside. none-along (j ∷ a) (before i e b 0 t) (b ++ i ∷ []) inside) (inner i t) h
  where
    by : ((inside : Items) → closed (before i e b 0 t) (b ++ i ∷ []) (j ∷ a) inside ≡ None → component_at inside (j ∷ a) ≡ None)
        → (o : Option Items) → option_and_then (closed (before i e b 0 t) (b ++ i ∷ []) (j ∷ a)) o ≡ None
        → option_and_then own_component (option_and_then (item_at (j ∷ a)) o) ≡ None
    by deeper None h = refl
    by deeper (Some inside) h = deeper inside h

no-kind : (d : Items) (o : Option (List ℕ)) → option_and_then (component d) o ≡ None → option_and_then (kind_at d) o ≡ None
no-kind d None h = refl
no-kind d (Some c) h = ap (λ x. option_map (λ (k : Component). k.kind) x) (none-along c nothing [] d h)

-- an item of a body that lies there
module _ (d : Items) (accepted : fault_of d ≡ None) (around : Option Kind) (b : List ℕ) (body : Items) (n : ℕ) (e : Standing) where
  stands-first : (t : Items) → Lies d b n t e → standing_at nothing [] (b ++ n ∷ []) d ≡ Some e
  stands-first t l = ap (λ k. standing_at nothing [] (b ++ k ∷ []) d) (no-more n) ∙ l.standing 0 []

  item-first : (t : Items) → Lies d b n t e → item_at (b ++ n ∷ []) d ≡ item_at (0 ∷ []) t
  item-first t l = ap (λ k. item_at (b ++ k ∷ []) d) (no-more n) ∙ l.items 0 []

  named-accepted : (s : Shell) (t : List ℕ) (rest : Items) → Lies d b n (plain (named s t) rest) e → item_fault d around b body n (Instance s (Named t)) ≡ None → IsNamed around e t
  named-accepted s t rest l clear =
      by (lookup t e.types) refl
      (instance-allowed around (is_some (instance_before s.name n body)) s (instance_kind d (b ++ n ∷ [])) (instance-clear d around b body n s (Named t) clear))
    where
      none : lookup t e.types ≡ None → instance_kind d (b ++ n ∷ []) ≡ None
      none is =
          ap (option_and_then (kind_at d)) (component-named d (b ++ n ∷ []) s t (item-first (plain (named s t) rest) l))
          ∙ no-kind d (type_at (b ++ n ∷ []) d t) (sym (lookup-component t (b ++ n ∷ []) d e (stands-first (plain (named s t) rest) l)) ∙ is)

      by : (o : Option Made) → lookup t e.types ≡ o → IsAllowed around (instance_kind d (b ++ n ∷ [])) → IsNamed around e t
      by None is allowed = let kind_is = allowed.is in let none_is = none is in absurd cc
      by (Some m) is allowed = record { made = m; there = is; holds = not-in-field around allowed.kind allowed.may }

  plain-accepted : (p : Plain) (rest : Items) → Lies d b n (plain p rest) e → item_fault d around b body n (plain_item p) ≡ None → PlainAccepted around e p
  plain-accepted (named s t) rest l clear = named-accepted s t rest l clear
  plain-accepted (own p x) rest l clear = tt
  plain-accepted (default p x) rest l clear = tt
  plain-accepted (dynamic t p x) rest l clear = tt

  may-stand : (h : Holder) (inside rest : Items) → Lies d b n (holder h inside rest) e → item_fault d around b body n (holder_item h inside) ≡ None → MayStand around h
  may-stand (define m k) inside rest l clear = define-allowed around (is_some (last_definition m n body)) k (define-clear d around b body n m k inside clear)
  may-stand (anonymous s k) inside rest l clear =
      let c : Component = record { kind = k; body = inside } in
      let item : item_at (b ++ n ∷ []) d ≡ Some (Instance s (Anonymous c)) = item-first (holder (anonymous s k) inside rest) l in
      let allowed =
      instance-allowed around (is_some (instance_before s.name n body)) s (instance_kind d (b ++ n ∷ [])) (instance-clear d around b body n s (Anonymous c) clear) in
      let is : instance_kind d (b ++ n ∷ []) ≡ Some k =
      ap (option_and_then (kind_at d)) (component-anonymous d (b ++ n ∷ []) s c item)
      ∙ ap (λ o. option_map (λ (x : Component). x.kind) (option_and_then own_component o)) item in
      let kind_is = allowed.is in
      let same : allowed.kind ≡ k = cc in
      subst (λ z. may_instantiate around z ≡ true) same allowed.may

  holder-accepted : (h : Holder) (inside rest : Items) → Lies d b n (holder h inside rest) e → item_fault d around b body n (holder_item h inside) ≡ None
      → HolderAccepted around e (b ++ n ∷ []) h inside
  holder-accepted h inside rest l clear =
      let made : Made = record { head = head_at (b ++ n ∷ []) (holder_kind h) inside e; parts = parts e (b ++ n ∷ []) 0 inside } in
      let there : component d (b ++ n ∷ []) ≡ Some made = ap (λ k. component d (b ++ k ∷ [])) (no-more n) ∙ l.holds 0 [] in
      record {
        stands = may-stand h inside rest l clear;
        stated = values_are_stated d (b ++ n ∷ []) made accepted there;
        whole = values_are_whole d (b ++ n ∷ []) made accepted there;
      }

accepted-from : (d : Items) → fault_of d ≡ None → (around : Option Kind) (b : List ℕ) (body : Items) (n : ℕ) (t : Items) (e : Standing)
    → first_fault d around b body n t ≡ None → Lies d b n t e → AreAccepted around e b n t
accepted-from d h around b body n no_items e clear l = tt
accepted-from d h around b body n (plain p rest) e clear l =
    let both = neither (fault_at (b ++ n ∷ []) (item_fault d around b body n (plain_item p))) (first_fault d around b body (suc n) rest) clear in (
      plain-accepted d h around b body n e p rest l (no_kind (b ++ n ∷ []) (item_fault d around b body n (plain_item p)) both.0),
      accepted-from d h around b body (suc n) rest (after_plain p e) both.1 (lies-plain d b n p rest e l),
    )
accepted-from d h around b body n (holder k inside rest) e clear l =
    let within = first_fault d (Some (holder_kind k)) (b ++ n ∷ []) inside 0 inside in
    let more = first_fault d around b body (suc n) rest in
    let both = neither (fault_at (b ++ n ∷ []) (item_fault d around b body n (holder_item k inside))) (option_or within more) clear in
    let deeper = neither within more both.1 in (
      holder-accepted d h around b body n e k inside rest l (no_kind (b ++ n ∷ []) (item_fault d around b body n (holder_item k inside)) both.0),
      accepted-from d h (Some (holder_kind k)) (b ++ n ∷ []) inside 0 inside e deeper.0 (lies-inside d b n k inside rest e l),
      accepted-from d h around b body (suc n) rest (standing_behind e b n k inside) deeper.1 (lies-holder d b n k inside rest e l),
    )

pub all-accepted : (d : Items) → fault_of d ≡ None → AreAccepted None nothing [] 0 d
all-accepted d h = accepted-from d h None [] d 0 d nothing (no_first d h) (root-lies d)
