-- The instances of a component without a fault have names of their own, and stand in the order of their items.
use Rattle.std.proofs.Common.{◌≡◌, ℕ, suc, ◌+◌, ◌≤◌, Bool, true, false, cond, List, [], ◌∷◌, ◌++◌, Option, Some, None, bytes_eq, if◌then◌else◌, refl, sym, ap, subst, ◌∙◌, arith}
use Rattle.std.specs.Prelude.{slice_get}
use Rattle.std.specs.Option.{option_or, is_some}
use Rattle.rdl_tree.specs.Address.{number_of}
use Rattle.rdl_tree.specs.Items.{Items, no_items, plain, holder, named, own, default, dynamic, define, anonymous}
use Rattle.rdl_tree.specs.View.{list_of}
use Rattle.rdl_tree.specs.declared.description.Component.{Component}
use Rattle.rdl_tree.specs.declared.description.Item.TheVariants.{Instance}
use Rattle.rdl_tree.specs.declared.description.Of.{Of}
use Rattle.rdl_tree.specs.declared.description.Of.TheVariants.{Named, Anonymous}
use Rattle.rdl_tree.specs.declared.shell.Kind.{Kind}
use Rattle.rdl_tree.specs.declared.shell.Shell.{Shell}
use Rattle.rdl_tree.proofs.Places.{number-place}
use Rattle.rdl_scope.specs.Closed.{Head, Parts, no_parts, part, Made, Standing, lookup, head_at, parts, with_made, after_plain, after_holder, component}
use Rattle.rdl_scope.specs.ItemFaults.{instance_kind, instance_fault, item_fault, fault_of}
use Rattle.rdl_scope.specs.Target.{instance_before}
use Rattle.rdl_scope.specs.Walk.{is_instance}
use Rattle.rdl_scope.proofs.Accepted.{clear-inside}
use Rattle.rdl_scope.proofs.AsFound.{as_found}
use Rattle.rdl_scope.proofs.Instances.{instance-suc}
use Rattle.rdl_seen.specs.Inside.{Inside, no_instances, find, how_many, with_instance}
use Rattle.node_laws.specs.Seen.{within_seen}
use Rattle.node_laws.proofs.Along.{made-accepted}

abbrev pub with_part : Shell → Head → Parts → Inside → Inside
with_part s h inside before = with_instance s.name (within_seen (record { head = h; parts = inside })) before

-- no instance has the name of one before it
abbrev pub AreFresh : Parts → Inside → Type 0
AreFresh no_parts before = Unit {0}
AreFresh (part at s h inside rest) before = (find s.name before ≡ None) × AreFresh rest (with_part s h inside before)

-- they are items from number n on, each behind the one before it
abbrev pub AreFrom : ℕ → Parts → Type 0
AreFrom n no_parts = Unit {0}
AreFrom n (part at s h inside rest) = (n ≤ number_of at) × AreFrom (suc (number_of at)) rest

from-less : (n : ℕ) (ps : Parts) → AreFrom (suc n) ps → AreFrom n ps
from-less n no_parts f = tt
from-less n (part at s h inside rest) f = (omega (arith, f.0), f.1)

from-part : (b : List ℕ) (n : ℕ) (s : Shell) (h : Head) (inside ps : Parts) → AreFrom (suc n) ps → AreFrom n (part (b ++ n ∷ []) s h inside ps)
from-part b n s h inside ps f = let e = number-place b n in (omega (arith, e), subst (λ k. AreFrom (suc k) ps) (sym e) f)

from-made : (b : List ℕ) (n : ℕ) (s : Shell) (o : Option Made) (ps : Parts) → AreFrom (suc n) ps → AreFrom n (with_made (b ++ n ∷ []) s o ps)
from-made b n s None ps f = from-less n ps f
from-made b n s (Some m) ps f = from-part b n s m.head m.parts ps f

pub parts-from : (e : Standing) (b : List ℕ) (n : ℕ) (t : Items) → AreFrom n (parts e b n t)
parts-from e b n no_items = tt
parts-from e b n (plain (named s t) rest) = from-made b n s (lookup t e.types) (parts e b (suc n) rest) (parts-from e b (suc n) rest)
parts-from e b n (plain (own p x) rest) = from-less n (parts e b (suc n) rest) (parts-from e b (suc n) rest)
parts-from e b n (plain (default p x) rest) =
    from-less n (parts (after_plain (default p x) e) b (suc n) rest) (parts-from (after_plain (default p x) e) b (suc n) rest)
parts-from e b n (plain (dynamic t p x) rest) = from-less n (parts e b (suc n) rest) (parts-from e b (suc n) rest)
parts-from e b n (holder (define m k) body rest) =
    let behind_it = after_holder (define m k) (b ++ n ∷ []) body (parts e (b ++ n ∷ []) 0 body) e in
    from-less n (parts behind_it b (suc n) rest) (parts-from behind_it b (suc n) rest)
parts-from e b n (holder (anonymous s k) body rest) =
    from-part b n s (head_at (b ++ n ∷ []) k body e) (parts e (b ++ n ∷ []) 0 body) (parts e b (suc n) rest) (parts-from e b (suc n) rest)

-- ---- What the faults of a body say of names.

nothing-twice : (around : Option Kind) (twice : Bool) (s : Shell) (o : Option Kind) → instance_fault around twice s o ≡ None → twice ≡ false
unfolding instance_fault
nothing-twice around true s None e = absurd cc
nothing-twice around true s (Some k) e = absurd cc
nothing-twice around false s o e = refl

instance-clear : (d : Items) (around : Option Kind) (b : List ℕ) (body : Items) (n : ℕ) (s : Shell) (o : Of) → item_fault d around b body n (Instance s o) ≡ None
    → is_some (instance_before s.name n body) ≡ false
unfolding item_fault
instance-clear d around b body n s o e = nothing-twice around (is_some (instance_before s.name n body)) s (instance_kind d (b ++ n ∷ [])) e

none-some : {X : Type 0} (o : Option X) → is_some o ≡ false → o ≡ None
none-some None e = refl
none-some (Some x) e = absurd cc

-- no item before this one has the name, and nor has this one
record IsNone (o : Option ℕ) (here : Bool) : Type 0 where
  before : o ≡ None
  not_here : here ≡ false

none-split : (o : Option ℕ) (here : Bool) (n : ℕ) → option_or o (cond here (Some n) None) ≡ None → IsNone o here
none-split None true n e = absurd cc
none-split None false n e = record { before = refl; not_here = refl }
none-split (Some k) here n e = absurd cc

-- the instances that stand before item n of the body have no other names than its items
abbrev Covers : Items → ℕ → Inside → Type 0
Covers body n before = (name : List ℕ) → instance_before name n body ≡ None → find name before ≡ None

none-before : (body : Items) (n : ℕ) (name : List ℕ) → instance_before name (suc n) body ≡ None → IsNone (instance_before name n body) (is_instance name (slice_get (list_of body) n))
none-before body n name e = none-split (instance_before name n body) (is_instance name (slice_get (list_of body) n)) n (sym (instance-suc name n body) ∙ e)

covers-next : (body : Items) (n : ℕ) (before : Inside) → Covers body n before → Covers body (suc n) before
covers-next body n before covers name e = let both = none-before body n name e in covers name both.before

covers-part : (body : Items) (n : ℕ) (before : Inside) (s : Shell) (o : Of) (h : Head) (inside : Parts) → slice_get (list_of body) n ≡ Some (Instance s o) → Covers body n before
    → Covers body (suc n) (with_part s h inside before)
covers-part body n before s o h inside is covers name e =
    let both = none-before body n name e in
    let other : bytes_eq s.name name ≡ false = ap (is_instance name) (sym is) ∙ both.not_here in
    ap (λ t. if t then Some (record { number = how_many before; within = within_seen (record { head = h; parts = inside }) }) else find name before) other ∙ covers name both.before

-- the items of the body from number n on are these
abbrev Lies : Items → ℕ → Items → Type 0
Lies body n t = (i : ℕ) → slice_get (list_of body) (n + i) ≡ slice_get (list_of t) i

lies-next : (body : Items) (n : ℕ) (t rest : Items) → ((i : ℕ) → slice_get (list_of t) (suc i) ≡ slice_get (list_of rest) i) → Lies body n t → Lies body (suc n) rest
lies-next body n t rest more l i = let e : suc n + i ≡ n + suc i = omega arith in ap (slice_get (list_of body)) e ∙ l (suc i) ∙ more i

lies-first : (body : Items) (n : ℕ) (t : Items) → Lies body n t → slice_get (list_of body) n ≡ slice_get (list_of t) 0
lies-first body n t l = let e : n ≡ n + 0 = omega arith in ap (slice_get (list_of body)) e ∙ l 0

-- each instance in the body has a name that none before it has
abbrev AreOnce : Items → Type 0
AreOnce body = (n : ℕ) (s : Shell) (o : Of) → slice_get (list_of body) n ≡ Some (Instance s o) → instance_before s.name n body ≡ None

module _ (body : Items) (once : AreOnce body) (b : List ℕ) where
  fresh-made : (n : ℕ) (s : Shell) (of : Of) (o : Option Made) (ps : Parts) (before : Inside) → slice_get (list_of body) n ≡ Some (Instance s of) → Covers body n before
      → ((after : Inside) → Covers body (suc n) after → AreFresh ps after) → AreFresh (with_made (b ++ n ∷ []) s o ps) before
  fresh-made n s of None ps before is covers more = more before (covers-next body n before covers)
  fresh-made n s of (Some m) ps before is covers more =
      (covers s.name (once n s of is), more (with_part s m.head m.parts before) (covers-part body n before s of m.head m.parts is covers))

  fresh-from : (e : Standing) (n : ℕ) (t : Items) (before : Inside) → Lies body n t → Covers body n before → AreFresh (parts e b n t) before
  fresh-from e n no_items before l covers = tt
  fresh-from e n (plain (named s u) rest) before l covers =
      fresh-made n s (Named u) (lookup u e.types) (parts e b (suc n) rest) before (lies-first body n (plain (named s u) rest) l) covers
      (λ after more. fresh-from e (suc n) rest after (lies-next body n (plain (named s u) rest) rest (λ i. refl) l) more)
  fresh-from e n (plain (own p x) rest) before l covers =
      fresh-from e (suc n) rest before (lies-next body n (plain (own p x) rest) rest (λ i. refl) l) (covers-next body n before covers)
  fresh-from e n (plain (default p x) rest) before l covers =
      fresh-from (after_plain (default p x) e) (suc n) rest before (lies-next body n (plain (default p x) rest) rest (λ i. refl) l) (covers-next body n before covers)
  fresh-from e n (plain (dynamic u p x) rest) before l covers =
      fresh-from e (suc n) rest before (lies-next body n (plain (dynamic u p x) rest) rest (λ i. refl) l) (covers-next body n before covers)
  fresh-from e n (holder (define m k) inside rest) before l covers =
      fresh-from (after_holder (define m k) (b ++ n ∷ []) inside (parts e (b ++ n ∷ []) 0 inside) e) (suc n) rest before
      (lies-next body n (holder (define m k) inside rest) rest (λ i. refl) l) (covers-next body n before covers)
  fresh-from e n (holder (anonymous s k) inside rest) before l covers =
      let c : Component = record { kind = k; body = inside } in
      let h = head_at (b ++ n ∷ []) k inside e in
      let within = parts e (b ++ n ∷ []) 0 inside in
      let is : slice_get (list_of body) n ≡ Some (Instance s (Anonymous c)) = lies-first body n (holder (anonymous s k) inside rest) l in (
        covers s.name (once n s (Anonymous c) is),
        fresh-from e (suc n) rest (with_part s h within before) (lies-next body n (holder (anonymous s k) inside rest) rest (λ i. refl) l)
            (covers-part body n before s (Anonymous c) h within is covers),
      )

lies-all : (body : Items) → Lies body 0 body
lies-all body i = let e : 0 + i ≡ i = omega arith in ap (slice_get (list_of body)) e

pub all-fresh : (d : Items) (a : List ℕ) (c : Made) → fault_of d ≡ None → component d a ≡ Some c → AreFresh c.parts no_instances
all-fresh d a c accepted is =
    let found = as_found d a c is in
    let held : Component = record { kind = c.head.kind; body = c.head.body } in
    let once : AreOnce c.head.body =
    λ n s o there. none-some (instance_before s.name n c.head.body) (instance-clear d (Some c.head.kind) a c.head.body n s o (clear-inside d a held n (Instance s o) accepted found.component there)) in
    let made = made-accepted d a c accepted is in
    subst (λ ps. AreFresh ps no_instances) (sym made.parts)
    (fresh-from c.head.body once made.place made.standing 0 c.head.body no_instances (lies-all c.head.body) (λ name e. refl))
