-- A map without a fault is within the limits, and one whose names aren't reserved is then one that a text can spell.
use Rattle.std.proofs.Common.{◌≡◌, ℕ, suc, Bool, true, false, true≢false, ◌&&◌, ◌||◌, not, List, [], ◌∷◌, ◌++◌, length, Option, Some, None, IfSome, refl, sym, ◌∙◌, not-suc-le-zero}
use Rattle.std.proofs.Math.Bool.{and-true}
use Rattle.std.proofs.lemmas.Bool.{ltb-false}
use Rattle.std.proofs.lemmas.Option.{none-some}
use Rattle.std.specs.Option.{is_some, is_none, option_or}
use Rattle.std.specs.Prelude.{nat_lt}
use Rattle.rdl_tree.specs.Component.{holder_kind}
use Rattle.rdl_tree.specs.Depth.{depth}
use Rattle.rdl_tree.specs.Items.{Items, no_items, plain, holder, Plain, named, own, default, dynamic, Holder, define, anonymous, count}
use Rattle.rdl_tree.specs.Limits.{IsWithinLimits}
use Rattle.rdl_tree.specs.Properties.{row, property_of, takes}
use Rattle.rdl_tree.specs.View.{plain_item, holder_item}
use Rattle.rdl_tree.specs.Weight.{weight}
use Rattle.rdl_tree.specs.declared.fault.Fault.{Fault}
use Rattle.rdl_tree.specs.declared.fault.FaultKind.{FaultKind}
use Rattle.rdl_tree.specs.declared.fault.FaultKind.TheVariants.{NameTwice, UnknownType, KindNotAllowed, UnknownProperty, PartNotAllowed, OutOfRange, NotOfKind, WrongValue, AssignedTwice, NoSuchTarget, NotDynamic, DescriptionTooLarge}
use Rattle.rdl_tree.specs.declared.property.Property.{Property}
use Rattle.rdl_tree.specs.declared.shell.Kind.{Kind}
use Rattle.rdl_tree.specs.declared.shell.Shell.{Shell}
use Rattle.rdl_tree.specs.declared.value.Value.{Value}
use Rattle.rdl_scope.specs.ItemFaults.{may_instantiate, has_dims, wrong_part_of_kind, wrong_part, wrong_number, first_of, instance_fault, own_fault, default_fault, dynamic_fault, excluded_by, reached_before, is_of, instance_kind, target_kind, item_fault, fault_at, first_fault, is_too_large, fault_of}
use Rattle.rdl_scope.specs.Target.{instance_before}
use Rattle.rdl_scope.specs.Value.{own_before, last_default}
use Rattle.rdl_round.specs.Spellable.{IsProperty, IsTarget, AreBrackets, IsPlain, IsHolder, IsSpellable}
use Rattle.rdl_round.proofs.FreeNames.{HasFreeNames, HasFreeName, AreNamesFree}
use Rattle.rdl_round.proofs.KnownNames.{known-spelled, reached-free}

-- ---- Tests, and lists of them.

pub neither : (a b : Bool) → (a || b) ≡ false → (a ≡ false) × (b ≡ false)
neither true b e = absurd (true≢false e)
neither false b e = (refl, e)

pub first_none : (t : Bool) (k : FaultKind) (fs : List (Bool × FaultKind)) → first_of ((t, k) ∷ fs) ≡ None → (t ≡ false) × (first_of fs ≡ None)
first_none true k fs e = absurd (none-some k (sym e))
first_none false k fs e = (refl, e)

pub neither_fault : (a b : Option Fault) → option_or a b ≡ None → (a ≡ None) × (b ≡ None)
neither_fault None b e = (refl, e)
neither_fault (Some f) b e = absurd (none-some f (sym e))

pub no_kind : (a : List ℕ) (k : Option FaultKind) → fault_at a k ≡ None → k ≡ None
no_kind a None e = refl
no_kind a (Some k) e = absurd (none-some (record { kind = k; address = a }) (sym e))

-- ---- An instance.

brackets-fit : (dims : List ℕ) (range : Option (ℕ × ℕ)) → (nat_lt 0 (length dims) && is_some range) ≡ false → AreBrackets dims range
brackets-fit dims None e = tt
brackets-fit [] (Some r) e = tt
brackets-fit (n ∷ ns) (Some r) e = not-suc-le-zero (ltb-false 0 (suc (length ns)) (sym (and-true (nat_lt 0 (length (n ∷ ns)))) ∙ e))

part-fits : (k : Kind) (s : Shell) → wrong_part k s ≡ false → AreBrackets s.dims s.range
unfolding wrong_part
part-fits k s e =
    let of_kind = wrong_part_of_kind k s in
    let brackets = has_dims s && is_some s.range in
    let stride = is_some s.stride && not (has_dims s) in
    let place = is_some s.address && is_some s.align in
    let many = nat_lt 4 (length s.dims) in
    brackets-fit s.dims s.range (neither of_kind brackets (neither (of_kind || brackets) stride (neither (of_kind || brackets || stride) place (neither (of_kind || brackets || stride || place) many e).0).0).0).1

instance-fits : (around : Option Kind) (twice : Bool) (s : Shell) (k : Option Kind) → instance_fault around twice s k ≡ None → AreBrackets s.dims s.range
unfolding instance_fault
instance-fits around twice s None e = absurd (true≢false (first_none true UnknownType [] (first_none twice NameTwice ((true, UnknownType) ∷ []) e).1).0)
instance-fits around twice s (Some k) e =
    let numbers = (wrong_number k s, OutOfRange) ∷ [] in
    let parts = (wrong_part k s, PartNotAllowed) ∷ numbers in
    let kinds = (not (may_instantiate around k), KindNotAllowed) ∷ parts in
    part-fits k s (first_none (wrong_part k s) PartNotAllowed numbers (first_none (not (may_instantiate around k)) KindNotAllowed parts (first_none twice NameTwice kinds e).1).1).0

-- ---- An assignment.

own-known : (around : Option Kind) (twice excluded : Bool) (o : Option Property) (v : Value) (name : List ℕ) → IfSome o (λ _. IsProperty name) → own_fault around twice excluded o v ≡ None → IsProperty name
unfolding own_fault
own-known around twice excluded None v name h e = absurd (none-some UnknownProperty (sym e))
own-known around twice excluded (Some p) v name h e = h

default-known : (twice : Bool) (o : Option Property) (v : Value) (name : List ℕ) → IfSome o (λ _. IsProperty name) → default_fault twice o v ≡ None → IsProperty name
unfolding default_fault
default-known twice None v name h e = absurd (none-some UnknownProperty (sym e))
default-known twice (Some p) v name h e = h

is-reached : (k : Option Kind) (t : List (List ℕ)) → is_none k ≡ false → IfSome k (λ _. IsTarget t) → IsTarget t
is-reached None t e h = absurd (true≢false e)
is-reached (Some k) t e h = h

dynamic-known : (twice : Bool) (o : Option Property) (v : Value) (k : Option Kind) (name : List ℕ) (t : List (List ℕ)) → IfSome o (λ _. IsProperty name) → IfSome k (λ _. IsTarget t)
    → dynamic_fault twice o v k ≡ None → IsTarget t × IsProperty name
unfolding dynamic_fault
dynamic-known twice None v k name t h g e = absurd (none-some UnknownProperty (sym e))
dynamic-known twice (Some p) v k name t h g e =
    let dynamic = (not (row p).dynamic, NotDynamic) ∷ [] in
    let target = (is_none k, NoSuchTarget) ∷ dynamic in
    let repeated = (twice, AssignedTwice) ∷ target in
    let value = (not (takes p v), WrongValue) ∷ repeated in
    let of_kind = first_none (is_some k && not (is_of k p)) NotOfKind value e in
    let taken = first_none (not (takes p v)) WrongValue repeated of_kind.1 in
    (is-reached k t (first_none (is_none k) NoSuchTarget dynamic (first_none twice AssignedTwice target taken.1).1).0 g, h)

-- ---- All items.

plain-fits : (d : Items) (around : Option Kind) (b : List ℕ) (body : Items) (n : ℕ) (p : Plain) → AreNamesFree d → HasFreeNames p → item_fault d around b body n (plain_item p) ≡ None → IsPlain p
unfolding item_fault
plain-fits d around b body n (named s t) h f e =
    (f.1, record { free = f.0; brackets = instance-fits around (is_some (instance_before s.name n body)) s (instance_kind d (b ++ n ∷ [])) e })
plain-fits d around b body n (own p v) h f e = own-known around (is_some (own_before p n body)) (excluded_by n body (property_of p)) (property_of p) v p (known-spelled p) e
plain-fits d around b body n (default p v) h f e = default-known (is_some (last_default p n body)) (property_of p) v p (known-spelled p) e
plain-fits d around b body n (dynamic t p v) h f e =
    dynamic-known (reached_before t p n body) (property_of p) v (target_kind d b n t) p t (known-spelled p) (reached-free d b n t h) e

holder-fits : (d : Items) (around : Option Kind) (b : List ℕ) (body : Items) (n : ℕ) (h : Holder) (inside : Items) → HasFreeName h → item_fault d around b body n (holder_item h inside) ≡ None → IsHolder h
unfolding item_fault
holder-fits d around b body n (define m k) inside f e = f
holder-fits d around b body n (anonymous s k) inside f e =
    record { free = f; brackets = instance-fits around (is_some (instance_before s.name n body)) s (instance_kind d (b ++ n ∷ [])) e }

items-fit : (d : Items) (around : Option Kind) (b : List ℕ) (body : Items) (n : ℕ) (t : Items) → AreNamesFree d → AreNamesFree t → first_fault d around b body n t ≡ None → IsSpellable t
items-fit d around b body n no_items h f e = tt
items-fit d around b body n (plain p rest) h f e =
    let own_kind = item_fault d around b body n (plain_item p) in
    let clear = neither_fault (fault_at (b ++ n ∷ []) own_kind) (first_fault d around b body (suc n) rest) e in
    (plain-fits d around b body n p h f.0 (no_kind (b ++ n ∷ []) own_kind clear.0), items-fit d around b body (suc n) rest h f.1 clear.1)
items-fit d around b body n (holder k inside rest) h f e =
    let own_kind = item_fault d around b body n (holder_item k inside) in
    let below = first_fault d (Some (holder_kind k)) (b ++ n ∷ []) inside 0 inside in
    let after = first_fault d around b body (suc n) rest in
    let clear = neither_fault (fault_at (b ++ n ∷ []) own_kind) (option_or below after) e in
    let deeper = neither_fault below after clear.1 in (
      holder-fits d around b body n k inside f.0 (no_kind (b ++ n ∷ []) own_kind clear.0),
      items-fit d (Some (holder_kind k)) (b ++ n ∷ []) inside 0 inside h f.1 deeper.0,
      items-fit d around b body (suc n) rest h f.2 deeper.1,
    )

-- ---- The map.

-- a map without a fault isn't too large, and none of its items has one
pub clear : (d : Items) → fault_of d ≡ None → (is_too_large d ≡ false) × (first_fault d None [] d 0 d ≡ None)
clear d h = by (is_too_large d) h
  where
    by : (z : Bool) → ◌≡◌ {A = Option Fault} (elim z [ true ↦ Some (record { kind = DescriptionTooLarge; address = [] }) | false ↦ first_fault d None [] d 0 d ]) None → (z ≡ false) × (first_fault d None [] d 0 d ≡ None)
    by true e = absurd (none-some (record { kind = DescriptionTooLarge; address = [] }) (sym e))
    by false e = (refl, e)

pub fitting : (d : Items) → fault_of d ≡ None → IsWithinLimits d
fitting d h =
    let tests = neither (nat_lt 16 (depth d) || nat_lt 65536 (count d)) (nat_lt 8388608 (weight d)) (clear d h).0 in
    let first = neither (nat_lt 16 (depth d)) (nat_lt 65536 (count d)) tests.0 in
    record { deep = ltb-false 16 (depth d) first.0; many = ltb-false 65536 (count d) first.1; heavy = ltb-false 8388608 (weight d) tests.1 }

pub spellable : (d : Items) → fault_of d ≡ None → AreNamesFree d → IsSpellable d
spellable d h f = items-fit d None [] d 0 d f f (clear d h).1
