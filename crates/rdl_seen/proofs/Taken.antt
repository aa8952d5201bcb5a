-- Of a description without a fault, each value that is stated is one that its property takes.
use Rattle.std.proofs.Common.{◌≡◌, ℕ, zero, suc, Bool, true, false, List, [], ◌∷◌, ◌++◌, Option, Some, None, if◌then◌else◌, bytes_eq, refl, sym, ap, subst, ◌∙◌}
use Rattle.std.specs.Prelude.{not, ◌&&◌, option_and_then}
use Rattle.std.specs.Option.{option_or, is_some}
use Rattle.rdl_tree.specs.Items.{Items, no_items, plain, holder, Plain, named, own, default, dynamic, Holder}
use Rattle.rdl_tree.specs.Address.{inner}
use Rattle.rdl_tree.specs.Component.{holder_kind}
use Rattle.rdl_tree.specs.Properties.{row, property_of, takes}
use Rattle.rdl_tree.specs.View.{plain_item, holder_item}
use Rattle.rdl_tree.specs.declared.shell.Kind.{Kind}
use Rattle.rdl_tree.specs.declared.value.Value.{Value}
use Rattle.rdl_tree.specs.declared.property.Property.{Property}
use Rattle.rdl_tree.specs.declared.fault.FaultKind.TheVariants.{NotOfKind, WrongValue, AssignedTwice, Exclusive}
use Rattle.rdl_scope.specs.Closed.{Made, stated, lookup, component}
use Rattle.rdl_scope.specs.ItemFaults.{own_fault, default_fault, is_of, excluded_by, item_fault, fault_at, first_fault, fault_of}
use Rattle.rdl_scope.specs.Value.{is_false, owned, defaulted, own_value, own_before, last_default, nearest_default}
use Rattle.rdl_scope.proofs.Accepted.{neither, no_kind, no_first, clear-below, first_none, not_false}
use Rattle.rdl_scope.proofs.AsFound.{as_found}
use Rattle.rdl_seen.specs.MeaningLaws.{StatedAreTaken}
use Rattle.rdl_seen.proofs.Puts.{property-named}

-- an assignment in a component without a fault
pub record IsOwn (twice : Bool) (o : Option Property) (x : Value) : Type 0 where
  pub taken : (q : Property) → o ≡ Some q → takes q x ≡ true
  pub once : twice ≡ false

same-property : (p q : Property) (x : Value) → takes p x ≡ true → Some p ≡ Some q → takes q x ≡ true
same-property p q x t e = let same : p ≡ q = cc in ap (λ r. takes r x) (sym same) ∙ t

own-fine : (around : Option Kind) (twice excluded : Bool) (o : Option Property) (x : Value) → own_fault around twice excluded o x ≡ None → IsOwn twice o x
unfolding own_fault
own-fine around twice excluded None x e = absurd cc
own-fine around twice excluded (Some p) x e =
    let last = (not (is_false x) && excluded, Exclusive) ∷ [] in
    let of_kind = first_none (not (is_of around p)) NotOfKind ((not (takes p x), WrongValue) ∷ (twice, AssignedTwice) ∷ last) e in
    let value = first_none (not (takes p x)) WrongValue ((twice, AssignedTwice) ∷ last) of_kind.1 in
    let once = first_none twice AssignedTwice last value.1 in
    record { taken = λ q. same-property p q x (not_false (takes p x) value.0); once = once.0 }

default-fine : (twice : Bool) (o : Option Property) (x : Value) → default_fault twice o x ≡ None → (q : Property) → o ≡ Some q → takes q x ≡ true
unfolding default_fault
default-fine twice None x e q f = absurd cc
default-fine twice (Some p) x e q f =
    let value = first_none (not (takes p x)) WrongValue ((twice, AssignedTwice) ∷ []) e in
    same-property p q x (not_false (takes p x) value.0) f

pub own-item : (d : Items) (around : Option Kind) (b : List ℕ) (body : Items) (n : ℕ) (p : List ℕ) (x : Value) → item_fault d around b body n (plain_item (own p x)) ≡ None
    → IsOwn (is_some (own_before p n body)) (property_of p) x
unfolding item_fault
own-item d around b body n p x e = own-fine around (is_some (own_before p n body)) (excluded_by n body (property_of p)) (property_of p) x e

default-item : (d : Items) (around : Option Kind) (b : List ℕ) (body : Items) (n : ℕ) (p : List ℕ) (x : Value) → item_fault d around b body n (plain_item (default p x)) ≡ None
    → (q : Property) → property_of p ≡ Some q → takes q x ≡ true
unfolding item_fault
default-item d around b body n p x e = default-fine (is_some (last_default p n body)) (property_of p) x e

-- an item without a fault, and none behind it
pub record ArePlain (d : Items) (around : Option Kind) (b : List ℕ) (body : Items) (n : ℕ) (p : Plain) (rest : Items) : Type 0 where
  pub here : item_fault d around b body n (plain_item p) ≡ None
  pub behind : first_fault d around b body (suc n) rest ≡ None

pub plain-clear : (d : Items) (around : Option Kind) (b : List ℕ) (body : Items) (n : ℕ) (p : Plain) (rest : Items) → first_fault d around b body n (plain p rest) ≡ None
    → ArePlain d around b body n p rest
plain-clear d around b body n p rest e =
    let both = neither (fault_at (b ++ n ∷ []) (item_fault d around b body n (plain_item p))) (first_fault d around b body (suc n) rest) e in
    record { here = no_kind (b ++ n ∷ []) (item_fault d around b body n (plain_item p)) both.0; behind = both.1 }

-- nothing inside an item has a fault, and nothing behind it
pub record AreHeld (d : Items) (around : Option Kind) (b : List ℕ) (body : Items) (n : ℕ) (h : Holder) (inside rest : Items) : Type 0 where
  pub within : first_fault d (Some (holder_kind h)) (b ++ n ∷ []) inside 0 inside ≡ None
  pub behind : first_fault d around b body (suc n) rest ≡ None

pub holder-clear : (d : Items) (around : Option Kind) (b : List ℕ) (body : Items) (n : ℕ) (h : Holder) (inside rest : Items) → first_fault d around b body n (holder h inside rest) ≡ None
    → AreHeld d around b body n h inside rest
holder-clear d around b body n h inside rest e =
    let within = first_fault d (Some (holder_kind h)) (b ++ n ∷ []) inside 0 inside in
    let more = first_fault d around b body (suc n) rest in
    let both = neither (fault_at (b ++ n ∷ []) (item_fault d around b body n (holder_item h inside))) (option_or within more) e in
    let deeper = neither within more both.1 in
    record { within = deeper.0; behind = deeper.1 }

either-taken : (q : Property) (x : Value) (o p : Option Value) → (o ≡ Some x → takes q x ≡ true) → (p ≡ Some x → takes q x ≡ true) → option_or o p ≡ Some x → takes q x ≡ true
either-taken q x None p first second e = second e
either-taken q x (Some y) p first second e = first e

here-taken : (p : List ℕ) (q : Property) (x y : Value) → ((r : Property) → property_of p ≡ Some r → takes r y ≡ true)
    → (if bytes_eq p (row q).name then Some y else None) ≡ Some x → takes q x ≡ true
here-taken p q x y fine e = by (bytes_eq p (row q).name) refl e
  where
    by : (b : Bool) → bytes_eq p (row q).name ≡ b → (if b then Some y else None) ≡ Some x → takes q x ≡ true
    by true is f = let same : y ≡ x = cc in ap (takes q) (sym same) ∙ fine q (property-named p q is)
    by false is f = absurd cc

pub own-taken : (d : Items) (around : Option Kind) (b : List ℕ) (body : Items) (n : ℕ) (t : Items) → first_fault d around b body n t ≡ None
    → (q : Property) (x : Value) → own_value (row q).name t ≡ Some x → takes q x ≡ true
own-taken d around b body n no_items h q x e = absurd cc
own-taken d around b body n (plain (named s t) rest) h q x e = own-taken d around b body (suc n) rest (plain-clear d around b body n (named s t) rest h).behind q x e
own-taken d around b body n (plain (own p y) rest) h q x e =
    let clear = plain-clear d around b body n (own p y) rest h in
    either-taken q x (owned (row q).name (own p y)) (own_value (row q).name rest) (here-taken p q x y (own-item d around b body n p y clear.here).taken)
    (own-taken d around b body (suc n) rest clear.behind q x) e
own-taken d around b body n (plain (default p y) rest) h q x e = own-taken d around b body (suc n) rest (plain-clear d around b body n (default p y) rest h).behind q x e
own-taken d around b body n (plain (dynamic t p y) rest) h q x e = own-taken d around b body (suc n) rest (plain-clear d around b body n (dynamic t p y) rest h).behind q x e
own-taken d around b body n (holder k inside rest) h q x e = own-taken d around b body (suc n) rest (holder-clear d around b body n k inside rest h).behind q x e

default-taken : (d : Items) (around : Option Kind) (b : List ℕ) (body : Items) (n i : ℕ) (t : Items) → first_fault d around b body n t ≡ None
    → (q : Property) (x : Value) → last_default (row q).name i t ≡ Some x → takes q x ≡ true
default-taken d around b body n zero t h q x e = absurd cc
default-taken d around b body n (suc i) no_items h q x e = absurd cc
default-taken d around b body n (suc i) (plain p rest) h q x e =
    let clear = plain-clear d around b body n p rest h in
    either-taken q x (last_default (row q).name i rest) (defaulted (row q).name p) (default-taken d around b body (suc n) i rest clear.behind q x) (here p clear.here) e
  where
    here : (p : Plain) → item_fault d around b body n (plain_item p) ≡ None → defaulted (row q).name p ≡ Some x → takes q x ≡ true
    here (named s t) c f = absurd cc
    here (own r y) c f = absurd cc
    here (default r y) c f = here-taken r q x y (default-item d around b body n r y c) f
    here (dynamic t r y) c f = absurd cc
default-taken d around b body n (suc i) (holder k inside rest) h q x e = default-taken d around b body (suc n) i rest (holder-clear d around b body n k inside rest h).behind q x e

-- a body of which no item has a fault
record IsClear (d body : Items) : Type 0 where
  around : Option Kind
  place : List ℕ
  clear : first_fault d around place body 0 body ≡ None

inner-clear : (d : Items) (around : Option Kind) (b : List ℕ) (body : Items) (n i : ℕ) (t inside : Items) → first_fault d around b body n t ≡ None
    → inner i t ≡ Some inside → IsClear d inside
inner-clear d around b body n i no_items inside h e = absurd cc
inner-clear d around b body n zero (plain p rest) inside h e = absurd cc
inner-clear d around b body n zero (holder k within rest) inside h e =
    let same : within ≡ inside = cc in
    subst (IsClear d) same (record { around = Some (holder_kind k); place = b ++ n ∷ []; clear = (holder-clear d around b body n k within rest h).within })
inner-clear d around b body n (suc i) (plain p rest) inside h e = inner-clear d around b body (suc n) i rest inside (plain-clear d around b body n p rest h).behind e
inner-clear d around b body n (suc i) (holder k within rest) inside h e = inner-clear d around b body (suc n) i rest inside (holder-clear d around b body n k within rest h).behind e

nearest-taken : (d body : Items) (c : List ℕ) → IsClear d body → (q : Property) (x : Value) → nearest_default c body (row q).name ≡ Some x → takes q x ≡ true
nearest-taken d body [] h q x e = absurd cc
nearest-taken d body (i ∷ c) h q x e =
    either-taken q x (option_and_then (λ t. nearest_default c t (row q).name) (inner i body)) (last_default (row q).name i body)
    (deeper (λ t. nearest-taken d t c) (inner i body) refl) (default-taken d h.around h.place body 0 i body h.clear q x) e
  where
    deeper : ((t : Items) → IsClear d t → (q : Property) (x : Value) → nearest_default c t (row q).name ≡ Some x → takes q x ≡ true)
        → (o : Option Items) → inner i body ≡ o → option_and_then (λ t. nearest_default c t (row q).name) o ≡ Some x → takes q x ≡ true
    deeper ih None is f = absurd cc
    deeper ih (Some t) is f = ih t (inner-clear d h.around h.place body 0 i body t h.clear is) q x f

-- the items of a component have no fault, and the defaults that reach it are taken
pub record IsFine (d : Items) (m : Made) : Type 0 where
  pub place : List ℕ
  pub clear : first_fault d (Some m.head.kind) place m.head.body 0 m.head.body ≡ None
  pub defaults : (q : Property) (x : Value) → lookup (row q).name m.head.defaults ≡ Some x → takes q x ≡ true

pub fine : (d : Items) (c : List ℕ) (m : Made) → fault_of d ≡ None → component d c ≡ Some m → IsFine d m
fine d c m h e =
    let found = as_found d c m e in
    record {
      place = c;
      clear = clear-below d c None [] d (record { kind = m.head.kind; body = m.head.body }) (no_first d h) found.component;
      defaults = λ q x f. nearest-taken d d c (record { around = None; place = []; clear = no_first d h }) q x (sym (found.defaults (row q).name) ∙ f);
    }

pub stated-taken : (d : Items) (m : Made) → IsFine d m → (q : Property) (x : Value) → stated m.head (row q).name ≡ Some x → takes q x ≡ true
stated-taken d m h q x e =
    either-taken q x (own_value (row q).name m.head.body) (lookup (row q).name m.head.defaults)
    (own-taken d (Some m.head.kind) h.place m.head.body 0 m.head.body h.clear q x) (h.defaults q x) e

pub stated_are_taken : StatedAreTaken
stated_are_taken d c m h e q x f = stated-taken d m (fine d c m h e) q x f
