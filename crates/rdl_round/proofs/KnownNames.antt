-- Names that a text can spell: those of known properties, and those of a target that passes instances whose names
-- aren't reserved.
use Rattle.std.proofs.Common.{◌≡◌, ℕ, zero, suc, Bool, true, false, true≢false, cond, List, [], ◌∷◌, ◌++◌, Option, Some, None, IfSome, find, option_map, bytes_eq, inl, inr, refl, sym, subst}
use Rattle.std.specs.Prelude.{option_and_then}
use Rattle.std.proofs.lemmas.Slice.Eq.{bytes_eq-Decides}
use Rattle.rdl_tree.specs.Address.{body_at}
use Rattle.rdl_tree.specs.Items.{Items, no_items, plain, holder, Plain, named, own, default, dynamic, Holder, define, anonymous}
use Rattle.rdl_tree.specs.Properties.{row, properties, property_of}
use Rattle.rdl_tree.specs.declared.property.Property.{Property}
use Rattle.rdl_tree.specs.declared.property.Property.TheVariants as property
use Rattle.rdl_parse.specs.Class.{class, is_unused}
use Rattle.rdl_parse.specs.declared.class.ReservedProperty.TheVariants as reserved
use Rattle.rdl_scope.specs.ItemFaults.{instance_kind, last_of, target_kind}
use Rattle.rdl_scope.specs.Target.{plain_named, holder_named, instance_before, instance_in, passes}
use Rattle.rdl_scope.specs.Types.{component_of, items_in}
use Rattle.rdl_round.specs.Spellable.{IsFree, IsProperty, IsTarget}
use Rattle.rdl_round.proofs.Each.{body-each}
use Rattle.rdl_round.proofs.FreeNames.{HasFreeNames, HasFreeName, AreNamesFree}

-- ---- Properties.

-- each isn't reserved, or is one of the six reserved words that are properties
property-spelled : (p : Property) → IsProperty (row p).name
unfolding class is_unused
property-spelled property.Name = inl refl
property-spelled property.Desc = inl refl
property-spelled property.Addressing = inl refl
property-spelled property.Alignment = inl refl
property-spelled property.Lsb0 = inl refl
property-spelled property.Regwidth = inl refl
property-spelled property.Accesswidth = inl refl
property-spelled property.Shared = inl refl
property-spelled property.Fieldwidth = inl refl
property-spelled property.Reset = inl refl
property-spelled property.Sw = inr (reserved.Sw, refl)
property-spelled property.Hw = inr (reserved.Hw, refl)
property-spelled property.Rclr = inr (reserved.Rclr, refl)
property-spelled property.Rset = inr (reserved.Rset, refl)
property-spelled property.Onread = inl refl
property-spelled property.Woset = inr (reserved.Woset, refl)
property-spelled property.Woclr = inr (reserved.Woclr, refl)
property-spelled property.Onwrite = inl refl
property-spelled property.Singlepulse = inl refl
property-spelled property.Swmod = inl refl
property-spelled property.Swacc = inl refl
property-spelled property.We = inl refl
property-spelled property.Wel = inl refl
property-spelled property.Swwe = inl refl
property-spelled property.Swwel = inl refl
property-spelled property.Counter = inl refl
property-spelled property.Intr = inl refl
property-spelled property.Anded = inl refl
property-spelled property.Ored = inl refl
property-spelled property.Xored = inl refl
property-spelled property.Hwclr = inl refl
property-spelled property.Hwset = inl refl
property-spelled property.Sticky = inl refl
property-spelled property.Stickybit = inl refl
property-spelled property.Dontcompare = inl refl
property-spelled property.Donttest = inl refl

found-passes : {X : Type 0} (test : X → Bool) (xs : List X) → IfSome (find test xs) (λ x. test x ≡ true)
found-passes test [] = tt
found-passes test (x ∷ xs) = by (test x) refl (found-passes test xs)
  where
    by : (z : Bool) → test x ≡ z → IfSome (find test xs) (λ y. test y ≡ true) → IfSome (cond z (Some x) (find test xs)) (λ y. test y ≡ true)
    by true e h = e
    by false e h = h

pub known-spelled : (name : List ℕ) → IfSome (property_of name) (λ p. IsProperty name)
unfolding property_of
known-spelled name = by (find (λ p. bytes_eq name (row p).name) properties) (found-passes (λ p. bytes_eq name (row p).name) properties)
  where
    by : (o : Option Property) → IfSome o (λ p. bytes_eq name (row p).name ≡ true) → IfSome o (λ p. IsProperty name)
    by None h = tt
    by (Some p) h = subst IsProperty (sym ((bytes_eq-Decides name (row p).name).0 h)) (property-spelled p)

-- ---- Targets.

from-name : (name other : List ℕ) → IsFree other → bytes_eq other name ≡ true → IsFree name
from-name name other f e = subst IsFree ((bytes_eq-Decides other name).0 e) f

plain-names : (name : List ℕ) (p : Plain) → HasFreeNames p → plain_named name p ≡ true → IsFree name
plain-names name (named s t) h e = from-name name s.name h.0 e
plain-names name (own p v) h e = absurd (true≢false (sym e))
plain-names name (default p v) h e = absurd (true≢false (sym e))
plain-names name (dynamic t p v) h e = absurd (true≢false (sym e))

holder-names : (name : List ℕ) (h : Holder) → HasFreeName h → holder_named name h ≡ true → IsFree name
holder-names name (define n k) f e = absurd (true≢false (sym e))
holder-names name (anonymous s k) f e = from-name name s.name f e

or-later : (name : List ℕ) (z : Bool) (o : Option ℕ) → (z ≡ true → IsFree name) → IfSome o (λ _. IsFree name) → IfSome (cond z (Some 0) (option_map suc o)) (λ _. IsFree name)
or-later name true o f h = f refl
or-later name false None f h = tt
or-later name false (Some k) f h = h

instance-free : (name : List ℕ) (n : ℕ) (t : Items) → AreNamesFree t → IfSome (instance_before name n t) (λ _. IsFree name)
instance-free name zero t h = tt
instance-free name (suc n) no_items h = tt
instance-free name (suc n) (plain p rest) h = or-later name (plain_named name p) (instance_before name n rest) (plain-names name p h.0) (instance-free name n rest h.1)
instance-free name (suc n) (holder k body rest) h = or-later name (holder_named name k) (instance_before name n rest) (holder-names name k h.0) (instance-free name n rest h.2)

-- what holds where there is a value holds where one was made of it
given : {X : Type 0} (Q : Type 0) (o : Option X) → Q → IfSome o (λ _. Q)
given Q None h = tt
given Q (Some x) h = h

mapped : {X Y : Type 0} (P Q : Type 0) (f : X → Y) (o : Option X) → IfSome o (λ _. P) → (P → Q) → IfSome (option_map f o) (λ _. Q)
mapped P Q f None h k = tt
mapped P Q f (Some x) h k = k h

and-then : {X Y : Type 0} (P : X → Type 0) (Q : Type 0) (f : X → Option Y) (o : Option X) → IfSome o P → ((x : X) → P x → IfSome (f x) (λ _. Q)) → IfSome (option_and_then f o) (λ _. Q)
and-then P Q f None h k = tt
and-then P Q f (Some x) h k = k x h

instance-in-free : (d : Items) (b : List ℕ) (n : ℕ) (name : List ℕ) → AreNamesFree d → IfSome (instance_in d b n name) (λ _. IsFree name)
instance-in-free d b n name h =
    let found = and-then AreNamesFree (IsFree name) (instance_before name n) (body_at b d) (body-each HasFreeNames HasFreeName b d h) (λ t f. instance-free name n t f) in
    mapped (IsFree name) (IsFree name) (λ k. b ++ k ∷ []) (option_and_then (instance_before name n) (body_at b d)) found (λ f. f)

passed-free : (d : Items) (b : List ℕ) (n : ℕ) (t : List (List ℕ)) → AreNamesFree d → IfSome (passes d b n t) (λ _. IsTarget t)
passed-free d b n [] h = tt
passed-free d b n (name ∷ []) h = mapped (IsFree name) (IsTarget (name ∷ [])) (λ a. a ∷ []) (instance_in d b n name) (instance-in-free d b n name h) (λ f. (f, tt))
passed-free d b n (name ∷ next ∷ names) h =
    let below : List ℕ → Option (List (List ℕ)) = λ c. passes d c (items_in c d) (next ∷ names) in
    let others : (a : List ℕ) → IfSome (option_and_then below (component_of d a)) (λ _. IsTarget (next ∷ names)) =
    λ a. and-then (λ _. Unit {0}) (IsTarget (next ∷ names)) below (component_of d a) (given (Unit {0}) (component_of d a) tt) (λ c _. passed-free d c (items_in c d) (next ∷ names) h) in
    and-then (λ _. IsFree name) (IsTarget (name ∷ next ∷ names)) (λ a. option_map (λ more. a ∷ more) (option_and_then below (component_of d a))) (instance_in d b n name) (instance-in-free d b n name h)
    (λ a f. mapped (IsTarget (next ∷ names)) (IsTarget (name ∷ next ∷ names)) (λ more. a ∷ more) (option_and_then below (component_of d a)) (others a) (λ g. (f, g)))

pub reached-free : (d : Items) (b : List ℕ) (n : ℕ) (t : List (List ℕ)) → AreNamesFree d → IfSome (target_kind d b n t) (λ _. IsTarget t)
reached-free d b n t h =
    let last = and-then (λ _. IsTarget t) (IsTarget t) last_of (passes d b n t) (passed-free d b n t h) (λ path f. given (IsTarget t) (last_of path) f) in
    and-then (λ _. IsTarget t) (IsTarget t) (instance_kind d) (option_and_then last_of (passes d b n t)) last (λ a f. given (IsTarget t) (instance_kind d a) f)
