-- Steps of the searches for a value.
use Rattle.std.proofs.Common.{◌≡◌, ℕ, zero, suc, ◌≤◌, List, length, Some, None, Option, refl, ap, ◌∙◌, sym, arith}
use Rattle.std.specs.Prelude.{slice_get}
use Rattle.std.specs.Option.{option_or}
use Rattle.rdl_tree.specs.Items.{Items, no_items, plain, holder, Plain, named, own, default, dynamic, Holder, define, anonymous}
use Rattle.rdl_tree.specs.View.{list_of, plain_item, holder_item}
use Rattle.rdl_scope.specs.Value.{owned, defaulted, own_value, own_before, last_default}
use Rattle.rdl_scope.specs.Walk.{owned_by, defaulted_by}

or-assoc : {X : Type 0} (a b c : Option X) → option_or (option_or a b) c ≡ option_or a (option_or b c)
or-assoc None b c = refl
or-assoc (Some x) b c = refl

or-none : {X : Type 0} (a : Option X) → option_or a None ≡ a
or-none None = refl
or-none (Some x) = refl

owned-plain : (p : List ℕ) (x : Plain) → owned_by p (Some (plain_item x)) ≡ owned p x
owned-plain p (named s t) = refl
owned-plain p (own q v) = refl
owned-plain p (default q v) = refl
owned-plain p (dynamic t q v) = refl

owned-holder : (p : List ℕ) (h : Holder) (body : Items) → owned_by p (Some (holder_item h body)) ≡ None
owned-holder p (define n k) body = refl
owned-holder p (anonymous s k) body = refl

pub own-suc : (p : List ℕ) (i : ℕ) (t : Items) → own_before p (suc i) t ≡ option_or (own_before p i t) (owned_by p (slice_get (list_of t) i))
own-suc p zero no_items = refl
own-suc p (suc i) no_items = refl
own-suc p zero (plain x rest) = or-none (owned p x) ∙ sym (owned-plain p x)
own-suc p zero (holder h body rest) = sym (owned-holder p h body)
own-suc p (suc i) (plain x rest) = ap (option_or (owned p x)) (own-suc p i rest) ∙ sym (or-assoc (owned p x) (own_before p i rest) (owned_by p (slice_get (list_of rest) i)))
own-suc p (suc i) (holder h body rest) = own-suc p i rest

pub own-all : (p : List ℕ) (i : ℕ) (t : Items) → length (list_of t) ≤ i → own_before p i t ≡ own_value p t
own-all p zero no_items h = refl
own-all p (suc i) no_items h = refl
own-all p zero (plain x rest) h = absurd (omega arith)
own-all p zero (holder k body rest) h = absurd (omega arith)
own-all p (suc i) (plain x rest) h = ap (option_or (owned p x)) (own-all p i rest (omega arith))
own-all p (suc i) (holder k body rest) h = own-all p i rest (omega arith)

defaulted-plain : (p : List ℕ) (x : Plain) → defaulted_by p (Some (plain_item x)) ≡ defaulted p x
defaulted-plain p (named s t) = refl
defaulted-plain p (own q v) = refl
defaulted-plain p (default q v) = refl
defaulted-plain p (dynamic t q v) = refl

defaulted-holder : (p : List ℕ) (h : Holder) (body : Items) → defaulted_by p (Some (holder_item h body)) ≡ None
defaulted-holder p (define n k) body = refl
defaulted-holder p (anonymous s k) body = refl

pub default-suc : (p : List ℕ) (i : ℕ) (t : Items) → last_default p (suc i) t ≡ option_or (defaulted_by p (slice_get (list_of t) i)) (last_default p i t)
default-suc p zero no_items = refl
default-suc p (suc i) no_items = refl
default-suc p zero (plain x rest) = sym (defaulted-plain p x) ∙ sym (or-none (defaulted_by p (Some (plain_item x))))
default-suc p zero (holder h body rest) = sym (ap (λ o. option_or o None) (defaulted-holder p h body))
default-suc p (suc i) (plain x rest) = ap (λ o. option_or o (defaulted p x)) (default-suc p i rest) ∙ or-assoc (defaulted_by p (slice_get (list_of rest) i)) (last_default p i rest) (defaulted p x)
default-suc p (suc i) (holder h body rest) = default-suc p i rest

pub ruleset steps = (own-suc, own-all, default-suc)
