-- Items and their list are one another's images.
use Rattle.std.proofs.Common.{◌≡◌, ℕ, zero, suc, ◌+◌, List, [], ◌∷◌, length, refl, ap, sym, ◌∙◌, arith, sum_by, take, take_all, ◌≤◌}
use Rattle.std.specs.Prelude.{slice_get, option_and_then}
use Rattle.rdl_tree.specs.Items.{Items, no_items, plain, holder, named, own, default, dynamic, define, anonymous}
use Rattle.rdl_tree.specs.View.{add, items_of, list_of, own_body}
use Rattle.rdl_tree.specs.Weight.{weight, capped}
use Rattle.rdl_tree.specs.ItemWeight.{item_weight}
use Rattle.rdl_tree.specs.Address.{inner}
use Rattle.std.proofs.lemmas.List.Sums.{sum_by-cons}
use Rattle.std.proofs.lemmas.Option.{slice_get_read, slice_get_past}
use Rattle.rdl_tree.specs.declared.description.Item.{Item}
use Rattle.rdl_tree.specs.declared.description.Item.TheVariants.{Define, Instance, Own, Default, Dynamic}
use Rattle.rdl_tree.specs.declared.description.Of.TheVariants.{Named, Anonymous}

pub list_of-add : (x : Item) (rest : Items) → list_of (add x rest) ≡ x ∷ list_of rest
list_of-add (Define n c) rest = refl
list_of-add (Instance s (Named t)) rest = refl
list_of-add (Instance s (Anonymous c)) rest = refl
list_of-add (Own p v) rest = refl
list_of-add (Default p v) rest = refl
list_of-add (Dynamic t p v) rest = refl

pub list_of-items_of : (xs : List Item) → list_of (items_of xs) ≡ xs
list_of-items_of [] = refl
list_of-items_of (x ∷ xs) = list_of-add x (items_of xs) ∙ ap (λ ys. x ∷ ys) (list_of-items_of xs)

pub items_of-list_of : (t : Items) → items_of (list_of t) ≡ t
items_of-list_of no_items = refl
items_of-list_of (plain (named s t) rest) = ap (plain (named s t)) (items_of-list_of rest)
items_of-list_of (plain (own p v) rest) = ap (plain (own p v)) (items_of-list_of rest)
items_of-list_of (plain (default p v) rest) = ap (plain (default p v)) (items_of-list_of rest)
items_of-list_of (plain (dynamic t p v) rest) = ap (plain (dynamic t p v)) (items_of-list_of rest)
items_of-list_of (holder (define n k) body rest) = ap (holder (define n k) body) (items_of-list_of rest)
items_of-list_of (holder (anonymous s k) body rest) = ap (holder (anonymous s k) body) (items_of-list_of rest)

weight-add : (x : Item) (rest : Items) → weight (add x rest) ≡ item_weight x + weight rest
weight-add (Define n c) rest = omega arith
weight-add (Instance s (Named t)) rest = omega arith
weight-add (Instance s (Anonymous c)) rest = omega arith
weight-add (Own p v) rest = omega arith
weight-add (Default p v) rest = omega arith
weight-add (Dynamic t p v) rest = omega arith

pub weight-items_of : (xs : List Item) → weight (items_of xs) ≡ sum_by item_weight xs
weight-items_of [] = refl
weight-items_of (x ∷ xs) = omega (arith, weight-add x (items_of xs), weight-items_of xs, sum_by-cons item_weight x xs)

-- a loop over all items has their weight
pub weight_done : (n i : ℕ) (xs ys : List Item) (t : Items) → n ≡ capped (sum_by item_weight (take i xs)) → length xs ≤ i → xs ≡ ys → items_of ys ≡ t → n ≡ capped (weight t)
weight_done n i xs ys t e h f g =
    e ∙ ap (λ zs. capped (sum_by item_weight zs)) (take_all i xs h ∙ f) ∙ ap capped (sym (weight-items_of ys)) ∙ ap (λ u. capped (weight u)) g

inner-add-zero : (x : Item) (rest : Items) → inner 0 (add x rest) ≡ own_body x
inner-add-zero (Define n c) rest = refl
inner-add-zero (Instance s (Named t)) rest = refl
inner-add-zero (Instance s (Anonymous c)) rest = refl
inner-add-zero (Own p v) rest = refl
inner-add-zero (Default p v) rest = refl
inner-add-zero (Dynamic t p v) rest = refl

inner-add-suc : (i : ℕ) (x : Item) (rest : Items) → inner (suc i) (add x rest) ≡ inner i rest
inner-add-suc i (Define n c) rest = refl
inner-add-suc i (Instance s (Named t)) rest = refl
inner-add-suc i (Instance s (Anonymous c)) rest = refl
inner-add-suc i (Own p v) rest = refl
inner-add-suc i (Default p v) rest = refl
inner-add-suc i (Dynamic t p v) rest = refl

pub inner-items_of : (i : ℕ) (xs : List Item) → inner i (items_of xs) ≡ option_and_then own_body (slice_get xs i)
inner-items_of i [] = refl
inner-items_of zero (x ∷ xs) = inner-add-zero x (items_of xs)
inner-items_of (suc i) (x ∷ xs) = inner-add-suc i x (items_of xs) ∙ inner-items_of i xs

pub inner-slice_get : (i : ℕ) (t : Items) → inner i t ≡ option_and_then own_body (slice_get (list_of t) i)
inner-slice_get i t = ap (inner i) (sym (items_of-list_of t)) ∙ inner-items_of i (list_of t)

pub ruleset views = (list_of-items_of, weight-items_of, inner-slice_get, slice_get_read, slice_get_past)
