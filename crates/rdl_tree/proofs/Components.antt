-- A component inside an item is changed, and the item stands where it stood.
use Rattle.std.proofs.Common.{◌≡◌, ℕ, zero, suc, ◌≤◌, length, List, [], ◌∷◌, Some, None, refl, ap, sym, ◌∙◌}
use Rattle.std.specs.Prelude.{slice_get, slice_set, option_and_then}
use Rattle.rdl_tree.specs.Items.{Items, no_items, plain, holder, Holder, define, anonymous}
use Rattle.rdl_tree.specs.View.{add, items_of, list_of}
use Rattle.rdl_tree.specs.Address.{inner, map_inner, body_at, map_body}
use Rattle.rdl_tree.specs.Component.{own_component, with_own_component, component_at, set_component, holder_kind, with_kind}
use Rattle.rdl_tree.proofs.Rounds.{items_of-list_of}
use Rattle.rdl_tree.proofs.Steps.{first, others, path_split}
use Rattle.rdl_tree.specs.declared.description.Component.{Component}
use Rattle.rdl_tree.specs.declared.description.Item.{Item}
use Rattle.rdl_tree.specs.declared.description.Item.TheVariants.{Define, Instance, Own, Default, Dynamic}
use Rattle.rdl_tree.specs.declared.description.Of.TheVariants.{Named, Anonymous}

set-add-zero : (w : Component) (x : Item) (rest : Items) → add (with_own_component x w) rest ≡ set_component 0 w (add x rest)
set-add-zero w (Define n c) rest = refl
set-add-zero w (Instance s (Named t)) rest = refl
set-add-zero w (Instance s (Anonymous c)) rest = refl
set-add-zero w (Own p v) rest = refl
set-add-zero w (Default p v) rest = refl
set-add-zero w (Dynamic t p v) rest = refl

set-add-suc : (w : Component) (i : ℕ) (x : Item) (rest : Items) → set_component (suc i) w (add x rest) ≡ add x (set_component i w rest)
set-add-suc w i (Define n c) rest = refl
set-add-suc w i (Instance s (Named t)) rest = refl
set-add-suc w i (Instance s (Anonymous c)) rest = refl
set-add-suc w i (Own p v) rest = refl
set-add-suc w i (Default p v) rest = refl
set-add-suc w i (Dynamic t p v) rest = refl

set_in : (w : Component) (i : ℕ) (xs : List Item) (x : Item) → slice_get xs i ≡ Some x → items_of (slice_set xs i (with_own_component x w)) ≡ set_component i w (items_of xs)
set_in w i [] x e = cc
set_in w zero (y ∷ ys) x e =
    let same : y ≡ x = cc in set-add-zero w x (items_of ys) ∙ ap (λ z. set_component 0 w (add z (items_of ys))) (sym same)
set_in w (suc i) (y ∷ ys) x e = ap (add y) (set_in w i ys x e) ∙ sym (set-add-suc w i y (items_of ys))

pub set_component_in : (w : Component) (i : ℕ) (t : Items) (x : Item) → slice_get (list_of t) i ≡ Some x → items_of (slice_set (list_of t) i (with_own_component x w)) ≡ set_component i w t
set_component_in w i t x e = set_in w i (list_of t) x e ∙ ap (set_component i w) (items_of-list_of t)

slice_set-same : (xs : List Item) (i : ℕ) (x : Item) → slice_get xs i ≡ Some x → slice_set xs i x ≡ xs
slice_set-same [] i x e = refl
slice_set-same (y ∷ ys) zero x e = let same : x ≡ y = cc in ap (λ z. z ∷ ys) same
slice_set-same (y ∷ ys) (suc i) x e = ap (λ zs. y ∷ zs) (slice_set-same ys i x e)

pub set_same : (i : ℕ) (t : Items) (x : Item) → slice_get (list_of t) i ≡ Some x → items_of (slice_set (list_of t) i x) ≡ t
set_same i t x e = ap items_of (slice_set-same (list_of t) i x e) ∙ items_of-list_of t

get-add-zero : (x : Item) (rest : Items) → component_at 0 (add x rest) ≡ own_component x
get-add-zero (Define n c) rest = refl
get-add-zero (Instance s (Named t)) rest = refl
get-add-zero (Instance s (Anonymous c)) rest = refl
get-add-zero (Own p v) rest = refl
get-add-zero (Default p v) rest = refl
get-add-zero (Dynamic t p v) rest = refl

get-add-suc : (i : ℕ) (x : Item) (rest : Items) → component_at (suc i) (add x rest) ≡ component_at i rest
get-add-suc i (Define n c) rest = refl
get-add-suc i (Instance s (Named t)) rest = refl
get-add-suc i (Instance s (Anonymous c)) rest = refl
get-add-suc i (Own p v) rest = refl
get-add-suc i (Default p v) rest = refl
get-add-suc i (Dynamic t p v) rest = refl

get_in : (i : ℕ) (xs : List Item) → component_at i (items_of xs) ≡ option_and_then own_component (slice_get xs i)
get_in i [] = refl
get_in zero (x ∷ xs) = get-add-zero x (items_of xs)
get_in (suc i) (x ∷ xs) = get-add-suc i x (items_of xs) ∙ get_in i xs

pub component_at-slice_get : (i : ℕ) (t : Items) → component_at i t ≡ option_and_then own_component (slice_get (list_of t) i)
component_at-slice_get i t = ap (component_at i) (sym (items_of-list_of t)) ∙ get_in i (list_of t)

pub inner-component_at : (i : ℕ) (t : Items) (c : Component) → component_at i t ≡ Some c → inner i t ≡ Some c.body
inner-component_at i no_items c e = cc
inner-component_at zero (plain p rest) c e = cc
inner-component_at zero (holder h body rest) c e = let same : record { kind = holder_kind h; body = body } ≡ c = cc in ap (λ d. Some d.body) same
inner-component_at (suc i) (plain p rest) c e = inner-component_at i rest c e
inner-component_at (suc i) (holder h body rest) c e = inner-component_at i rest c e

pub inner-no_component : (i : ℕ) (t : Items) → component_at i t ≡ None → inner i t ≡ None
inner-no_component i no_items e = refl
inner-no_component zero (plain p rest) e = refl
inner-no_component zero (holder h body rest) e = cc
inner-no_component (suc i) (plain p rest) e = inner-no_component i rest e
inner-no_component (suc i) (holder h body rest) e = inner-no_component i rest e

with_kind-same : (h : Holder) → with_kind h (holder_kind h) ≡ h
with_kind-same (define n k) = refl
with_kind-same (anonymous s k) = refl

-- a component with another body in it, put back
pub set-map_inner : (f : Items → Items) (i : ℕ) (t : Items) (c : Component) → component_at i t ≡ Some c → set_component i (record c { body = f c.body }) t ≡ map_inner i f t
set-map_inner f i no_items c e = refl
set-map_inner f zero (plain p rest) c e = refl
set-map_inner f zero (holder h body rest) c e =
    let same : record { kind = holder_kind h; body = body } ≡ c = cc in
    ap (λ (d : Component). holder (with_kind h d.kind) (f d.body) rest) (sym same) ∙ ap (λ g. holder g (f body) rest) (with_kind-same h)
set-map_inner f (suc i) (plain p rest) c e = ap (plain p) (set-map_inner f i rest c e)
set-map_inner f (suc i) (holder h body rest) c e = ap (holder h body) (set-map_inner f i rest c e)

pub set_component-same : (i : ℕ) (t : Items) (c : Component) → component_at i t ≡ Some c → set_component i c t ≡ t
set_component-same i no_items c e = refl
set_component-same zero (plain p rest) c e = refl
set_component-same zero (holder h body rest) c e =
    let same : record { kind = holder_kind h; body = body } ≡ c = cc in
    ap (λ (d : Component). holder (with_kind h d.kind) d.body rest) (sym same) ∙ ap (λ g. holder g body rest) (with_kind-same h)
set_component-same (suc i) (plain p rest) c e = ap (plain p) (set_component-same i rest c e)
set_component-same (suc i) (holder h body rest) c e = ap (holder h body) (set_component-same i rest c e)

-- one number of a path, from a component's body on
pub body_at-some : (p : List ℕ) (t : Items) (c : Component) → 1 ≤ length p → component_at (first p) t ≡ Some c → body_at p t ≡ body_at (others p) c.body
body_at-some p t c h e = ap (λ q. body_at q t) (path_split p h) ∙ ap (option_and_then (body_at (others p))) (inner-component_at (first p) t c e)

pub body_at-none : (p : List ℕ) (t : Items) → 1 ≤ length p → component_at (first p) t ≡ None → body_at p t ≡ None
body_at-none p t h e = ap (λ q. body_at q t) (path_split p h) ∙ ap (option_and_then (body_at (others p))) (inner-no_component (first p) t e)

pub set-map_body : (p : List ℕ) (t w : Items) (c : Component) → 1 ≤ length p → component_at (first p) t ≡ Some c → set_component (first p) (record c { body = map_body (others p) (λ _. w) c.body }) t ≡ map_body p (λ _. w) t
set-map_body p t w c h e = set-map_inner (map_body (others p) (λ _. w)) (first p) t c e ∙ ap (λ q. map_body q (λ _. w) t) (sym (path_split p h))
