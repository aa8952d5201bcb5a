-- Items that are part of others: they nest no deeper, and are no more and no heavier.
use Rattle.std.proofs.Common.{ℕ, zero, suc, ◌≤◌, List, [], ◌∷◌, ◌++◌, Option, Some, None, All, IfSome, remove, slice_get, subst, arith}
use Rattle.std.proofs.lemmas.List.Elements.{All-nil, All-cons, All-weaker}
use Rattle.std.specs.Prelude.{option_and_then}
use Rattle.rdl_tree.specs.Address.{inner, map_inner, body_at, map_body, holder_of, number_of}
use Rattle.rdl_tree.specs.Depth.{depth}
use Rattle.rdl_tree.specs.Edit.{remove_item}
use Rattle.rdl_tree.specs.ItemAt.{item_at}
use Rattle.rdl_tree.specs.Items.{Items, no_items, plain, holder, Plain, named, own, default, dynamic, Holder, define, anonymous, count}
use Rattle.rdl_tree.specs.Limits.{IsWithinLimits}
use Rattle.rdl_tree.specs.View.{add, items_of, list_of, plain_item, holder_item}
use Rattle.rdl_tree.specs.Weight.{weight}
use Rattle.rdl_tree.specs.declared.description.Item.{Item}
use Rattle.rdl_tree.specs.declared.description.Item.TheVariants.{Define, Instance, Own, Default, Dynamic}
use Rattle.rdl_tree.specs.declared.description.Of.TheVariants.{Named, Anonymous}
use Rattle.rdl_tree.proofs.Rounds.{items_of-list_of}

and-then : {X Y : Type 0} (A : X → Type 0) (B : Y → Type 0) (f : X → Option Y) (o : Option X) → IfSome o A → ((x : X) → A x → IfSome (f x) B) → IfSome (option_and_then f o) B
and-then A B f None h k = tt
and-then A B f (Some x) h k = k x h

-- no more of anything
pub record IsPartOf (a b : Items) : Type 0 where
  pub deep : depth a ≤ depth b
  pub many : count a ≤ count b
  pub heavy : weight a ≤ weight b

pub through : (a b c : Items) → IsPartOf b c → IsPartOf a b → IsPartOf a c
through a b c h k = record { deep = omega (arith, h.deep, k.deep); many = omega (arith, h.many, k.many); heavy = omega (arith, h.heavy, k.heavy) }

pub further : {X : Type 0} (A B : X → Type 0) (o : Option X) → ((x : X) → A x → B x) → IfSome o A → IfSome o B
further A B None k h = tt
further A B (Some x) k h = k x h

alone-plain : (p : Plain) (rest : Items) → IsPartOf (items_of (plain_item p ∷ [])) (plain p rest)
alone-plain (named s t) rest = record { deep = omega arith; many = omega arith; heavy = omega arith }
alone-plain (own p v) rest = record { deep = omega arith; many = omega arith; heavy = omega arith }
alone-plain (default p v) rest = record { deep = omega arith; many = omega arith; heavy = omega arith }
alone-plain (dynamic t p v) rest = record { deep = omega arith; many = omega arith; heavy = omega arith }

alone-holder : (h : Holder) (body rest : Items) → IsPartOf (items_of (holder_item h body ∷ [])) (holder h body rest)
alone-holder (define n k) body rest = record { deep = omega arith; many = omega arith; heavy = omega arith }
alone-holder (anonymous s k) body rest = record { deep = omega arith; many = omega arith; heavy = omega arith }

behind-plain : (p : Plain) (rest : Items) → IsPartOf rest (plain p rest)
behind-plain p rest = record { deep = omega arith; many = omega arith; heavy = omega arith }

behind-holder : (h : Holder) (body rest : Items) → IsPartOf rest (holder h body rest)
behind-holder h body rest = record { deep = omega arith; many = omega arith; heavy = omega arith }

inside-holder : (h : Holder) (body rest : Items) → IsPartOf body (holder h body rest)
inside-holder h body rest = record { deep = omega arith; many = omega arith; heavy = omega arith }

abbrev pub IsItemOf : Items → Item → Type 0
IsItemOf t x = IsPartOf (items_of (x ∷ [])) t

pub got-part : (t : Items) (n : ℕ) → IfSome (slice_get (list_of t) n) (IsItemOf t)
got-part no_items n = tt
got-part (plain p rest) zero = alone-plain p rest
got-part (holder h body rest) zero = alone-holder h body rest
got-part (plain p rest) (suc n) =
    further (IsItemOf rest) (IsItemOf (plain p rest)) (slice_get (list_of rest) n) (λ x k. through (items_of (x ∷ [])) rest (plain p rest) (behind-plain p rest) k) (got-part rest n)
got-part (holder h body rest) (suc n) =
    further (IsItemOf rest) (IsItemOf (holder h body rest)) (slice_get (list_of rest) n) (λ x k. through (items_of (x ∷ [])) rest (holder h body rest) (behind-holder h body rest) k) (got-part rest n)

abbrev pub IsBodyOf : Items → Items → Type 0
IsBodyOf t b = IsPartOf b t

inner-part : (i : ℕ) (t : Items) → IfSome (inner i t) (IsBodyOf t)
inner-part i no_items = tt
inner-part zero (plain p rest) = tt
inner-part zero (holder h body rest) = inside-holder h body rest
inner-part (suc i) (plain p rest) = further (IsBodyOf rest) (IsBodyOf (plain p rest)) (inner i rest) (λ b k. through b rest (plain p rest) (behind-plain p rest) k) (inner-part i rest)
inner-part (suc i) (holder h body rest) = further (IsBodyOf rest) (IsBodyOf (holder h body rest)) (inner i rest) (λ b k. through b rest (holder h body rest) (behind-holder h body rest) k) (inner-part i rest)

pub found-part : (at : List ℕ) (t : Items) → IfSome (item_at at t) (IsItemOf t)
found-part [] t = tt
found-part (i ∷ []) t = got-part t i
found-part (i ∷ j ∷ path) t =
    and-then (IsBodyOf t) (IsItemOf t) (item_at (j ∷ path)) (inner i t) (inner-part i t)
    (λ b k. further (IsItemOf b) (IsItemOf t) (item_at (j ∷ path) b) (λ x e. through (items_of (x ∷ [])) b t k e) (found-part (j ∷ path) b))

pub within-part : (a b : Items) → IsPartOf a b → IsWithinLimits b → IsWithinLimits a
within-part a b h w = record { deep = omega (arith, h.deep, w.deep); many = omega (arith, h.many, w.many); heavy = omega (arith, h.heavy, w.heavy) }

itself : (a : Items) → IsPartOf a a
itself a = record { deep = omega arith; many = omega arith; heavy = omega arith }

pub body-part : (way : List ℕ) (t : Items) → IfSome (body_at way t) (IsBodyOf t)
body-part [] t = itself t
body-part (i ∷ way) t = and-then (IsBodyOf t) (IsBodyOf t) (body_at way) (inner i t) (inner-part i t) (λ b k. further (IsBodyOf b) (IsBodyOf t) (body_at way b) (λ c e. through c b t k e) (body-part way b))

-- ---- Lists of items.

add-both : (x : Item) (a b : Items) → IsPartOf a b → IsPartOf (add x a) (add x b)
add-both (Define n c) a b h = record { deep = omega (arith, h.deep); many = omega (arith, h.many); heavy = omega (arith, h.heavy) }
add-both (Instance s (Named t)) a b h = record { deep = omega (arith, h.deep); many = omega (arith, h.many); heavy = omega (arith, h.heavy) }
add-both (Instance s (Anonymous c)) a b h = record { deep = omega (arith, h.deep); many = omega (arith, h.many); heavy = omega (arith, h.heavy) }
add-both (Own p v) a b h = record { deep = omega (arith, h.deep); many = omega (arith, h.many); heavy = omega (arith, h.heavy) }
add-both (Default p v) a b h = record { deep = omega (arith, h.deep); many = omega (arith, h.many); heavy = omega (arith, h.heavy) }
add-both (Dynamic t p v) a b h = record { deep = omega (arith, h.deep); many = omega (arith, h.many); heavy = omega (arith, h.heavy) }

add-more : (x : Item) (a : Items) → IsPartOf a (add x a)
add-more (Define n c) a = record { deep = omega arith; many = omega arith; heavy = omega arith }
add-more (Instance s (Named t)) a = record { deep = omega arith; many = omega arith; heavy = omega arith }
add-more (Instance s (Anonymous c)) a = record { deep = omega arith; many = omega arith; heavy = omega arith }
add-more (Own p v) a = record { deep = omega arith; many = omega arith; heavy = omega arith }
add-more (Default p v) a = record { deep = omega arith; many = omega arith; heavy = omega arith }
add-more (Dynamic t p v) a = record { deep = omega arith; many = omega arith; heavy = omega arith }

none-part : (a : Items) → IsPartOf no_items a
none-part a = record { deep = omega arith; many = omega arith; heavy = omega arith }

front-part : (xs ys : List Item) → IsPartOf (items_of xs) (items_of (xs ++ ys))
front-part [] ys = none-part (items_of ys)
front-part (x ∷ xs) ys = add-both x (items_of xs) (items_of (xs ++ ys)) (front-part xs ys)

back-part : (xs ys : List Item) → IsPartOf (items_of ys) (items_of (xs ++ ys))
back-part [] ys = itself (items_of ys)
back-part (x ∷ xs) ys = through (items_of ys) (items_of (xs ++ ys)) (add x (items_of (xs ++ ys))) (add-more x (items_of (xs ++ ys))) (back-part xs ys)

-- those between two others
pub between-part : (xs ys zs : List Item) → IsPartOf (items_of ys) (items_of (xs ++ ys ++ zs))
between-part xs ys zs = through (items_of ys) (items_of (xs ++ ys)) (items_of (xs ++ ys ++ zs)) (front-part (xs ++ ys) zs) (back-part xs ys)

pub each-part : (xs : List Item) → All (IsItemOf (items_of xs)) xs
each-part [] = All-nil (IsItemOf no_items)
each-part (x ∷ xs) =
    let whole = items_of (x ∷ xs) in
    All-cons (IsItemOf whole) x xs (add-both x no_items (items_of xs) (none-part (items_of xs)))
    (All-weaker (IsItemOf (items_of xs)) (IsItemOf whole) (λ (y : Item) k. through (items_of (y ∷ [])) (items_of xs) whole (add-more x (items_of xs)) k) xs (each-part xs))

-- ---- Items taken out.

removed-list : (xs : List Item) (n : ℕ) → IsPartOf (items_of (remove xs n)) (items_of xs)
removed-list [] zero = itself no_items
removed-list [] (suc n) = itself no_items
removed-list (x ∷ xs) zero = add-more x (items_of xs)
removed-list (x ∷ xs) (suc n) = add-both x (items_of (remove xs n)) (items_of xs) (removed-list xs n)

removed-part : (n : ℕ) (b : Items) → IsPartOf (remove_item n b) b
removed-part n b = subst (IsPartOf (remove_item n b)) (items_of-list_of b) (removed-list (list_of b) n)

changed-inner : (i : ℕ) (f : Items → Items) (t : Items) → ((b : Items) → IsPartOf (f b) b) → IsPartOf (map_inner i f t) t
changed-inner i f no_items k = itself no_items
changed-inner zero f (plain p rest) k = itself (plain p rest)
changed-inner zero f (holder h body rest) k = let c = k body in record { deep = omega (arith, c.deep); many = omega (arith, c.many); heavy = omega (arith, c.heavy) }
changed-inner (suc i) f (plain p rest) k = let c = changed-inner i f rest k in record { deep = omega (arith, c.deep); many = omega (arith, c.many); heavy = omega (arith, c.heavy) }
changed-inner (suc i) f (holder h body rest) k = let c = changed-inner i f rest k in record { deep = omega (arith, c.deep); many = omega (arith, c.many); heavy = omega (arith, c.heavy) }

changed-part : (way : List ℕ) (f : Items → Items) (t : Items) → ((b : Items) → IsPartOf (f b) b) → IsPartOf (map_body way f t) t
changed-part [] f t k = k t
changed-part (i ∷ way) f t k = changed-inner i (map_body way f) t (λ b. changed-part way f b k)

-- the description without the item at an address
pub deleted-part : (at : List ℕ) (t : Items) → IsPartOf (map_body (holder_of at) (remove_item (number_of at)) t) t
deleted-part at t = changed-part (holder_of at) (remove_item (number_of at)) t (removed-part (number_of at))
