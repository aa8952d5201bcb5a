-- The rest of a body's items, from one of them on: the steps of a loop over a body.
use Rattle.std.proofs.Common.{◌≡◌, ℕ, zero, suc, ◌+◌, ◌<◌, ◌≤◌, List, [], ◌∷◌, length, get_or, drop, Some, ap, add-one, drop-cons}
use Rattle.std.specs.Prelude.{slice_get}
use Rattle.std.proofs.lemmas.List.{drop_all}
use Rattle.rdl_tree.specs.Items.{Items, no_items}
use Rattle.rdl_tree.specs.View.{add, items_of, list_of}
use Rattle.rdl_tree.specs.declared.description.Item.{Item}
use Rattle.rdl_tree.proofs.Rounds.{items_of-list_of}

-- from item 0 on, they are all items
pub rest-all : (t : Items) → items_of (drop 0 (list_of t)) ≡ t
rest-all t = items_of-list_of t

-- behind the last item there is none
pub rest-none : (i : ℕ) (xs : List Item) → length xs ≤ i → items_of (drop i xs) ≡ no_items
rest-none i xs h = ap items_of (drop_all i xs h)

-- the item of a number, and those behind it
pub rest-next : (i : ℕ) (xs : List Item) (x : Item) → i < length xs → items_of (drop i xs) ≡ add (get_or xs i x) (items_of (drop (i + 1) xs))
rest-next i xs x h = rw add-one (ap items_of (drop-cons xs i x h))

-- the same of an item that was looked up
drop-found : (i : ℕ) (xs : List Item) (x : Item) → slice_get xs i ≡ Some x → drop i xs ≡ x ∷ drop (suc i) xs
drop-found i [] x e = cc
drop-found zero (y ∷ ys) x e = let same : y ≡ x = cc in ap (λ z. z ∷ ys) same
drop-found (suc i) (y ∷ ys) x e = drop-found i ys x e

pub rest-found : (i : ℕ) (xs : List Item) (x : Item) → slice_get xs i ≡ Some x → items_of (drop i xs) ≡ add x (items_of (drop (i + 1) xs))
rest-found i xs x e = rw add-one (ap items_of (drop-found i xs x e))
