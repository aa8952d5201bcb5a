-- An item of a body has no more items than the body, so that going down ends.
use Rattle.std.proofs.Common.{◌≡◌, ℕ, zero, suc, ◌≤◌, ◌<◌, List, [], ◌∷◌, length, get_or, ap, arith}
use Rattle.rdl_tree.specs.Items.{Items, count}
use Rattle.rdl_tree.specs.View.{items_of, list_of}
use Rattle.rdl_tree.specs.declared.description.Item.{Item}
use Rattle.rdl_tree.proofs.Rounds.{items_of-list_of}
use Rattle.rdl_tree.proofs.Sizes.{item_count, count-add}

item_count-items_of : (xs : List Item) (i : ℕ) (x : Item) → i < length xs → item_count (get_or xs i x) ≤ count (items_of xs)
item_count-items_of [] i x h = absurd (omega (arith, h))
item_count-items_of (y ∷ ys) zero x h = omega (arith, count-add y (items_of ys))
item_count-items_of (y ∷ ys) (suc i) x h = omega (arith, count-add y (items_of ys), item_count-items_of ys i x (omega (arith, h)))

pub item_count-list_of : (t : Items) (i : ℕ) (x : Item) → i < length (list_of t) → item_count (get_or (list_of t) i x) ≤ count t
item_count-list_of t i x h = omega (arith, ap count (items_of-list_of t), item_count-items_of (list_of t) i x h)

-- the step of a loop over a body's items
pub item_count-item : (xs : List Item) (i : ℕ) (x : Item) (t : Items) → i < length xs → x ≡ get_or xs i x → xs ≡ list_of t → item_count x ≤ count t
item_count-item xs i x t h e f = omega (arith, ap item_count e, ap (λ (ys : List Item). item_count (get_or ys i x)) f, item_count-list_of t i x (omega (arith, h, ap length f)))
