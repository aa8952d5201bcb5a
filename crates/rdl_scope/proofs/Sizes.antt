-- Each item of a body has at most as many items as the body, and a walk over all of them has the body's size.
use Rattle.std.proofs.Common.{◌≡◌, ℕ, zero, suc, ◌+◌, ◌≤◌, ◌<◌, max, List, [], ◌∷◌, length, get_or, ap, subst, ◌∙◌, arith, take, take_all}
use Rattle.std.proofs.lemmas.List.Sums.{sum_by_more}
use Rattle.rdl_tree.specs.Weight.{capped}
use Rattle.rdl_tree.specs.ItemWeight.{item_weight}
use Rattle.rdl_tree.specs.Items.{Items, no_items, count}
use Rattle.rdl_tree.specs.View.{add, items_of, list_of}
use Rattle.rdl_tree.specs.declared.description.Item.{Item}
use Rattle.rdl_tree.proofs.Rounds.{items_of-list_of, weight-items_of}
use Rattle.rdl_tree.proofs.Sizes.{item_count, item_depth, count-add, count-items_of, depth_more}
use Rattle.rdl_scope.specs.Sizes.{IsSizeOf}
use Rattle.rdl_scope.specs.declared.size.Size.{Size}

count-item-of : (i : ℕ) (xs : List Item) (x : Item) → i < length xs → item_count (get_or xs i x) ≤ count (items_of xs)
count-item-of i [] x h = omega (arith, h)
count-item-of zero (y ∷ xs) x h = omega (arith, count-add y (items_of xs))
count-item-of (suc i) (y ∷ xs) x h = omega (arith, count-add y (items_of xs), count-item-of i xs x (omega (arith, h)))

-- no item of a body has more items than the body
pub count-item : (i : ℕ) (t : Items) (xs : List Item) (x y : Item) → xs ≡ list_of t → i < length xs → y ≡ get_or xs i x → item_count y ≤ count t
count-item i t xs x y e h f = omega (arith, count-item-of i xs x h, ap item_count f, ap (λ l. count (items_of l)) e, ap count (items_of-list_of t))

-- a body with one more item is as large as the two
pub size-more : (r s m : Size) (i : ℕ) (xs : List Item) (x : Item) → IsSizeOf (items_of (take i xs)) s → IsSizeOf (add x no_items) m → r.depth ≡ max s.depth m.depth → r.count ≡ capped (s.count + m.count) → r.weight ≡ capped (s.weight + m.weight) → x ≡ get_or xs i x → i < length xs → IsSizeOf (items_of (take (i + 1) xs)) r
size-more r s m i xs x those one e f g h k = record {
  levels = e ∙ depth_more s.depth m.depth i xs x those.levels k (one.levels ∙ ap (λ y. capped (item_depth y)) h);
  items = omega (arith, f, those.items, one.items, count-items_of (take i xs), count-items_of (take (i + 1) xs), ap item_count h, sum_by_more item_count xs i x k);
  at_most = omega (arith, g, those.at_most, one.at_most, weight-items_of (take i xs), weight-items_of (take (i + 1) xs), ap item_weight h, sum_by_more item_weight xs i x k);
}

-- and one whose items are all counted is of that size
pub size-done : (s : Size) (i : ℕ) (xs : List Item) (t : Items) → IsSizeOf (items_of (take i xs)) s → length xs ≤ i → xs ≡ list_of t → IsSizeOf t s
size-done s i xs t those h f = subst (λ u. IsSizeOf u s) (ap items_of (take_all i xs h ∙ f) ∙ items_of-list_of t) those
