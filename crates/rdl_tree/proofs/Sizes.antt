-- How many items a list of items has, and how deep it nests.
use Rattle.std.proofs.Common.{◌≡◌, ℕ, ◌+◌, ◌≤◌, ◌<◌, max, List, [], ◌∷◌, ◌++◌, length, get_or, refl, ap, sym, ◌∙◌, arith, sum_by, take, take_all}
use Rattle.std.proofs.lemmas.List.Sums.{sum_by-cons}
use Rattle.std.proofs.lemmas.List.{take_more}
use Rattle.rdl_tree.specs.Items.{Items, no_items, count}
use Rattle.rdl_tree.specs.View.{add, items_of}
use Rattle.rdl_tree.specs.Depth.{depth}
use Rattle.rdl_tree.specs.Weight.{capped}
use Rattle.rdl_tree.specs.declared.description.Item.{Item}
use Rattle.rdl_tree.specs.declared.description.Item.TheVariants.{Define, Instance, Own, Default, Dynamic}
use Rattle.rdl_tree.specs.declared.description.Of.TheVariants.{Named, Anonymous}

-- how many an item is, with those inside it
abbrev pub item_count : Item → ℕ
item_count x = count (add x no_items)

pub count-add : (x : Item) (rest : Items) → count (add x rest) ≡ item_count x + count rest
count-add (Define n c) rest = omega arith
count-add (Instance s (Named t)) rest = omega arith
count-add (Instance s (Anonymous c)) rest = omega arith
count-add (Own p v) rest = omega arith
count-add (Default p v) rest = omega arith
count-add (Dynamic t p v) rest = omega arith

pub count-items_of : (xs : List Item) → count (items_of xs) ≡ sum_by item_count xs
count-items_of [] = refl
count-items_of (x ∷ xs) = omega (arith, count-add x (items_of xs), count-items_of xs, sum_by-cons item_count x xs)

pub count_done : (n i : ℕ) (xs ys : List Item) (t : Items) → n ≡ capped (sum_by item_count (take i xs)) → length xs ≤ i → xs ≡ ys → items_of ys ≡ t → n ≡ capped (count t)
count_done n i xs ys t e h f g =
    e ∙ ap (λ zs. capped (sum_by item_count zs)) (take_all i xs h ∙ f) ∙ ap capped (sym (count-items_of ys)) ∙ ap (λ u. capped (count u)) g

abbrev pub item_depth : Item → ℕ
item_depth x = depth (add x no_items)

pub depth-add : (x : Item) (rest : Items) → depth (add x rest) ≡ max (item_depth x) (depth rest)
depth-add (Define n c) rest = omega arith
depth-add (Instance s (Named t)) rest = omega arith
depth-add (Instance s (Anonymous c)) rest = omega arith
depth-add (Own p v) rest = omega arith
depth-add (Default p v) rest = omega arith
depth-add (Dynamic t p v) rest = omega arith

pub depth-append : (xs ys : List Item) → depth (items_of (xs ++ ys)) ≡ max (depth (items_of xs)) (depth (items_of ys))
depth-append [] ys = omega arith
depth-append (x ∷ xs) ys = depth-add x (items_of (xs ++ ys)) ∙ ap (λ n. max (item_depth x) n) (depth-append xs ys) ∙ omega (arith, depth-add x (items_of xs))

pub depth_more : (n m i : ℕ) (xs : List Item) (x : Item) → n ≡ capped (depth (items_of (take i xs))) → i < length xs → m ≡ capped (item_depth (get_or xs i x)) → max n m ≡ capped (depth (items_of (take (i + 1) xs)))
depth_more n m i xs x e h f = omega (arith, ap (λ ys. depth (items_of ys)) (take_more xs i x h), depth-append (take i xs) (get_or xs i x ∷ []), depth-add (get_or xs i x) no_items)

pub depth_done : (n i : ℕ) (xs ys : List Item) (t : Items) → n ≡ capped (depth (items_of (take i xs))) → length xs ≤ i → xs ≡ ys → items_of ys ≡ t → n ≡ capped (depth t)
depth_done n i xs ys t e h f g = e ∙ ap (λ zs. capped (depth (items_of zs))) (take_all i xs h ∙ f) ∙ ap (λ u. capped (depth u)) g
