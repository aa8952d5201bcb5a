-- The items of a body one by one, from the front.
use Rattle.std.proofs.Common.{◌≡◌, ℕ, zero, suc, ◌+◌, ◌<◌, ◌≤◌, List, [], ◌∷◌, length, drop, get_or, refl, ap, sym, ◌∙◌, arith}
use Rattle.rdl_tree.specs.Items.{Items, no_items, plain, holder}
use Rattle.rdl_tree.specs.View.{add, items_of, list_of}
use Rattle.rdl_tree.specs.declared.description.Item.{Item}
use Rattle.rdl_tree.proofs.Rounds.{items_of-list_of}
use Rattle.rdl_seen.specs.Contents.{item_count}

-- ---- Lists.

pub drop_at : {X : Type 0} (xs : List X) (i : ℕ) (x : X) → i < length xs → x ≡ get_or xs i x → drop i xs ≡ x ∷ drop (i + 1) xs
drop_at [] i x h e = absurd (omega arith)
drop_at (y ∷ ys) zero x h e = let same : x ≡ y = e in ap (λ z. z ∷ ys) (sym same)
drop_at (y ∷ ys) (suc i) x h e =
    let more : drop (suc (i + 1)) (y ∷ ys) ≡ drop (suc i + 1) (y ∷ ys) = (let n : suc (i + 1) ≡ suc i + 1 = omega arith in ap (λ k. drop k (y ∷ ys)) n) in
    drop_at ys i x (omega arith) e ∙ ap (λ zs. x ∷ zs) more

pub drop_past : {X : Type 0} (xs : List X) (i : ℕ) → length xs ≤ i → drop i xs ≡ []
drop_past [] zero h = refl
drop_past [] (suc i) h = refl
drop_past (x ∷ xs) zero h = absurd (omega arith)
drop_past (x ∷ xs) (suc i) h = drop_past xs i (omega arith)

-- ---- Items.

pub items_at : (xs : List Item) (i : ℕ) (x : Item) → i < length xs → x ≡ get_or xs i x → items_of (drop i xs) ≡ add x (items_of (drop (i + 1) xs))
items_at xs i x h e = ap items_of (drop_at xs i x h e)

pub items_past : (xs : List Item) (i : ℕ) → length xs ≤ i → items_of (drop i xs) ≡ no_items
items_past xs i h = ap items_of (drop_past xs i h)

pub items_all : (xs : List Item) (t : Items) → xs ≡ list_of t → items_of (drop 0 xs) ≡ t
items_all xs t e = ap items_of e ∙ items_of-list_of t

-- ---- How many they are.

pub item_count_is : (t : Items) → item_count t ≡ length (list_of t)
item_count_is no_items = refl
item_count_is (plain p rest) = omega (arith, item_count_is rest)
item_count_is (holder h body rest) = omega (arith, item_count_is rest)
