-- The sizes of a body's items are those of each item, one after another.
use Rattle.std.proofs.Common.{◌≡◌, ℕ, zero, suc, ◌+◌, ◌≤◌, ◌<◌, List, [], ◌∷◌, ◌++◌, length, get_or, take, take_all, Some, None, refl, ap, sym, ◌∙◌, arith}
use Rattle.std.proofs.lemmas.List.{append-nil}
use Rattle.std.specs.List.{flat_map}
use Rattle.rdl_tree.specs.Items.{Items, no_items, count}
use Rattle.rdl_tree.specs.Weight.{capped}
use Rattle.rdl_tree.specs.View.{add, items_of, list_of, own_body}
use Rattle.rdl_tree.specs.declared.description.Item.{Item}
use Rattle.rdl_tree.specs.declared.description.Item.TheVariants.{Define, Instance, Own, Default, Dynamic}
use Rattle.rdl_tree.specs.declared.description.Of.TheVariants.{Named, Anonymous}
use Rattle.rdl_tree.proofs.Rounds.{items_of-list_of}
use Rattle.rdl_tree.proofs.Sizes.{item_count, count-add}
use Rattle.rdl_weave.specs.Untouched.{sizes_of}

abbrev pub item_sizes : Item → List ℕ
item_sizes x = sizes_of (add x no_items)

sizes-add : (x : Item) (rest : Items) → sizes_of (add x rest) ≡ item_sizes x ++ sizes_of rest
sizes-add (Define n c) rest = ap (λ (s : List ℕ). capped (count c.body + 1) ∷ (s ++ sizes_of rest)) (sym (append-nil (sizes_of c.body)))
sizes-add (Instance s (Named t)) rest = refl
sizes-add (Instance s (Anonymous c)) rest = ap (λ (s : List ℕ). capped (count c.body + 1) ∷ (s ++ sizes_of rest)) (sym (append-nil (sizes_of c.body)))
sizes-add (Own p v) rest = refl
sizes-add (Default p v) rest = refl
sizes-add (Dynamic t p v) rest = refl

sizes-items_of : (xs : List Item) → sizes_of (items_of xs) ≡ flat_map item_sizes xs
sizes-items_of [] = refl
sizes-items_of (x ∷ xs) = sizes-add x (items_of xs) ∙ ap (λ (s : List ℕ). item_sizes x ++ s) (sizes-items_of xs)

-- a loop over all items has pushed the sizes of the body
pub sizes_done : (old new : List ℕ) (t : Items) (xs : List Item) (i : ℕ) → new ≡ old ++ flat_map item_sizes (take i xs) → length xs ≤ i → xs ≡ list_of t → new ≡ old ++ sizes_of t
sizes_done old new t xs i e h f =
    e ∙ ap (λ (ys : List Item). old ++ flat_map item_sizes ys) (take_all i xs h ∙ f) ∙ ap (λ (s : List ℕ). old ++ s) (sym (ap sizes_of (sym (items_of-list_of t)) ∙ sizes-items_of (list_of t)))

-- an item's own size, and those inside it
pub sizes_own : (x : Item) (b : Items) → own_body x ≡ Some b → item_sizes x ≡ capped (item_count x) ∷ sizes_of b
sizes_own (Define n c) b e = let same : c.body ≡ b = cc in ap (λ (s : List ℕ). capped (count c.body + 1) ∷ s) (append-nil (sizes_of c.body) ∙ ap sizes_of same) ∙ ap (λ k. capped k ∷ sizes_of b) (omega arith)
sizes_own (Instance s (Named t)) b e = cc
sizes_own (Instance s (Anonymous c)) b e = let same : c.body ≡ b = cc in ap (λ (s : List ℕ). capped (count c.body + 1) ∷ s) (append-nil (sizes_of c.body) ∙ ap sizes_of same) ∙ ap (λ k. capped k ∷ sizes_of b) (omega arith)
sizes_own (Own p v) b e = cc
sizes_own (Default p v) b e = cc
sizes_own (Dynamic t p v) b e = cc

pub sizes_alone : (x : Item) → own_body x ≡ None → item_sizes x ≡ capped (item_count x) ∷ []
sizes_alone (Define n c) e = cc
sizes_alone (Instance s (Named t)) e = refl
sizes_alone (Instance s (Anonymous c)) e = cc
sizes_alone (Own p v) e = refl
sizes_alone (Default p v) e = refl
sizes_alone (Dynamic t p v) e = refl

pub count_own : (x : Item) (b : Items) → own_body x ≡ Some b → item_count x ≡ count b + 1
count_own (Define n c) b e = let same : c.body ≡ b = cc in omega (arith, ap count same)
count_own (Instance s (Named t)) b e = cc
count_own (Instance s (Anonymous c)) b e = let same : c.body ≡ b = cc in omega (arith, ap count same)
count_own (Own p v) b e = cc
count_own (Default p v) b e = cc
count_own (Dynamic t p v) b e = cc

count-place : (xs : List Item) (i : ℕ) (x : Item) → i < length xs → item_count (get_or xs i x) ≤ count (items_of xs)
count-place [] i x h = absurd (omega (arith, h))
count-place (y ∷ ys) zero x h = omega (arith, count-add y (items_of ys))
count-place (y ∷ ys) (suc i) x h = omega (arith, count-add y (items_of ys), count-place ys i x (omega (arith, h)))

-- the step of a loop over the items of a body
pub count-item : (xs : List Item) (i : ℕ) (x : Item) (t : Items) → i < length xs → x ≡ get_or xs i x → xs ≡ list_of t → item_count x ≤ count t
count-item xs i x t h e f =
    omega (arith, ap item_count e, count-place xs i x h, ap (λ l. count (items_of l)) f, ap count (items_of-list_of t))
