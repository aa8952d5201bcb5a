-- The names defined in a body are those defined in its items, one after another.
use Rattle.std.proofs.Common.{◌≡◌, ◌≤◌, ◌<◌, ℕ, Bool, List, [], ◌∷◌, ◌++◌, length, get_or, take, take_all, refl, ap, sym, ◌∙◌, arith}
use Rattle.std.proofs.lemmas.List.{append-nil}
use Rattle.std.proofs.lemmas.List.Sums.{get_or-le-sum_by}
use Rattle.std.specs.List.{flat_map, list_any}
use Rattle.rdl_tree.specs.Items.{Items, no_items, count}
use Rattle.rdl_tree.specs.View.{add, items_of, list_of}
use Rattle.rdl_tree.specs.declared.description.Item.{Item}
use Rattle.rdl_tree.specs.declared.description.Item.TheVariants.{Define, Instance, Own, Default, Dynamic}
use Rattle.rdl_tree.specs.declared.description.Of.TheVariants.{Named, Anonymous}
use Rattle.rdl_tree.proofs.Rounds.{items_of-list_of}
use Rattle.rdl_tree.proofs.Sizes.{item_count, count-items_of}
use Rattle.rdl_rewrite.specs.Names.{defined_names}

abbrev pub item_names : Item → List (List ℕ)
item_names x = defined_names (add x no_items)

defined-add : (x : Item) (rest : Items) → defined_names (add x rest) ≡ item_names x ++ defined_names rest
defined-add (Define n c) rest = ap (λ (t : List (List ℕ)). t ++ defined_names rest) (sym (append-nil (n ∷ [] ++ defined_names c.body)))
defined-add (Instance s (Named t)) rest = refl
defined-add (Instance s (Anonymous c)) rest = ap (λ (t : List (List ℕ)). t ++ defined_names rest) (sym (append-nil ([] ++ defined_names c.body)))
defined-add (Own p v) rest = refl
defined-add (Default p v) rest = refl
defined-add (Dynamic t p v) rest = refl

defined-items_of : (xs : List Item) → defined_names (items_of xs) ≡ flat_map item_names xs
defined-items_of [] = refl
defined-items_of (x ∷ xs) = defined-add x (items_of xs) ∙ ap (λ (t : List (List ℕ)). item_names x ++ t) (defined-items_of xs)

-- a loop over all items has collected the names
pub defined_done : (old new : List (List ℕ)) (t : Items) (xs : List Item) (i : ℕ) → new ≡ old ++ flat_map item_names (take i xs) → length xs ≤ i → xs ≡ list_of t → new ≡ old ++ defined_names t
defined_done old new t xs i e h f =
    e ∙ ap (λ (ys : List Item). old ++ flat_map item_names ys) (take_all i xs h ∙ f)
    ∙ ap (λ (names : List (List ℕ)). old ++ names) (sym (defined-items_of (list_of t)) ∙ ap defined_names (items_of-list_of t))

-- an item of a body has no more items than the body, so that going down ends
pub count-item : (xs : List Item) (i : ℕ) (x : Item) (t : Items) → i < length xs → x ≡ get_or xs i x → xs ≡ list_of t → item_count x ≤ count t
count-item xs i x t h e f =
    omega (arith, ap item_count e, get_or-le-sum_by item_count xs i x h, count-items_of xs, ap (λ (ys : List Item). count (items_of ys)) f, ap count (items_of-list_of t))

-- a loop over all items begins
pub any_defined_first : (p : List ℕ → Bool) (t : Items) (xs : List Item) → xs ≡ list_of t → list_any p (flat_map item_names xs) ≡ list_any p (defined_names t)
any_defined_first p t xs f =
    ap (list_any p) (sym (defined-items_of xs)) ∙ ap (λ (ys : List Item). list_any p (defined_names (items_of ys))) f ∙ ap (λ (u : Items). list_any p (defined_names u)) (items_of-list_of t)
