-- The text of a body is that of its items, one after another.
use Rattle.std.proofs.Common.{◌≡◌, ℕ, List, [], ◌∷◌, ◌++◌, refl, ap, sym, ◌∙◌, take, take_all, length, ◌≤◌}
use Rattle.std.specs.List.{flat_map}
use Rattle.rdl_tree.specs.Items.{Items}
use Rattle.rdl_tree.specs.View.{add, items_of, list_of}
use Rattle.rdl_tree.specs.declared.description.Item.{Item}
use Rattle.rdl_tree.specs.declared.description.Item.TheVariants.{Define, Instance, Own, Default, Dynamic}
use Rattle.rdl_tree.specs.declared.description.Of.TheVariants.{Named, Anonymous}
use Rattle.rdl_tree.proofs.Rounds.{items_of-list_of}
use Rattle.rdl_write.specs.MapText.{body_text}
use Rattle.rdl_write.specs.ItemText.{item_text}

body_text-add : (indent : List ℕ) (x : Item) (rest : Items) → body_text indent (add x rest) ≡ item_text indent x ++ body_text indent rest
body_text-add indent (Define n c) rest = refl
body_text-add indent (Instance s (Named t)) rest = refl
body_text-add indent (Instance s (Anonymous c)) rest = refl
body_text-add indent (Own p v) rest = refl
body_text-add indent (Default p v) rest = refl
body_text-add indent (Dynamic t p v) rest = refl

body_text-items_of : (indent : List ℕ) (xs : List Item) → body_text indent (items_of xs) ≡ flat_map (item_text indent) xs
body_text-items_of indent [] = refl
body_text-items_of indent (x ∷ xs) = body_text-add indent x (items_of xs) ∙ ap (λ (t : List ℕ). item_text indent x ++ t) (body_text-items_of indent xs)

pub body_text-list_of : (indent : List ℕ) (t : Items) → body_text indent t ≡ flat_map (item_text indent) (list_of t)
body_text-list_of indent t = ap (body_text indent) (sym (items_of-list_of t)) ∙ body_text-items_of indent (list_of t)

-- a loop over all items has written the body
pub body_done : (old new indent : List ℕ) (t : Items) (xs : List Item) (i : ℕ) → new ≡ old ++ flat_map (item_text indent) (take i xs) → length xs ≤ i → xs ≡ list_of t → new ≡ old ++ body_text indent t
body_done old new indent t xs i e h f =
    e ∙ ap (λ (ys : List Item). old ++ flat_map (item_text indent) ys) (take_all i xs h ∙ f) ∙ ap (λ (text : List ℕ). old ++ text) (sym (body_text-list_of indent t))
