-- Whether an item passes a test, among those of a body or inside them, item by item.
use Rattle.std.proofs.Common.{◌≡◌, Bool, ◌||◌, List, [], ◌∷◌, Some, None, refl, ap, sym, ◌∙◌}
use Rattle.std.specs.List.{list_any}
use Rattle.rdl_tree.specs.Items.{Items, no_items}
use Rattle.rdl_tree.specs.View.{add, items_of, list_of, own_body}
use Rattle.rdl_tree.specs.declared.description.Item.{Item}
use Rattle.rdl_tree.specs.declared.description.Item.TheVariants.{Define, Instance, Own, Default, Dynamic}
use Rattle.rdl_tree.specs.declared.description.Of.TheVariants.{Named, Anonymous}
use Rattle.rdl_tree.proofs.Rounds.{items_of-list_of}
use Rattle.rdl_rewrite.specs.Touched.{is_any_inside}
use Rattle.rdl_rewrite.proofs.Located.{or_itself}

-- the item itself, or one inside it
abbrev pub passes_inside : (Item → Bool) → Item → Bool
passes_inside test x = is_any_inside test (add x no_items)

inside-add : (test : Item → Bool) (x : Item) (rest : Items) → is_any_inside test (add x rest) ≡ (passes_inside test x || is_any_inside test rest)
inside-add test (Define n c) rest = ap (λ b. b || is_any_inside test rest) (or_itself (is_any_inside test c.body))
inside-add test (Instance s (Named t)) rest = ap (λ b. b || is_any_inside test rest) (or_itself (test (Instance s (Named t))))
inside-add test (Instance s (Anonymous c)) rest = ap (λ b. b || is_any_inside test rest) (or_itself (is_any_inside test c.body))
inside-add test (Own p v) rest = ap (λ b. b || is_any_inside test rest) (or_itself (test (Own p v)))
inside-add test (Default p v) rest = ap (λ b. b || is_any_inside test rest) (or_itself (test (Default p v)))
inside-add test (Dynamic t p v) rest = ap (λ b. b || is_any_inside test rest) (or_itself (test (Dynamic t p v)))

inside-items_of : (test : Item → Bool) (xs : List Item) → is_any_inside test (items_of xs) ≡ list_any (passes_inside test) xs
inside-items_of test [] = refl
inside-items_of test (x ∷ xs) = inside-add test x (items_of xs) ∙ ap (λ b. passes_inside test x || b) (inside-items_of test xs)

-- a loop over a body begins
pub inside_first : (test : Item → Bool) (body : Items) (xs : List Item) → xs ≡ list_of body → list_any (passes_inside test) xs ≡ is_any_inside test body
inside_first test body xs e = sym (inside-items_of test xs) ∙ ap (λ ys. is_any_inside test (items_of ys)) e ∙ ap (is_any_inside test) (items_of-list_of body)

-- an item with a body of its own
pub inside_own : (test : Item → Bool) (x : Item) (body : Items) (r : Bool) → own_body x ≡ Some body → r ≡ is_any_inside test body → r ≡ passes_inside test x
inside_own test (Define n c) body r has e = let same : body ≡ c.body = cc in e ∙ ap (is_any_inside test) same ∙ or_itself (is_any_inside test c.body)
inside_own test (Instance s (Named t)) body r has e = cc
inside_own test (Instance s (Anonymous c)) body r has e = let same : body ≡ c.body = cc in e ∙ ap (is_any_inside test) same ∙ or_itself (is_any_inside test c.body)
inside_own test (Own p v) body r has e = cc
inside_own test (Default p v) body r has e = cc
inside_own test (Dynamic t p v) body r has e = cc

-- an item without one
pub inside_itself : (test : Item → Bool) (x : Item) (r : Bool) → own_body x ≡ None → r ≡ test x → r ≡ passes_inside test x
inside_itself test (Define n c) r none e = cc
inside_itself test (Instance s (Named t)) r none e = e ∙ or_itself (test (Instance s (Named t)))
inside_itself test (Instance s (Anonymous c)) r none e = cc
inside_itself test (Own p v) r none e = e ∙ or_itself (test (Own p v))
inside_itself test (Default p v) r none e = e ∙ or_itself (test (Default p v))
inside_itself test (Dynamic t p v) r none e = e ∙ or_itself (test (Dynamic t p v))
