-- Where items stand, and the addresses inside a body, item by item.
use Rattle.std.proofs.Common.{◌≡◌, ◌<◌, ◌+◌, ℕ, suc, Bool, true, false, ◌||◌, List, [], ◌∷◌, ◌++◌, length, get_or, drop, Some, None, Option, refl, ap, sym, ◌∙◌, arith}
use Rattle.std.proofs.lemmas.List.{append-nil}
use Rattle.std.proofs.lemmas.List.Folds.{list_any-append}
use Rattle.std.specs.Prelude.{option_and_then}
use Rattle.std.specs.List.{list_any}
use Rattle.rdl_tree.specs.ItemAt.{item_at}
use Rattle.rdl_tree.specs.Items.{Items, no_items, count}
use Rattle.rdl_tree.specs.View.{add, items_of, list_of, own_body}
use Rattle.rdl_tree.specs.Address.{inner, body_at}
use Rattle.rdl_tree.specs.declared.description.Item.{Item}
use Rattle.rdl_tree.specs.declared.description.Item.TheVariants.{Define, Instance, Own, Default, Dynamic}
use Rattle.rdl_tree.specs.declared.description.Of.TheVariants.{Named, Anonymous}
use Rattle.rdl_tree.proofs.Rests.{rest-next}
use Rattle.rdl_tree.proofs.Rounds.{items_of-list_of, inner-slice_get}
use Rattle.rdl_tree.proofs.Sizes.{item_count}
use Rattle.rdl_scope.proofs.Levelled.{item-deeper, item_got}
use Rattle.rdl_rewrite.specs.Addresses.{addresses}

-- ---- Where an item and its own body stand.

some-same : {X : Type 0} (o : Option X) → option_and_then Some o ≡ o
some-same None = refl
some-same (Some x) = refl

-- the body at an item's address is that of its own component
pub body_at-item : (a : List ℕ) (d : Items) (x : Item) → item_at a d ≡ Some x → body_at a d ≡ own_body x
body_at-item [] d x e = cc
body_at-item (k ∷ []) d x e = some-same (inner k d) ∙ inner-slice_get k d ∙ ap (option_and_then own_body) e
body_at-item (k ∷ j ∷ a) d x e = into (λ t. body_at-item (j ∷ a) t x) (inner k d) refl e
  where
    into : ((t : Items) → item_at (j ∷ a) t ≡ Some x → body_at (j ∷ a) t ≡ own_body x) → (o : Option Items) → inner k d ≡ o → option_and_then (item_at (j ∷ a)) o ≡ Some x
        → option_and_then (body_at (j ∷ a)) (inner k d) ≡ own_body x
    into ih None g h = cc
    into ih (Some t) g h = ap (option_and_then (body_at (j ∷ a))) g ∙ ih t h

-- the item that a loop over a body is at
pub item_met : (b : List ℕ) (i : ℕ) (d body : Items) (xs : List Item) (x : Item) → body_at b d ≡ Some body → xs ≡ list_of body → i < length xs → x ≡ get_or xs i x → item_at (b ++ i ∷ []) d ≡ Some x
item_met b i d body xs x here e h is = item-deeper b i d body here ∙ item_got body i xs x e h is

-- going into an item's own body ends
pub count-own : (x : Item) (t : Items) → own_body x ≡ Some t → item_count x ≡ count t + 1
count-own (Define n c) t e = let same : c.body ≡ t = cc in omega (arith, ap count same)
count-own (Instance s (Named m)) t e = cc
count-own (Instance s (Anonymous c)) t e = let same : c.body ≡ t = cc in omega (arith, ap count same)
count-own (Own p v) t e = cc
count-own (Default p v) t e = cc
count-own (Dynamic m p v) t e = cc

-- ---- The addresses inside a body.

addresses-add : (b : List ℕ) (n : ℕ) (x : Item) (rest : Items) → addresses b n (add x rest) ≡ addresses b n (add x no_items) ++ addresses b (suc n) rest
addresses-add b n (Define m c) rest = ap (λ (ws : List (List ℕ)). (b ++ n ∷ []) ∷ (ws ++ addresses b (suc n) rest)) (sym (append-nil (addresses (b ++ n ∷ []) 0 c.body)))
addresses-add b n (Instance s (Named t)) rest = refl
addresses-add b n (Instance s (Anonymous c)) rest = ap (λ (ws : List (List ℕ)). (b ++ n ∷ []) ∷ (ws ++ addresses b (suc n) rest)) (sym (append-nil (addresses (b ++ n ∷ []) 0 c.body)))
addresses-add b n (Own p v) rest = refl
addresses-add b n (Default p v) rest = refl
addresses-add b n (Dynamic t p v) rest = refl

-- whether one of the addresses from item i on passes a test
pub any-next : (p : List ℕ → Bool) (b : List ℕ) (i : ℕ) (xs : List Item) (x : Item) → i < length xs → x ≡ get_or xs i x
    → list_any p (addresses b i (items_of (drop i xs))) ≡ (list_any p (addresses b i (add x no_items)) || list_any p (addresses b (i + 1) (items_of (drop (i + 1) xs))))
any-next p b i xs x h is =
    let j : suc i ≡ i + 1 = omega arith in
    let rest = items_of (drop (i + 1) xs) in
    ap (λ t. list_any p (addresses b i t)) (rest-next i xs x h ∙ ap (λ y. add y rest) (sym is))
    ∙ ap (list_any p) (addresses-add b i x rest) ∙ list_any-append p (addresses b i (add x no_items)) (addresses b (suc i) rest)
    ∙ ap (λ k. list_any p (addresses b i (add x no_items)) || list_any p (addresses b k rest)) j

pub any_first : (p : List ℕ → Bool) (b : List ℕ) (body : Items) (xs : List Item) → xs ≡ list_of body → list_any p (addresses b 0 body) ≡ list_any p (addresses b 0 (items_of xs))
any_first p b body xs e = ap (λ t. list_any p (addresses b 0 t)) (sym (ap items_of e ∙ items_of-list_of body))

-- an item does not pass it
pub any_unmet : (p : List ℕ → Bool) (b : List ℕ) (i : ℕ) (xs : List Item) (x : Item) (r all : Bool) → i < length xs → x ≡ get_or xs i x → r ≡ list_any p (addresses b i (add x no_items)) → r ≡ false
    → all ≡ list_any p (addresses b i (items_of (drop i xs))) → all ≡ list_any p (addresses b (i + 1) (items_of (drop (i + 1) xs)))
any_unmet p b i xs x r all h is e fails w =
    w ∙ any-next p b i xs x h is ∙ ap (λ q. q || list_any p (addresses b (i + 1) (items_of (drop (i + 1) xs)))) (sym e ∙ fails)

pub or_itself : (b : Bool) → b ≡ (b || false)
or_itself true = refl
or_itself false = refl

-- an item without a body of its own passes it or doesn't
pub any_itself : (p : List ℕ → Bool) (b : List ℕ) (n : ℕ) (x : Item) (r : Bool) → own_body x ≡ None → r ≡ p (b ++ n ∷ []) → r ≡ list_any p (addresses b n (add x no_items))
any_itself p b n (Define m c) r none e = cc
any_itself p b n (Instance s (Named t)) r none e = e ∙ or_itself (p (b ++ n ∷ []))
any_itself p b n (Instance s (Anonymous c)) r none e = cc
any_itself p b n (Own q v) r none e = e ∙ or_itself (p (b ++ n ∷ []))
any_itself p b n (Default q v) r none e = e ∙ or_itself (p (b ++ n ∷ []))
any_itself p b n (Dynamic t q v) r none e = e ∙ or_itself (p (b ++ n ∷ []))
