-- The patches of fates, item by item.
use Rattle.std.proofs.Common.{◌≡◌, ◌<◌, ◌+◌, ℕ, suc, List, ◌++◌, length, get_or, drop, refl, ap, sym, ◌∙◌, arith, append_assoc}
use Rattle.rdl_tree.specs.Items.{Items, no_items}
use Rattle.rdl_tree.specs.View.{add, items_of, list_of}
use Rattle.rdl_tree.specs.declared.description.Item.{Item}
use Rattle.rdl_tree.specs.declared.description.Item.TheVariants.{Define, Instance, Own, Default, Dynamic}
use Rattle.rdl_tree.specs.declared.description.Of.TheVariants.{Named, Anonymous}
use Rattle.rdl_tree.specs.declared.patch.Patch.{Patch}
use Rattle.rdl_tree.proofs.Rests.{rest-next}
use Rattle.rdl_tree.proofs.Rounds.{items_of-list_of}
use Rattle.rdl_rewrite.specs.Fates.{fate_patches}
use Rattle.rdl_rewrite.specs.declared.fate.Fate.{Fate}

patches-add : (f : List ℕ → Item → Fate) (b : List ℕ) (n : ℕ) (x : Item) (rest : Items) → fate_patches f b n (add x rest) ≡ fate_patches f b (suc n) rest ++ fate_patches f b n (add x no_items)
patches-add f b n (Define m c) rest = refl
patches-add f b n (Instance s (Named t)) rest = refl
patches-add f b n (Instance s (Anonymous c)) rest = refl
patches-add f b n (Own p v) rest = refl
patches-add f b n (Default p v) rest = refl
patches-add f b n (Dynamic t p v) rest = refl

patches-next : (f : List ℕ → Item → Fate) (b : List ℕ) (i : ℕ) (xs : List Item) (x : Item) → i < length xs → x ≡ get_or xs i x
    → fate_patches f b i (items_of (drop i xs)) ≡ fate_patches f b (i + 1) (items_of (drop (i + 1) xs)) ++ fate_patches f b i (add x no_items)
patches-next f b i xs x h is =
    let j : suc i ≡ i + 1 = omega arith in
    let rest = items_of (drop (i + 1) xs) in
    ap (fate_patches f b i) (rest-next i xs x h ∙ ap (λ y. add y rest) (sym is)) ∙ patches-add f b i x rest
    ∙ ap (λ k. fate_patches f b k rest ++ fate_patches f b i (add x no_items)) j

-- a loop over a body begins
pub reached_first : (f : List ℕ → Item → Fate) (b : List ℕ) (body : Items) (xs : List Item) (ps : List Patch) → xs ≡ list_of body → fate_patches f b 0 body ++ ps ≡ fate_patches f b 0 (items_of xs) ++ ps
reached_first f b body xs ps e = ap (λ t. fate_patches f b 0 t ++ ps) (sym (ap items_of e ∙ items_of-list_of body))

-- one item more
pub reached_more : (f : List ℕ → Item → Fate) (b : List ℕ) (i : ℕ) (xs : List Item) (x : Item) (all ps qs : List Patch) → i < length xs → x ≡ get_or xs i x
    → qs ≡ fate_patches f b i (add x no_items) ++ ps → all ≡ fate_patches f b i (items_of (drop i xs)) ++ ps → all ≡ fate_patches f b (i + 1) (items_of (drop (i + 1) xs)) ++ qs
reached_more f b i xs x all ps qs h is pushed w =
    let later = fate_patches f b (i + 1) (items_of (drop (i + 1) xs)) in
    w ∙ ap (λ us. us ++ ps) (patches-next f b i xs x h is) ∙ append_assoc later (fate_patches f b i (add x no_items)) ps ∙ ap (λ us. later ++ us) (sym pushed)
