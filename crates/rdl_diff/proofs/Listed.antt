-- Texts with commas between them, the first one apart.
use Rattle.std.proofs.Common.{◌≡◌, ℕ, ◌≤◌, ◌-◌, List, [], ◌∷◌, ◌++◌, map, flat_map, take, drop, get_or, arith, length, codes, refl, sym, ap, ◌∙◌, Global}
use Rattle.std.specs.declared.vec.Vec.{Vec}
use denote.Ref.{Bor}
use Rattle.std.proofs.lemmas.List.{take_all}
use Rattle.std.proofs.lemmas.List.{length-map}
use Rattle.rdl_list.specs.ListText.{path_text}
use Rattle.rdl_diff.specs.Alike.{behind_text, item_text, own_text, run_text}
use Rattle.rdl_diff.specs.DiffText.{change_text, listed}
use Rattle.rdl_diff.specs.Seen.{change_seen, changes_seen, item_seen, items_seen, path_seen}
use Rattle.rdl_diff.specs.declared.change.Change.{Change}
use Rattle.rdl_diff.specs.declared.entry.Item.{Item}

-- the first of some things, and the others
pub first-split : {A : Type 0} (xs : List A) (x : A) → 1 ≤ length xs → get_or xs 0 x ≡ x → xs ≡ x ∷ take (length xs - 1) (drop 1 xs)
first-split [] x some e = absurd (omega arith)
first-split (y ∷ ys) x some e = ap (λ z. z ∷ ys) e ∙ ap (λ zs. x ∷ zs) (sym (take_all (length (y ∷ ys) - 1) ys (omega arith)))

-- each has a text, by what is seen of it
others-listed : {A B : Type 0} (text_of : B → List ℕ) (see : A → B) (xs : List A) → flat_map (λ x. codes ", " ++ text_of (see x)) xs ≡ flat_map (λ u. codes ", " ++ u) (map text_of (map see xs))
others-listed text_of see [] = refl
others-listed text_of see (x ∷ xs) = ap (λ t. (codes ", " ++ text_of (see x)) ++ t) (others-listed text_of see xs)

listed_of : {A B : Type 0} (text_of : B → List ℕ) (see : A → B) (xs : List A) (first : A) (others : List A) → xs ≡ first ∷ others
    → text_of (see first) ++ flat_map (λ x. codes ", " ++ text_of (see x)) others ≡ listed (map text_of (map see xs))
listed_of text_of see xs first others e =
    ap (λ ts. text_of (see first) ++ ts) (others-listed text_of see others)
    ∙ ap (λ ys. listed (map text_of (map see ys))) (sym e)

pub listed_changes : (xs : List Change) (first : Change) (others : List Change) → xs ≡ first ∷ others
    → change_text (change_seen first) ++ flat_map (λ c. codes ", " ++ change_text (change_seen c)) others ≡ listed (map change_text (changes_seen xs))
listed_changes = listed_of change_text change_seen

pub listed_paths : (xs : List (Vec (Bor (List ℕ)) Global)) (first : Vec (Bor (List ℕ)) Global) (others : List (Vec (Bor (List ℕ)) Global)) → xs ≡ first ∷ others
    → path_text (path_seen first) ++ flat_map (λ p. codes ", " ++ path_text (path_seen p)) others ≡ listed (map path_text (map path_seen xs))
listed_paths = listed_of path_text path_seen

-- paths, as the code holds them and as they are seen
pub as_many : (ps : List (Vec (Bor (List ℕ)) Global)) → length (map path_seen ps) ≡ length ps
as_many ps = length-map ps path_seen

-- what differs but for bases
pub own_all : (cs : List Change) → flat_map (λ c. own_text (change_seen c)) cs ≡ flat_map own_text (changes_seen cs)
own_all [] = refl
own_all (c ∷ cs) = ap (λ t. own_text (change_seen c) ++ t) (own_all cs)

-- paths from a depth on
pub paths_all : (d : ℕ) (ps : List (Vec (Bor (List ℕ)) Global)) → flat_map (λ p. codes " " ++ behind_text (drop d (path_seen p))) ps ≡ flat_map (λ p. codes " " ++ behind_text (drop d p)) (map path_seen ps)
paths_all d [] = refl
paths_all d (p ∷ ps) = ap (λ t. (codes " " ++ behind_text (drop d (path_seen p))) ++ t) (paths_all d ps)

-- items
pub items_all : (d : ℕ) (is : List Item) → flat_map (λ i. item_text d (item_seen i)) is ≡ run_text d (items_seen is)
items_all d [] = refl
items_all d (i ∷ is) = ap (λ t. item_text d (item_seen i) ++ t) (items_all d is)
