-- A list with an item put in, taken out or replaced, and that undone.
use Rattle.std.proofs.Common.{◌≡◌, ℕ, zero, suc, ◌<◌, ◌≤◌, List, [], ◌∷◌, ◌++◌, length, Some, refl, ap, sym, ◌∙◌, arith}
use Rattle.std.specs.Prelude.{insert, remove, slice_get, slice_set}
use Rattle.std.proofs.lemmas.List.Edits.{length-insert, length-remove}
use Rattle.rdl_tree.specs.Items.{Items}
use Rattle.rdl_tree.specs.View.{items_of, list_of}
use Rattle.rdl_tree.specs.Edit.{insert_item}
use Rattle.rdl_tree.specs.declared.description.Item.{Item}
use Rattle.rdl_tree.proofs.Rounds.{list_of-items_of}

pub remove-insert : {X : Type 0} (xs : List X) (i : ℕ) (x : X) → i ≤ length xs → remove (insert xs i x) i ≡ xs
remove-insert xs zero x h = refl
remove-insert [] (suc i) x h = absurd (omega arith)
remove-insert (y ∷ ys) (suc i) x h = ap (λ zs. y ∷ zs) (remove-insert ys i x (omega arith))

pub get-insert : {X : Type 0} (xs : List X) (i : ℕ) (x : X) → i ≤ length xs → slice_get (insert xs i x) i ≡ Some x
get-insert xs zero x h = refl
get-insert [] (suc i) x h = absurd (omega arith)
get-insert (y ∷ ys) (suc i) x h = get-insert ys i x (omega arith)

pub insert-remove : {X : Type 0} (xs : List X) (i : ℕ) (x : X) → slice_get xs i ≡ Some x → insert (remove xs i) i x ≡ xs
insert-remove [] i x e = cc
insert-remove (y ∷ ys) zero x e = let same : x ≡ y = cc in ap (λ z. z ∷ ys) same
insert-remove (y ∷ ys) (suc i) x e = ap (λ zs. y ∷ zs) (insert-remove ys i x e)

pub get-set : {X : Type 0} (xs : List X) (i : ℕ) (x y : X) → slice_get xs i ≡ Some x → slice_get (slice_set xs i y) i ≡ Some y
get-set [] i x y e = cc
get-set (z ∷ zs) zero x y e = refl
get-set (z ∷ zs) (suc i) x y e = get-set zs i x y e

pub set-back : {X : Type 0} (xs : List X) (i : ℕ) (x y : X) → slice_get xs i ≡ Some x → slice_set (slice_set xs i y) i x ≡ xs
set-back [] i x y e = refl
set-back (z ∷ zs) zero x y e = let same : x ≡ z = cc in ap (λ w. w ∷ zs) same
set-back (z ∷ zs) (suc i) x y e = ap (λ ws. z ∷ ws) (set-back zs i x y e)

pub get-within : {X : Type 0} (xs : List X) (i : ℕ) (x : X) → slice_get xs i ≡ Some x → i < length xs
get-within [] i x e = cc
get-within (y ∷ ys) zero x e = omega arith
get-within (y ∷ ys) (suc i) x e = omega (arith, get-within ys i x e)

pub get-some : {X : Type 0} (xs : List X) (i : ℕ) → i < length xs → (x : X) × (slice_get xs i ≡ Some x)
get-some [] i h = absurd (omega arith)
get-some (y ∷ ys) zero h = (y, refl)
get-some (y ∷ ys) (suc i) h = get-some ys i (omega arith)

-- an item that moves stays one of as many
pub length-moved : {X : Type 0} (xs : List X) (i j : ℕ) (x : X) → i < length xs → j < length xs → length (insert (remove xs i) j x) ≡ length xs
length-moved xs i j x h k = omega (arith, length-remove xs i h, length-insert (remove xs i) j x (omega (arith, length-remove xs i h)))

pub length-set : {X : Type 0} (xs : List X) (i : ℕ) (x : X) → length (slice_set xs i x) ≡ length xs
length-set [] i x = refl
length-set (y ∷ ys) zero x = refl
length-set (y ∷ ys) (suc i) x = ap suc (length-set ys i x)

pub no_item : {X : Type 0} (xs : List X) → length xs ≡ 0 → xs ≡ []
no_item [] e = refl
no_item (x ∷ xs) e = absurd (omega arith)

-- all items went behind none, and then one was put in
pub moved_in : (room moved items new : List Item) (t : Items) (number : ℕ) (x : Item) → length room ≡ 0 → moved ≡ room ++ items → items_of items ≡ t → new ≡ insert moved number x → items_of new ≡ insert_item number x t
moved_in room moved items new t number x h e v f =
    let same : moved ≡ items = e ∙ ap (λ (xs : List Item). xs ++ items) (no_item room h) in
    let seen : items ≡ list_of t = sym (list_of-items_of items) ∙ ap list_of v in
    ap items_of (f ∙ ap (λ (xs : List Item). insert xs number x) (same ∙ seen))
