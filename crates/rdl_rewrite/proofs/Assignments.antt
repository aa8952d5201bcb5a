-- The last assignment of a sort, found by a loop over all items.
use Rattle.std.proofs.Common.{◌≡◌, ℕ, ◌+◌, ◌<◌, ◌≤◌, Bool, true, false, cond, List, [], ◌∷◌, ◌++◌, length, get_or, take, refl, ap, sym, ◌∙◌, arith}
use Rattle.std.specs.Prelude.{◌||◌}
use Rattle.std.specs.List.{list_any}
use Rattle.std.proofs.lemmas.List.{take_more, length-take}
use Rattle.rdl_tree.specs.declared.description.Item.{Item}
use Rattle.rdl_rewrite.specs.Assignment.{up_to_last}

any-true : (p : Item → Bool) (xs : List Item) (x : Item) → p x ≡ true → list_any p (xs ++ x ∷ []) ≡ true
any-true p [] x e = rw e
any-true p (y ∷ ys) x e = elim (p y) as (λ b. (b || list_any p (ys ++ x ∷ [])) ≡ true) [ true ↦ refl | false ↦ any-true p ys x e ]

any-false : (p : Item → Bool) (xs : List Item) (x : Item) → p x ≡ false → list_any p (xs ++ x ∷ []) ≡ list_any p xs
any-false p [] x e = rw e
any-false p (y ∷ ys) x e = ap (λ b. p y || b) (any-false p ys x e)

last-true : (p : Item → Bool) (xs : List Item) (x : Item) → p x ≡ true → up_to_last p (xs ++ x ∷ []) ≡ length xs + 1
last-true p [] x e = rw e
last-true p (y ∷ ys) x e =
    ap (λ b. cond b (1 + up_to_last p (ys ++ x ∷ [])) 0) (any-true p (y ∷ ys) x e) ∙ omega (arith, last-true p ys x e)

last-false : (p : Item → Bool) (xs : List Item) (x : Item) → p x ≡ false → up_to_last p (xs ++ x ∷ []) ≡ up_to_last p xs
last-false p [] x e = rw e
last-false p (y ∷ ys) x e =
    ap (λ b. cond b (1 + up_to_last p (ys ++ x ∷ [])) 0) (any-false p (y ∷ ys) x e) ∙ ap (λ n. cond (list_any p (y ∷ ys)) (1 + n) 0) (last-false p ys x e)

pub end_here : (p : Item → Bool) (xs : List Item) (i : ℕ) (x : Item) → i < length xs → p (get_or xs i x) ≡ true → i + 1 ≡ up_to_last p (take (i + 1) xs)
end_here p xs i x h e =
    let all : up_to_last p (take (i + 1) xs) ≡ length (take i xs) + 1 = ap (up_to_last p) (take_more xs i x h) ∙ last-true p (take i xs) (get_or xs i x) e in
    omega (arith, length-take i xs)

pub end_before : (p : Item → Bool) (xs : List Item) (i n : ℕ) (x : Item) → i < length xs → p (get_or xs i x) ≡ false → n ≡ up_to_last p (take i xs) → n ≡ up_to_last p (take (i + 1) xs)
end_before p xs i n x h e f = f ∙ sym (ap (up_to_last p) (take_more xs i x h) ∙ last-false p (take i xs) (get_or xs i x) e)

pub last_within : (p : Item → Bool) (xs : List Item) → up_to_last p xs ≤ length xs
last_within p [] = omega arith
last_within p (x ∷ xs) = elim (list_any p (x ∷ xs)) as (λ b. cond b (1 + up_to_last p xs) 0 ≤ length (x ∷ xs)) [ true ↦ omega (arith, last_within p xs) | false ↦ omega arith ]
