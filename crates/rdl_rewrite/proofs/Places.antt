-- What is found in a list stands in it, and what is found in a list without one item.
use Rattle.std.proofs.Common.{◌≡◌, ℕ, suc, ◌+◌, ◌<◌, Bool, true, false, not, cond, ltb, List, [], ◌∷◌, ◌++◌, Option, Some, None, length, take, drop, refl, ap, sym, ◌∙◌, arith, option_map}
use Rattle.std.specs.List.{position, position_or_len, remove}
use Rattle.std.specs.Option.{option_or}
use Rattle.std.proofs.lemmas.Bool.Decides.{nat_tests}
use Rattle.std.proofs.lemmas.List.{length-take}
use Rattle.std.proofs.lemmas.List.Quantifiers.{position-Some}
use Rattle.rdl_tree.specs.declared.description.Item.{Item}

pub position_below : (p : Item → Bool) (xs : List Item) (i : ℕ) → position p xs ≡ Some i → i < length xs
position_below p [] i e = cc
position_below p (x ∷ xs) i e = (position-Some p (x ∷ xs) i x e).0

first-passes : (n : ℕ) → cond {A = Option ℕ} (ltb 0 (suc n)) (Some 0) None ≡ Some 0
first-passes n = grind (arith, nat_tests)

later-passes : (l n : ℕ) → cond (ltb (1 + l) (suc n)) (Some (1 + l)) None ≡ option_map (λ i. 1 + i) (cond (ltb l n) (Some l) None)
later-passes l n = by_case (ltb l n) refl
  where
    by_case : (b : Bool) → ltb l n ≡ b → cond (ltb (1 + l) (suc n)) (Some (1 + l)) None ≡ option_map (λ i. 1 + i) (cond b (Some l) None)
    by_case true e = let f : ltb (1 + l) (suc n) ≡ true = grind (arith, nat_tests) in ap (λ b. cond b (Some (1 + l)) None) f
    by_case false e = let f : ltb (1 + l) (suc n) ≡ false = grind (arith, nat_tests) in ap (λ b. cond b (Some (1 + l)) None) f

position-cons : (p : Item → Bool) (x : Item) (xs : List Item) → position p (x ∷ xs) ≡ cond (p x) (Some 0) (option_map (λ i. 1 + i) (position p xs))
position-cons p x xs = by_case (p x) refl
  where
    by_case : (b : Bool) → p x ≡ b → position p (x ∷ xs) ≡ cond b (Some 0) (option_map (λ i. 1 + i) (position p xs))
    by_case true e = ap (λ b. cond (ltb (cond (not b) (1 + position_or_len p xs) 0) (length (x ∷ xs))) (Some (cond (not b) (1 + position_or_len p xs) 0)) None) e ∙ first-passes (length xs)
    by_case false e = ap (λ b. cond (ltb (cond (not b) (1 + position_or_len p xs) 0) (length (x ∷ xs))) (Some (cond (not b) (1 + position_or_len p xs) 0)) None) e ∙ later-passes (position_or_len p xs) (length xs)

map-or : (a b : Option ℕ) (n m : ℕ) → 1 + n ≡ m → option_map (λ i. 1 + i) (option_or a (option_map (λ i. n + i) b)) ≡ option_or (option_map (λ i. 1 + i) a) (option_map (λ i. m + i) b)
map-or (Some a) b n m e = refl
map-or None None n m e = refl
map-or None (Some b) n m e = let f : 1 + (n + b) ≡ m + b = omega (arith, e) in ap Some f

position-append : (p : Item → Bool) (xs ys : List Item) → position p (xs ++ ys) ≡ option_or (position p xs) (option_map (λ i. length xs + i) (position p ys))
position-append p [] ys = from-zero (position p ys)
  where
    from-zero : (o : Option ℕ) → o ≡ option_map (λ i. 0 + i) o
    from-zero None = refl
    from-zero (Some i) = let e : i ≡ 0 + i = omega arith in ap Some e
position-append p (x ∷ xs) ys =
    position-cons p x (xs ++ ys) ∙ ap (λ o. cond (p x) (Some 0) (option_map (λ i. 1 + i) o)) (position-append p xs ys)
    ∙ by_case (p x) ∙ ap (λ o. option_or o (option_map (λ i. length (x ∷ xs) + i) (position p ys))) (sym (position-cons p x xs))
  where
    by_case : (b : Bool) → cond b (Some 0) (option_map (λ i. 1 + i) (option_or (position p xs) (option_map (λ i. length xs + i) (position p ys))))
        ≡ option_or (cond b (Some 0) (option_map (λ i. 1 + i) (position p xs))) (option_map (λ i. length (x ∷ xs) + i) (position p ys))
    by_case true = refl
    by_case false = map-or (position p xs) (position p ys) (length xs) (length (x ∷ xs)) (omega arith)

-- the place without the item of a number
pub position-remove : (p : Item → Bool) (xs : List Item) (n : ℕ) → n < length xs
    → position p (remove xs n) ≡ option_or (position p (take n xs)) (option_map (λ i. n + i) (position p (drop (n + 1) xs)))
position-remove p xs n h =
    let j : suc n ≡ n + 1 = omega arith in
    let l : length (take n xs) ≡ n = omega (arith, length-take n xs) in
    position-append p (take n xs) (drop (suc n) xs)
    ∙ ap (λ k. option_or (position p (take n xs)) (option_map (λ i. k + i) (position p (drop (suc n) xs)))) l
    ∙ ap (λ k. option_or (position p (take n xs)) (option_map (λ i. n + i) (position p (drop k xs)))) j

pub before_it : (p : Item → Bool) (xs : List Item) (n : ℕ) (o : Option ℕ) (i : ℕ) → n < length xs → o ≡ position p (take n xs) → o ≡ Some i → Some i ≡ position p (remove xs n)
before_it p xs n o i h e is =
    sym (position-remove p xs n h ∙ ap (λ q. option_or q (option_map (λ k. n + k) (position p (drop (n + 1) xs)))) (sym e ∙ is))

pub behind_it : (p : Item → Bool) (xs : List Item) (n : ℕ) (o q : Option ℕ) → n < length xs → o ≡ position p (take n xs) → o ≡ None → q ≡ position p (drop (n + 1) xs)
    → option_map (λ k. n + k) q ≡ position p (remove xs n)
behind_it p xs n o q h e is f =
    ap (option_map (λ k. n + k)) f
    ∙ sym (position-remove p xs n h ∙ ap (λ r. option_or r (option_map (λ k. n + k) (position p (drop (n + 1) xs)))) (sym e ∙ is))
