-- Steps along a stack of defaults, which a contract sees from its other end.
use Rattle.std.proofs.Common.{◌≡◌, ℕ, suc, zero, ◌+◌, ◌-◌, ◌<◌, ◌≤◌, List, [], ◌∷◌, ◌++◌, length, take, drop, get_or, slice_get, Some, set, reverse, ap, ◌∙◌, sym, subst, add-one, arith}
use Rattle.std.proofs.Math.Seq.{drop-append_seam, drop-cons, take-suc, take-suc-set}
use Rattle.std.proofs.lemmas.List.{reverse-append, length-reverse, length-drop, take-append-drop, drop-map, map-append, length-map, length-set, take_all}
use Rattle.std.proofs.lemmas.Option.{slice_get_within, get_or_from_slice_get}
use Rattle.rdl_tree.specs.declared.value.Value.{Value}
use Rattle.rdl_elab.specs.declared.walk.defaults.Default.{Default}
use Rattle.rdl_elab.specs.DefaultStacks.{pairs, AreShared, AreStacked}

-- the defaults among the first i, the last first
abbrev pub stack : ℕ → List Default → List (List ℕ × Value)
stack i xs = pairs (reverse (take i xs))

reverse-take : {X : Type 0} (n : ℕ) (xs : List X) → n ≤ length xs → reverse (take n xs) ≡ drop (length (reverse xs) - n) (reverse xs)
reverse-take n xs h =
    let long : length (reverse (drop n xs)) ≡ length (reverse xs) - n = length-reverse (drop n xs) ∙ length-drop n xs ∙ ap (λ k. k - n) (sym (length-reverse xs)) in
    let split : reverse xs ≡ reverse (drop n xs) ++ reverse (take n xs) = ap reverse (sym (take-append-drop n xs)) ∙ reverse-append (take n xs) (drop n xs) in
    sym (drop-append_seam (reverse (drop n xs)) (reverse (take n xs)))
    ∙ ap (drop (length (reverse (drop n xs)))) (sym split)
    ∙ ap (λ k. drop k (reverse xs)) long

length-pairs : (xs : List Default) → length (pairs (reverse xs)) ≡ length xs
length-pairs xs = length-map (reverse xs) (λ (d : Default). (d.name, d.value.now)) ∙ length-reverse xs

stacked-drop : (n : ℕ) (ds : List Default) → AreStacked ds → AreStacked (drop n ds)
stacked-drop zero ds s = s
stacked-drop (suc n) [] s = s
stacked-drop (suc n) (d ∷ ds) s = stacked-drop n ds s.1

-- those that were there when there were n
pub stack-shorter : (n : ℕ) (xs : List Default) → n ≤ length (pairs (reverse xs)) → pairs (reverse (take n xs)) ≡ drop (length (pairs (reverse xs)) - n) (pairs (reverse xs))
stack-shorter n xs h =
    let short : n ≤ length xs = omega (arith, length-pairs xs) in
    ap pairs (reverse-take n xs short)
    ∙ sym (drop-map (λ (d : Default). (d.name, d.value.now)) (length (reverse xs) - n) (reverse xs))
    ∙ ap (λ k. drop (k - n) (pairs (reverse xs))) (length-reverse xs ∙ sym (length-pairs xs))

pub stacked-shorter : (n : ℕ) (xs : List Default) → n ≤ length (pairs (reverse xs)) → AreStacked (reverse xs) → AreStacked (reverse (take n xs))
stacked-shorter n xs h s =
    let short : n ≤ length xs = omega (arith, length-pairs xs) in
    subst AreStacked (sym (reverse-take n xs short)) (stacked-drop (length (reverse xs) - n) (reverse xs) s)

-- the defaults behind the first i, the last first
abbrev pub nearest : ℕ → List Default → List (List ℕ × Value)
nearest i xs = pairs (reverse (drop i xs))

-- with one more
pub nearest-next : (i : ℕ) (xs : List Default) (x : Default) → i < length xs → nearest i xs ≡ nearest (i + 1) xs ++ ((get_or xs i x).name, (get_or xs i x).value.now) ∷ []
nearest-next i xs x l =
    let rest = drop (suc i) xs in
    let item = get_or xs i x in
    ap (λ ys. pairs (reverse ys)) (drop-cons xs i x l)
    ∙ ap pairs (reverse-append (item ∷ []) rest)
    ∙ map-append (λ (d : Default). (d.name, d.value.now)) (reverse rest) (item ∷ [])
    ∙ ap (λ n. nearest n xs ++ (item.name, item.value.now) ∷ []) (sym (add-one i))

-- the nearest is the last of the list
from-last : {X : Type 0} (xs : List X) (n : ℕ) (x : X) → length xs ≡ suc n → reverse xs ≡ get_or xs n x ∷ reverse (take n xs)
from-last xs n x e =
    ap reverse (sym (take_all (suc n) xs (omega (arith, e))) ∙ take-suc xs n x (omega (arith, e)))
    ∙ reverse-append (take n xs) (get_or xs n x ∷ [])

pub shared-last : (xs : List Default) (ds : List (List ℕ × Value)) (x : Default) → slice_get xs (length xs - 1) ≡ Some x → pairs (reverse xs) ≡ ds → AreStacked (reverse xs) → AreShared ds x.shared
shared-last xs ds x e view s =
    let n = length xs - 1 in
    let some : n < length xs = slice_get_within xs n x e in
    let is : get_or xs n x ≡ x = get_or_from_slice_get xs n x x e in
    let last : reverse xs ≡ x ∷ reverse (take n xs) = from-last xs n x (omega arith) ∙ ap (λ (d : Default). d ∷ reverse (take n xs)) is in
    subst (λ ds. AreShared ds x.shared) view (subst (λ rs. AreShared (pairs rs) x.shared) (sym last) (subst AreStacked last s).0)

-- with other values kept beside the nearest
module _ (xs : List Default) (n : ℕ) (x y : Default) (e : length xs ≡ suc n) (is : x ≡ get_or xs n x) (name : y.name ≡ x.name) (value : y.value.now ≡ x.value.now) where
  set-last : {X : Type 0} (zs : List X) (m : ℕ) (z : X) → length zs ≡ suc m → reverse (set zs m z) ≡ z ∷ reverse (take m zs)
  set-last zs m z f =
      ap reverse (sym (take_all (suc m) (set zs m z) (omega (arith, length-set zs m z, f))) ∙ take-suc-set zs m z (omega (arith, f)))
      ∙ reverse-append (take m zs) (z ∷ [])

  pub pairs-stay : pairs (reverse (set xs n y)) ≡ pairs (reverse xs)
  pairs-stay =
      ap pairs (set-last xs n y e)
      ∙ (λ i. (name i, value i) ∷ pairs (reverse (take n xs)))
      ∙ ap (λ (d : Default). pairs (d ∷ reverse (take n xs))) is
      ∙ ap pairs (sym (from-last xs n x e))

  pub stays-stacked : (ds : List (List ℕ × Value)) → pairs (reverse xs) ≡ ds → (AreShared ds x.shared → AreShared ds y.shared) → AreStacked (reverse xs) → AreStacked (reverse (set xs n y))
  stays-stacked ds view more s =
      let last : reverse xs ≡ x ∷ reverse (take n xs) = from-last xs n x e ∙ ap (λ (d : Default). d ∷ reverse (take n xs)) (sym is) in
      let first : AreStacked (x ∷ reverse (take n xs)) = subst AreStacked last s in
      let old : AreShared ds x.shared = subst (λ ps. AreShared ps x.shared) (ap pairs (sym last) ∙ view) first.0 in
      let changed = set-last xs n y e in
      subst AreStacked (sym changed) (subst (λ ps. AreShared ps y.shared) (sym view ∙ sym pairs-stay ∙ ap pairs changed) (more old), first.1)
