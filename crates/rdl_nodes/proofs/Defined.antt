-- Types one by one, and what a name finds among them.
use Rattle.std.proofs.Common.{◌≡◌, ℕ, zero, suc, List, [], ◌∷◌, ◌++◌, length, reverse, true, false, refl, ap, sym, ◌∙◌, ◌⊎◌, inl, inr, subst, arith}
use Rattle.std.specs.Prelude.{Option, Some, option_map, option_and_then, slice_get, map, bytes_eq, if◌then◌else◌}
use Rattle.std.proofs.lemmas.Bool.{cases_Bool}
use Rattle.std.proofs.lemmas.List.{reverse-append, length-reverse, reverse-reverse}
use Rattle.rdl_scope.specs.Closed.{lookup}
use Rattle.rdl_seen.specs.Node as seen
use Rattle.rdl_nodes.specs.declared.types.Defined.{Defined}
use Rattle.rdl_nodes.specs.declared.types.Places.{Places}
use Rattle.rdl_nodes.specs.HeldTypes.{held, named, types_of}
use Rattle.rdl_nodes.specs.TypeStack.{placed, hidden, Hides, IsIndex, Uncovers}

-- ---- What a name finds.

-- the type at the place of the nearest one, which may be anywhere in front of others
abbrev at_place : (xs behind : List Defined) (q : List ℕ) → Option seen.Known
at_place xs behind q = option_and_then (λ n. option_map held (slice_get (reverse xs ++ behind) n)) (lookup q (placed xs))

seam : {X : Type 0} (xs behind : List X) (x : X) (n : ℕ) → length xs ≡ n → slice_get (xs ++ x ∷ behind) n ≡ Some x
seam [] behind x zero e = refl
seam [] behind x (suc n) e = absurd (omega (arith, e))
seam (y ∷ xs) behind x zero e = absurd (omega (arith, e))
seam (y ∷ xs) behind x (suc n) e = seam xs behind x n (omega (arith, e))

append_at : {X : Type 0} (xs : List X) (x : X) (ys : List X) → (xs ++ x ∷ []) ++ ys ≡ xs ++ x ∷ ys
append_at [] x ys = refl
append_at (y ∷ xs) x ys = ap (λ zs. y ∷ zs) (append_at xs x ys)

found_before : (xs behind : List Defined) (q : List ℕ) → lookup q (named xs) ≡ at_place xs behind q
found_before [] behind q = refl
found_before (x ∷ xs) behind q = by_name (found_before xs (x ∷ behind) q) (cases_Bool (bytes_eq x.name.now q))
  where
    all : reverse (x ∷ xs) ++ behind ≡ reverse xs ++ x ∷ behind
    all = ap (λ ys. ys ++ behind) (reverse-append (x ∷ []) xs) ∙ append_at (reverse xs) x behind

    by_name : lookup q (named xs) ≡ at_place xs (x ∷ behind) q → ((bytes_eq x.name.now q ≡ true) ⊎ (bytes_eq x.name.now q ≡ false)) → lookup q (named (x ∷ xs)) ≡ at_place (x ∷ xs) behind q
    by_name front (inl e) =
        ap (λ b. if b then Some (held x) else lookup q (named xs)) e
        ∙ sym (
        ap (λ b. option_and_then (λ n. option_map held (slice_get (reverse (x ∷ xs) ++ behind) n)) (if b then Some (length xs) else lookup q (placed xs))) e
        ∙ ap (λ ys. option_map held (slice_get ys (length xs))) all
        ∙ ap (option_map held) (seam (reverse xs) behind x (length xs) (length-reverse xs))
        )
    by_name front (inr e) =
        ap (λ b. if b then Some (held x) else lookup q (named xs)) e
        ∙ front
        ∙ sym (
        ap (λ b. option_and_then (λ n. option_map held (slice_get (reverse (x ∷ xs) ++ behind) n)) (if b then Some (length xs) else lookup q (placed xs))) e
        ∙ ap (λ (ys : List Defined). option_and_then (λ n. option_map held (slice_get ys n)) (lookup q (placed xs))) all
        )

none_behind : {X : Type 0} (xs : List X) → xs ++ [] ≡ xs
none_behind [] = refl
none_behind (x ∷ xs) = ap (λ ys. x ∷ ys) (none_behind xs)

-- what is at the place of the nearest type of a name is what the name finds
pub type_found : (xs : List Defined) (q : List ℕ) (o : Option ℕ) → o ≡ lookup q (placed (reverse xs)) → lookup q (types_of xs) ≡ option_and_then (λ n. option_map held (slice_get xs n)) o
type_found xs q o e =
    found_before (reverse xs) [] q
    ∙ ap (λ (ys : List Defined). option_and_then (λ n. option_map held (slice_get ys n)) (lookup q (placed (reverse xs)))) (none_behind (reverse (reverse xs)) ∙ reverse-reverse xs)
    ∙ ap (option_and_then (λ n. option_map held (slice_get xs n))) (sym e)

-- ---- One type less.

same_heads : {X : Type 0} (x y : X) (xs ys : List X) → x ∷ xs ≡ y ∷ ys → x ≡ y
same_heads x y xs ys e = cc

same_tails : {X : Type 0} (x y : X) (xs ys : List X) → x ∷ xs ≡ y ∷ ys → xs ≡ ys
same_tails x y xs ys e = cc

-- the stack and what is kept by name, without the nearest type
pub popped : (es rest : List Defined) (last : Defined) (old new : Places) → es ≡ rest ++ last ∷ [] → Hides (reverse es) → IsIndex old (placed (reverse es)) → Uncovers last.name.now last.hides old new
    → Hides (reverse rest) × IsIndex new (placed (reverse rest))
popped es rest last old new is hides index uncovers =
    let reversed : reverse es ≡ last ∷ reverse rest = ap reverse is ∙ reverse-append rest (last ∷ []) in
    let left : Hides (last ∷ reverse rest) = subst Hides reversed hides in
    let held : IsIndex old ((last.name.now, length (reverse rest)) ∷ placed (reverse rest)) = subst (λ xs. IsIndex old (placed xs)) reversed index in
    let here : last.hides ≡ lookup last.name.now (placed (reverse rest)) = same_heads last.hides (lookup last.name.now (placed (reverse rest))) (map (λ (x : Defined). x.hides) (reverse rest)) (hidden (reverse rest)) left in
    let others : Hides (reverse rest) = same_tails last.hides (lookup last.name.now (placed (reverse rest))) (map (λ (x : Defined). x.hides) (reverse rest)) (hidden (reverse rest)) left in
    (others, uncovers (placed (reverse rest)) (length (reverse rest)) held here)
