-- The names of a path with two underscores between them, the last one apart.
use Rattle.std.proofs.Common.{◌≡◌, ℕ, List, [], ◌∷◌, ◌++◌, ap, ◌∙◌, sym, codes, append_assoc, append-nil}
use Rattle.std.proofs.lemmas.List.Concat.{flat_map-append}
use Rattle.std.specs.List.{flat_map}
use Rattle.rdl_header.specs.HeaderText.{path_text}

-- underscores before each name but the first, or underscores behind each but the last
underscores : (first : List ℕ) (xs : List (List ℕ)) (last : List ℕ) → first ++ flat_map (λ n. codes "__" ++ n) (xs ++ last ∷ []) ≡ flat_map (λ n. n ++ codes "__") (first ∷ xs) ++ last
underscores first [] last =
    ap (λ t. first ++ (codes "__" ++ t)) (append-nil last)
    ∙ sym (append_assoc first (codes "__") last)
    ∙ ap (λ t. t ++ last) (sym (append-nil (first ++ codes "__")))
underscores first (x ∷ xs) last =
    sym (append_assoc first (codes "__") (x ++ flat_map (λ n. codes "__" ++ n) (xs ++ last ∷ [])))
    ∙ ap (λ t. (first ++ codes "__") ++ t) (underscores x xs last)
    ∙ sym (append_assoc (first ++ codes "__") (flat_map (λ n. n ++ codes "__") (x ∷ xs)) last)

ends : (around : List (List ℕ)) (last : List ℕ) → path_text (around ++ last ∷ []) ≡ flat_map (λ n. n ++ codes "__") around ++ last
ends [] last = append-nil last
ends (x ∷ xs) last = underscores x xs last

-- the text of the names around a register, and behind it that of the register
joined-further : (joined : List ℕ) (around register : List (List ℕ)) → joined ≡ flat_map (λ n. n ++ codes "__") around → joined ++ flat_map (λ n. n ++ codes "__") register ≡ flat_map (λ n. n ++ codes "__") (around ++ register)
joined-further joined around register j =
    ap (λ t. t ++ flat_map (λ n. n ++ codes "__") register) j ∙ sym (flat_map-append (λ n. n ++ codes "__") around register)

-- the text with the names around the register, then with the register, and then with the last
pub path_pushed : (old joined first second new : List ℕ) (path around register : List (List ℕ)) (last : List ℕ) → path ≡ (around ++ register) ++ last ∷ [] → joined ≡ flat_map (λ n. n ++ codes "__") around
    → first ≡ old ++ joined → second ≡ first ++ flat_map (λ n. n ++ codes "__") register → new ≡ second ++ last → new ≡ old ++ path_text path
path_pushed old joined first second new path around register last e j f g h =
    h
    ∙ ap (λ t. t ++ last) (g ∙ ap (λ t. t ++ flat_map (λ n. n ++ codes "__") register) f ∙ append_assoc old joined (flat_map (λ n. n ++ codes "__") register) ∙ ap (λ t. old ++ t) (joined-further joined around register j))
    ∙ append_assoc old (flat_map (λ n. n ++ codes "__") (around ++ register)) last
    ∙ ap (λ t. old ++ t) (sym (ap path_text e ∙ ends (around ++ register) last))
