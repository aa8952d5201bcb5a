-- The names of a path with dots between them, the last one apart.
use Rattle.std.proofs.Common.{◌≡◌, ◌<◌, ◌≤◌, ◌+◌, ◌-◌, ℕ, suc, List, [], ◌∷◌, ◌++◌, ap, ◌∙◌, sym, codes, append_assoc, append-nil, length, drop, arith}
use Rattle.std.proofs.Math.Seq.{drop-append-add}
use Rattle.std.proofs.lemmas.List.{drop-append-le, drop-drop, length-append, length-drop}
use Rattle.std.proofs.lemmas.List.Concat.{flat_map-append}
use Rattle.std.specs.List.{flat_map}
use Rattle.std.specs.Borrow.{Bor}
use Rattle.std.specs.Option.{is_some}
use Rattle.std.specs.Prelude.{Option, Some, None, MatchOption, true, false}
use Rattle.rdl_list.specs.ListText.{path_text}

-- a dot before each name but the first, or a dot behind each but the last
dots : (first : List ℕ) (xs : List (List ℕ)) (last : List ℕ) → first ++ flat_map (λ n. codes "." ++ n) (xs ++ last ∷ []) ≡ flat_map (λ n. n ++ codes ".") (first ∷ xs) ++ last
dots first [] last =
    ap (λ t. first ++ 46 ∷ t) (append-nil last)
    ∙ sym (append_assoc first (codes ".") last)
    ∙ ap (λ t. t ++ last) (sym (append-nil (first ++ codes ".")))
dots first (x ∷ xs) last =
    sym (append_assoc first (codes ".") (x ++ flat_map (λ n. codes "." ++ n) (xs ++ last ∷ [])))
    ∙ ap (λ t. (first ++ codes ".") ++ t) (dots x xs last)
    ∙ sym (append_assoc (first ++ codes ".") (flat_map (λ n. n ++ codes ".") (x ∷ xs)) last)

ends : (around : List (List ℕ)) (last : List ℕ) → path_text (around ++ last ∷ []) ≡ flat_map (λ n. n ++ codes ".") around ++ last
ends [] last = append-nil last
ends (x ∷ xs) last = dots x xs last

-- the text with the names around the register, then with the register, and then with the last
pub path_whole : (old first second new : List ℕ) (around register : List (List ℕ)) (last : List ℕ) → first ≡ old ++ flat_map (λ n. n ++ codes ".") around → second ≡ first ++ flat_map (λ n. n ++ codes ".") register
    → new ≡ second ++ last → new ≡ old ++ path_text ((around ++ register) ++ last ∷ [])
path_whole old first second new around register last f g h =
    let of = flat_map (λ n. n ++ codes ".") in
    h
    ∙ ap (λ t. t ++ last)
    (g
    ∙ ap (λ t. t ++ of register) f
    ∙ append_assoc old (of around) (of register)
    ∙ ap (λ t. old ++ t) (sym (flat_map-append (λ n. n ++ codes ".") around register)))
    ∙ append_assoc old (of (around ++ register)) last
    ∙ ap (λ t. old ++ t) (sym (ends (around ++ register) last))

-- of names of which so many are taken away, one more is
pub one_gone : (first : Option (Bor (List ℕ))) (n : ℕ) (names left more : List (List ℕ)) → is_some first ≡ true → MatchOption first ((left ≡ []) × (more ≡ [])) (λ name. left ≡ name.now ∷ more) → left ≡ drop n names
    → (more ≡ drop (n + 1) names) × (n + 1 ≤ length names)
one_gone None n names left more h e f = cc
one_gone (Some name) n names left more h e f =
    let rest : length names - n ≡ suc (length more) = sym (length-drop n names) ∙ ap length (sym f ∙ e) in
    (ap (drop 1) (sym e ∙ f) ∙ drop-drop 1 n names, omega arith)

-- or there is none left
pub none_gone : (first : Option (Bor (List ℕ))) (left more : List (List ℕ)) → is_some first ≡ false → MatchOption first ((left ≡ []) × (more ≡ [])) (λ name. left ≡ name.now ∷ more) → left ≡ []
none_gone None left more h e = e.0
none_gone (Some name) left more h e = cc

-- without so many of the first names, which all stand before the register
pub left_out : (n : ℕ) (around left register ends : List (List ℕ)) → left ≡ drop n around → n ≤ length around → (left ++ register) ++ ends ≡ drop n ((around ++ register) ++ ends)
left_out n around left register ends e h =
    let all : n ≤ length (around ++ register) = omega (arith, length-append around register) in
    ap (λ names. (names ++ register) ++ ends) e
    ∙ ap (λ names. names ++ ends) (sym (drop-append-le n around register h))
    ∙ sym (drop-append-le n (around ++ register) ends all)

-- without all names before the register, of which there are k, and some of the others
pub all_left_out : (n k : ℕ) (around register ends : List (List ℕ)) → [] ≡ drop k around → k ≤ length around → k < n → drop (n - k) (register ++ ends) ≡ drop n ((around ++ register) ++ ends)
all_left_out n k around register ends e h g =
    let none : length around - k ≡ 0 = sym (length-drop k around) ∙ ap length (sym e) in
    let so_many : length around + (n - k) ≡ n = omega arith in
    sym (drop-append-add around (register ++ ends) (n - k))
    ∙ ap (λ m. drop m (around ++ (register ++ ends))) so_many
    ∙ ap (drop n) (sym (append_assoc around register ends))
