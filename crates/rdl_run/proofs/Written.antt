-- What several writes leave, one after another.
use Rattle.std.proofs.Common.{◌≡◌, ℕ, ◌+◌, ◌-◌, min, List, [], ◌∷◌, ◌++◌, length, take, drop, refl, sym, ap, ◌∙◌, subst, arith, append_assoc, append-nil, Option, take-append-drop}
use Rattle.std.proofs.lemmas.List.{take-append-le, take_min, drop-drop, take_rest, take_all}
use Rattle.std.proofs.Math.Seq.{take-add, take-append_seam, drop-append_seam}
use Rattle.std.proofs.KnownBytes.{Appends-trans}
use Rattle.std.specs.Io.KnownBytes.{Appends}
use Rattle.rdl_run.specs.Known.{concat, AppendsFront, AppendsSome}

pub concat-append : (xs ys : List (List ℕ)) → concat (xs ++ ys) ≡ concat xs ++ concat ys
concat-append [] ys = refl
concat-append (x ∷ xs) ys = ap (λ (l : List ℕ). x ++ l) (concat-append xs ys) ∙ sym (append_assoc x (concat xs) (concat ys))

-- one more of a list of which the rest begins with it
module _ {X : Type 0} (xs : List X) (i : ℕ) (x : X) (rest : List X) (h : drop i xs ≡ x ∷ rest) where
  pub take_one : take (i + 1) xs ≡ take i xs ++ x ∷ []
  take_one = take-add i 1 xs ∙ ap (λ (l : List X). take i xs ++ take 1 l) h

  pub drop_one : drop (i + 1) xs ≡ rest
  drop_one = sym (drop-drop 1 i xs) ∙ ap (drop 1) h

  pub whole_list : xs ≡ take i xs ++ x ∷ rest
  whole_list = sym (take-append-drop i xs) ∙ ap (λ (l : List X). take i xs ++ l) h

pub concat_one : (texts : List (List ℕ)) (i : ℕ) (text : List ℕ) (rest : List (List ℕ)) → drop i texts ≡ text ∷ rest → concat (take (i + 1) texts) ≡ concat (take i texts) ++ text
concat_one texts i text rest h =
    ap concat (take_one texts i text rest h) ∙ concat-append (take i texts) (text ∷ [])
    ∙ ap (λ (l : List ℕ). concat (take i texts) ++ l) (append-nil text)

-- what is whole, and then a front of a text, is a front of both and what follows
pub AppendsFront-after : (a b c : Option (List ℕ)) (before text after : List ℕ) → Appends a b before → AppendsFront b c text → AppendsFront a c (before ++ (text ++ after))
AppendsFront-after a b c before text after h f =
    let m = min f.0 (length text) in
    let same : before ++ take f.0 text ≡ take (length before + m) (before ++ (text ++ after)) =
    ap (λ (l : List ℕ). before ++ l) (sym (take_min f.0 text) ∙ sym (take-append-le m text after (omega arith)))
    ∙ ap (λ (l : List ℕ). l ++ take m (text ++ after)) (sym (take-append_seam before (text ++ after)))
    ∙ ap (λ (l : List ℕ). take (length before) (before ++ (text ++ after)) ++ take m l) (sym (drop-append_seam before (text ++ after)))
    ∙ sym (take-add (length before) m (before ++ (text ++ after))) in
    (length before + m, subst (Appends a c) same (Appends-trans a b c before (take f.0 text) h f.1))

pub concat_whole : (texts : List (List ℕ)) (i : ℕ) (text : List ℕ) (rest : List (List ℕ)) → drop i texts ≡ text ∷ rest → concat texts ≡ concat (take i texts) ++ (text ++ concat rest)
concat_whole texts i text rest h = ap concat (whole_list texts i text rest h) ∙ concat-append (take i texts) (text ∷ rest)

-- a write of the rest goes on
pub written_more : (xs : List ℕ) (a n : ℕ) → take a xs ++ take n (take (length xs - a) (drop a xs)) ≡ take (a + n) xs
written_more xs a n = ap (λ (l : List ℕ). take a xs ++ take n l) (take_rest xs a) ∙ sym (take-add a n xs)

pub AppendsSome-whole : (a b : Option (List ℕ)) (texts : List (List ℕ)) → Appends a b (concat texts) → AppendsSome a b texts
AppendsSome-whole a b texts h = (length texts, subst (λ (l : List (List ℕ)). Appends a b (concat l)) (sym (take_all (length texts) texts (omega arith))) h)

pub take_until_end : {X : Type 0} (xs : List X) (i : ℕ) → drop i xs ≡ [] → take i xs ≡ xs
take_until_end {X} xs i h = sym (append-nil (take i xs)) ∙ ap (λ (l : List X). take i xs ++ l) (sym h) ∙ take-append-drop i xs
