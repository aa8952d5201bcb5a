-- Texts of whole lines, and where they may be cut.
use Rattle.std.proofs.Common.{◌≡◌, ℕ, ◌<◌, ◌≤◌, List, [], ◌∷◌, ◌++◌, length, take, drop, get_or, inl, inr, refl, sym, ap, subst, ◌∙◌, append_assoc, append-nil, arith}
use Rattle.std.proofs.lemmas.List.{length-append}
use Rattle.std.proofs.lemmas.Str.{IsUtf8-take, IsUtf8-drop, IsUtf8-nil, IsCharBoundary-after_ascii}
use Rattle.std.specs.Prelude.{◌⊎◌, IsUtf8, codes}
use Rattle.std.specs.Str.{IsCharBoundary}
use Rattle.rdl_tree.specs.Items.{Items, no_items, plain, holder}
use Rattle.rdl_session.specs.Text.{max_session}
use Rattle.rdl_tree.specs.View.{items_of}
use Rattle.rdl_tree.specs.declared.description.Item.{Item}
use Rattle.rdl_tree.specs.declared.description.Item.TheVariants.{Define, Instance, Own, Default, Dynamic}
use Rattle.rdl_tree.specs.declared.description.Of.TheVariants.{Named, Anonymous}
use Rattle.rdl_write.specs.ItemText.{item_text}
use Rattle.rdl_write.specs.MapText.{statement_text, close_text, statement_line, open_line, close_line, deeper, body_text, map_text}

-- it is empty, or a line feed is its last byte
abbrev pub Ends : List ℕ → Type 0
Ends a = (a ≡ []) ⊎ ((b : List ℕ) × (a ≡ b ++ 10 ∷ []))

-- whatever stands before it
pub ends-behind : (a b : List ℕ) → Ends (a ++ (b ++ 10 ∷ []))
ends-behind a b = inr (a ++ b, sym (append_assoc a b (10 ∷ [])))

pub ends-both : (a b : List ℕ) → Ends a → Ends b → Ends (a ++ b)
ends-both a b h (inl e) = subst Ends (sym (append-nil a) ∙ ap (λ (x : List ℕ). a ++ x) (sym e)) h
ends-both a b h (inr k) = subst (λ x. Ends (a ++ x)) (sym k.1) (ends-behind a k.0)

-- ---- Where it ends, a longer text may be cut.

-- a text that can be a session or stand in one
pub record IsText (a : List ℕ) : Type 0 where
  pub utf8 : IsUtf8 a
  pub short : length a ≤ max_session

pub take_front : {X : Type 0} (xs ys : List X) → take (length xs) (xs ++ ys) ≡ xs
take_front [] ys = refl
take_front {X} (x ∷ xs) ys = ap (λ (q : List X). x ∷ q) (take_front xs ys)

pub drop_front : {X : Type 0} (xs ys : List X) → drop (length xs) (xs ++ ys) ≡ ys
drop_front [] ys = refl
drop_front (x ∷ xs) ys = drop_front xs ys

feed-at : (b c : List ℕ) → get_or (b ++ 10 ∷ [] ++ c) (length b) 0 ≡ 10
feed-at [] c = refl
feed-at (x ∷ xs) c = feed-at xs c

cut-at : (b c : List ℕ) → IsUtf8 (b ++ 10 ∷ [] ++ c) → IsCharBoundary (b ++ 10 ∷ [] ++ c) (length (b ++ 10 ∷ []))
cut-at b c u =
    let long : length b < length (b ++ 10 ∷ [] ++ c) = omega (arith, length-append (b ++ 10 ∷ []) c, length-append b (10 ∷ [])) in
    let ascii : get_or (b ++ 10 ∷ [] ++ c) (length b) 0 < 128 = rw (feed-at b c) (omega arith) in
    subst (IsCharBoundary (b ++ 10 ∷ [] ++ c)) (sym (length-append b (10 ∷ []))) (IsCharBoundary-after_ascii (b ++ 10 ∷ [] ++ c) (length b) u long ascii)

two : (a c : List ℕ) → IsUtf8 (a ++ c) → IsCharBoundary (a ++ c) (length a) → IsUtf8 a × IsUtf8 c
two a c u at = (subst IsUtf8 (take_front a c) (IsUtf8-take (a ++ c) (length a) u at), subst IsUtf8 (drop_front a c) (IsUtf8-drop (a ++ c) (length a) u at))

cut-utf8 : (a c : List ℕ) → Ends a → IsUtf8 (a ++ c) → IsUtf8 a × IsUtf8 c
cut-utf8 a c (inl e) u = subst (λ x. IsUtf8 (x ++ c) → IsUtf8 x × IsUtf8 c) (sym e) (λ v. (IsUtf8-nil, v)) u
cut-utf8 a c (inr k) u = subst (λ x. IsUtf8 (x ++ c) → IsUtf8 x × IsUtf8 c) (sym k.1) (λ v. two (k.0 ++ 10 ∷ []) c v (cut-at k.0 c v)) u

-- a text of lines before another
pub split : (a c : List ℕ) → Ends a → IsText (a ++ c) → IsText a × IsText c
split a c e t =
    let u = cut-utf8 a c e t.utf8 in
    let long = length-append a c in
    (record { utf8 = u.0; short = omega (arith, t.short, long) }, record { utf8 = u.1; short = omega (arith, t.short, long) })

-- ---- Lines of a map.

pub body-ends : (d : Items) (indent : List ℕ) → Ends (body_text indent d)
unfolding statement_line open_line close_line
body-ends no_items indent = inl refl
body-ends (plain p rest) indent = ends-both (statement_line indent p) (body_text indent rest) (inr (indent ++ statement_text p ++ codes ";", refl)) (body-ends rest indent)
body-ends (holder h body rest) indent =
    let before = open_line indent h ++ body_text (deeper indent) body in
    ends-both (before ++ close_line indent h) (body_text indent rest) (ends-behind before (indent ++ close_text h ++ codes ";")) (body-ends rest indent)

-- the text of an item is that of a map of it alone
pub item-text : (x : Item) → map_text (items_of (x ∷ [])) ≡ item_text [] x
item-text (Define n c) = append-nil (item_text [] (Define n c))
item-text (Instance s (Named t)) = append-nil (item_text [] (Instance s (Named t)))
item-text (Instance s (Anonymous c)) = append-nil (item_text [] (Instance s (Anonymous c)))
item-text (Own p v) = append-nil (item_text [] (Own p v))
item-text (Default p v) = append-nil (item_text [] (Default p v))
item-text (Dynamic t p v) = append-nil (item_text [] (Dynamic t p v))

pub item-ends : (x : Item) → Ends (item_text [] x)
item-ends x = subst Ends (item-text x) (body-ends (items_of (x ∷ [])) [])
