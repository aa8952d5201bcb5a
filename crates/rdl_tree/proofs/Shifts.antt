-- A part of a list that is turned round by one place, and the list around it.
use Rattle.std.proofs.Common.{◌≡◌, ℕ, ◌+◌, ◌-◌, ◌<◌, ◌≤◌, List, [], ◌∷◌, ◌++◌, length, ap, ap₂, sym, ◌∙◌, arith, take, drop, take_all, get_or, Some, append_assoc, length-drop, add-one}
use Rattle.std.specs.Prelude.{slice_get, insert, remove}
use Rattle.std.specs.Option.{option_to_list}
use Rattle.std.proofs.lemmas.List.{drop-take, drop_all, drop-drop, append-nil, take-append-drop, take-append-le, take_more, get_or-take, length-take-le}
use Rattle.std.proofs.lemmas.List.Edits.{insert-append_left, length-remove, remove-append_left}
use Rattle.std.proofs.Math.Seq.{drop-append_seam, take-append_seam}
use Rattle.std.proofs.lemmas.Slice.{put_mid-rotated}
use Rattle.std.proofs.lemmas.Option.{slice_get-get_or}
use borrow.Rule.Slice.PartMut.{put_mid, mid_of}
use Rattle.rdl_tree.specs.Edit.{put_back, shift_item}
use Rattle.rdl_tree.specs.Items.{Items}
use Rattle.rdl_tree.specs.View.{items_of, list_of}
use Rattle.rdl_tree.specs.declared.description.Item.{Item}
use Rattle.rdl_tree.proofs.Rounds.{list_of-items_of}

-- the item of this number is behind all others
pub at_the_end : {X : Type 0} (a k : ℕ) (xs ys : List X) → a < length xs → length xs ≤ a + k → ys ≡ drop 1 (mid_of a k xs) ++ take 1 (mid_of a k xs) → put_mid a k xs ys ≡ remove xs a ++ option_to_list (slice_get xs a)
at_the_end a k [] ys h l e = absurd (omega arith)
at_the_end a k (d ∷ rest) ys h l e =
    put_mid-rotated a k (d ∷ rest) ys d h l e
    ∙ ap (λ o. remove (d ∷ rest) a ++ option_to_list o) (sym (slice_get-get_or (d ∷ rest) a d h))

-- the last item is before that of this number
pub from_the_end : {X : Type 0} (a k : ℕ) (xs ys : List X) → a < length xs → k ≡ length xs - a → ys ≡ drop (length (mid_of a k xs) - 1) (mid_of a k xs) ++ take (length (mid_of a k xs) - 1) (mid_of a k xs)
    → put_mid a k xs ys ≡ take a xs ++ drop (length xs - 1) xs ++ drop a (take (length xs - 1) xs)
from_the_end a k xs ys h e f =
    let n = length xs in
    let long = length-drop a xs in
    let mid : mid_of a k xs ≡ drop a xs = take_all k (drop a xs) (omega arith) in
    let size : length (mid_of a k xs) - 1 ≡ n - 1 - a = omega (arith, ap length mid) in
    let seam : a + (n - 1 - a) ≡ n - 1 = omega arith in
    let last : drop (length (mid_of a k xs) - 1) (mid_of a k xs) ≡ drop (n - 1) xs =
    ap₂ drop size mid ∙ drop-drop (n - 1 - a) a xs ∙ ap (λ i. drop i xs) seam in
    let front : take (length (mid_of a k xs) - 1) (mid_of a k xs) ≡ drop a (take (n - 1) xs) =
    ap₂ take size mid ∙ sym (drop-take a (n - 1 - a) xs) ∙ ap (λ i. drop a (take i xs)) seam in
    let turned : ys ≡ drop (n - 1) xs ++ drop a (take (n - 1) xs) = f ∙ ap₂ (λ u v. u ++ v) last front in
    ap (λ l. take a xs ++ l) (ap₂ (λ u v. u ++ v) turned (drop_all k (drop a xs) (omega arith)) ∙ append-nil _) ∙ sym (append_assoc (take a xs) _ _)

-- one item of a list and those behind it up to another change places, and the rest stays behind them
pub shifted_up : (from to : ℕ) (xs ys : List Item) → from < to → to < length xs → ys ≡ remove (take (to + 1) xs) from ++ option_to_list (slice_get (take (to + 1) xs) from)
    → ys ++ drop (to + 1) xs ≡ put_back to (remove xs from) (slice_get xs from)
shifted_up from to [] ys h l e = absurd (omega arith)
shifted_up from to (d ∷ zs) ys h l e =
    let xs : List Item = d ∷ zs in
    let front : List Item = take (to + 1) xs in
    let rest : List Item = drop (to + 1) xs in
    let x : Item = get_or xs from d in
    let left : List Item = remove front from in
    let size : length front ≡ to + 1 = length-take-le (to + 1) xs (omega arith) in
    let shorter : length left ≡ to = omega (arith, length-remove front from (omega arith)) in
    let item : slice_get front from ≡ Some x = slice_get-get_or front from d (omega arith) ∙ ap Some (get_or-take (to + 1) xs from d (omega arith)) in
    let parts : remove xs from ≡ left ++ rest =
    ap (λ l. remove l from) (sym (take-append-drop (to + 1) xs)) ∙ remove-append_left front rest from (omega arith) in
    let before : take to (left ++ rest) ≡ left = ap (λ n. take n (left ++ rest)) (sym shorter) ∙ take-append_seam left rest in
    let behind : drop to (left ++ rest) ≡ rest = ap (λ n. drop n (left ++ rest)) (sym shorter) ∙ drop-append_seam left rest in
    let moved : ys ≡ left ++ x ∷ [] = e ∙ ap (λ o. left ++ option_to_list o) item in
    ap (λ l. l ++ rest) moved ∙ append_assoc left (x ∷ []) rest
    ∙ sym (ap₂ (λ u v. u ++ x ∷ v) before behind)
    ∙ ap (λ l. insert l to x) (sym parts)
    ∙ ap (λ o. put_back to (remove xs from) o) (sym (slice_get-get_or xs from d (omega arith)))

-- the same, where the item goes to an earlier place
pub shifted_down : (from to : ℕ) (xs ys : List Item) → to ≤ from → from < length xs
    → ys ≡ take to (take (from + 1) xs) ++ drop (length (take (from + 1) xs) - 1) (take (from + 1) xs) ++ drop to (take (length (take (from + 1) xs) - 1) (take (from + 1) xs))
    → ys ++ drop (from + 1) xs ≡ put_back to (remove xs from) (slice_get xs from)
shifted_down from to [] ys h l e = absurd (omega arith)
shifted_down from to (d ∷ zs) ys h l e =
    let xs : List Item = d ∷ zs in
    let x : Item = get_or xs from d in
    let front : List Item = take from xs in
    let part : List Item = take (from + 1) xs in
    let rest : List Item = drop (from + 1) xs in
    let size : length front ≡ from = length-take-le from xs (omega arith) in
    let split : part ≡ front ++ x ∷ [] = take_more xs from d l in
    let last : length part - 1 ≡ length front = omega (arith, length-take-le (from + 1) xs (omega arith), size) in
    let before : take to part ≡ take to front = ap (take to) split ∙ take-append-le to front (x ∷ []) (omega arith) in
    let item : drop (length part - 1) part ≡ x ∷ [] = ap₂ drop last split ∙ drop-append_seam front (x ∷ []) in
    let others : take (length part - 1) part ≡ front = ap₂ take last split ∙ take-append_seam front (x ∷ []) in
    let moved : ys ≡ (take to front ++ x ∷ []) ++ drop to front =
    e ∙ ap₂ (λ u v. u ++ v) (ap₂ (λ u v. u ++ v) before item) (ap (drop to) others) in
    let parts : remove xs from ≡ front ++ rest = ap (λ n. front ++ drop n xs) (sym (add-one from)) in
    ap (λ l. l ++ rest) (moved ∙ append_assoc (take to front) (x ∷ []) (drop to front))
    ∙ sym (insert-append_left front rest to x (omega arith))
    ∙ ap (λ l. insert l to x) (sym parts)
    ∙ ap (λ o. put_back to (remove xs from) o) (sym (slice_get-get_or xs from d l))

-- what a body sees of it
pub shifted_view : (from to : ℕ) (t : Items) (xs s ys : List Item) → t ≡ items_of xs → s ≡ xs → ys ≡ put_back to (remove s from) (slice_get s from) → items_of ys ≡ shift_item from to t
shifted_view from to t xs s ys e f g =
    let list : s ≡ list_of t = f ∙ sym (list_of-items_of xs) ∙ ap list_of (sym e) in
    ap items_of (g ∙ ap (λ l. put_back to (remove l from) (slice_get l from)) list)
