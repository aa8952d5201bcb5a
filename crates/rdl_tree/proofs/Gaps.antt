-- Items on both sides of a place.
use Rattle.std.proofs.Common.{◌≡◌, ℕ, zero, suc, ◌+◌, ◌<◌, ◌≤◌, get_or, List, [], ◌∷◌, ◌++◌, length, Some, refl, ap, sym, ◌∙◌, arith, append_assoc, length-append}
use Rattle.std.specs.Prelude.{reverse, insert, remove, slice_get}
use Rattle.std.proofs.lemmas.List.{reverse-append, reverse-reverse, length-reverse}
use Rattle.std.proofs.lemmas.List.Edits.{insert-append_left, remove-append_left}
use Rattle.std.proofs.lemmas.Option.{slice_get_read}
use Rattle.rdl_tree.specs.Items.{Items}
use Rattle.rdl_tree.specs.View.{items_of, list_of}
use Rattle.rdl_tree.specs.Edit.{insert_item, remove_item}
use Rattle.rdl_tree.specs.declared.description.Item.{Item}
use Rattle.rdl_tree.proofs.Rounds.{list_of-items_of}
use Rattle.rdl_tree.proofs.Edits.{no_item}

-- the last item of one list has gone to the end of the other
pub gone_over : (old from to more all : List Item) (x : Item) → old ≡ from ++ x ∷ [] → more ≡ to ++ x ∷ [] → old ++ reverse to ≡ all → from ++ reverse more ≡ all
gone_over old from to more all x e f h =
    ap (λ (ys : List Item). from ++ reverse ys) f ∙ ap (λ (ys : List Item). from ++ ys) (reverse-append to (x ∷ []))
    ∙ sym (append_assoc from (x ∷ []) (reverse to)) ∙ ap (λ (ys : List Item). ys ++ reverse to) (sym e) ∙ h

both_turned : (xs ys : List Item) → reverse (ys ++ reverse xs) ≡ xs ++ reverse ys
both_turned xs ys = reverse-append ys (reverse xs) ∙ ap (λ (zs : List Item). zs ++ reverse ys) (reverse-reverse xs)

-- the same seen from the other side
pub turned_round : (xs ys cs bs : List Item) → ys ++ reverse xs ≡ bs ++ reverse cs → xs ++ reverse ys ≡ cs ++ reverse bs
turned_round xs ys cs bs h = sym (both_turned xs ys) ∙ ap reverse h ∙ both_turned cs bs

-- nothing is left behind
pub all_in_front : (xs ys cs bs : List Item) (t : Items) → length ys ≡ 0 → ys ++ reverse xs ≡ bs ++ reverse cs → items_of (cs ++ reverse bs) ≡ t → items_of xs ≡ t
all_in_front xs ys cs bs t e h v =
    ap items_of (sym (reverse-reverse xs) ∙ ap (λ (zs : List Item). reverse (zs ++ reverse xs)) (sym (no_item ys e)) ∙ ap reverse h ∙ both_turned cs bs) ∙ v

seen : (xs : List Item) (t : Items) → items_of xs ≡ t → xs ≡ list_of t
seen xs t v = sym (list_of-items_of xs) ∙ ap list_of v

pub both_counted : (xs ys : List Item) (t : Items) → items_of (xs ++ reverse ys) ≡ t → length xs + length ys ≡ length (list_of t)
both_counted xs ys t v = omega (arith, ap length (seen (xs ++ reverse ys) t v), length-append xs (reverse ys), length-reverse ys)

pub ruleset gaps = (both_counted, list_of-items_of, length-append, length-reverse)

pub put_in_front : (xs more ys cs bs : List Item) (n : ℕ) (x : Item) (t : Items) → n ≤ length xs → xs ++ reverse ys ≡ cs ++ reverse bs → more ≡ insert xs n x → items_of (cs ++ reverse bs) ≡ t → items_of (more ++ reverse ys) ≡ insert_item n x t
put_in_front xs more ys cs bs n x t e h f v =
    ap items_of (ap (λ (zs : List Item). zs ++ reverse ys) f ∙ sym (insert-append_left xs (reverse ys) n x e)
    ∙ ap (λ (zs : List Item). insert zs n x) (h ∙ seen (cs ++ reverse bs) t v))

pub taken_from_front : (xs less ys cs bs : List Item) (n : ℕ) (t : Items) → length xs ≡ n + 1 → xs ++ reverse ys ≡ cs ++ reverse bs → less ≡ remove xs n → items_of (cs ++ reverse bs) ≡ t → items_of (less ++ reverse ys) ≡ remove_item n t
taken_from_front xs less ys cs bs n t e h f v =
    ap items_of (ap (λ (zs : List Item). zs ++ reverse ys) f ∙ sym (remove-append_left xs (reverse ys) n (omega (arith, e)))
    ∙ ap (λ (zs : List Item). remove zs n) (h ∙ seen (cs ++ reverse bs) t v))

get-in_front : (xs ys : List Item) (n : ℕ) (x : Item) → slice_get xs n ≡ Some x → slice_get (xs ++ ys) n ≡ Some x
get-in_front [] ys n x e = cc
get-in_front (y ∷ xs) ys zero x e = e
get-in_front (y ∷ xs) ys (suc n) x e = get-in_front xs ys n x e

pub found_in_front : (xs ys cs bs : List Item) (n : ℕ) (x : Item) (t : Items) → length xs ≡ n + 1 → xs ++ reverse ys ≡ cs ++ reverse bs → x ≡ get_or xs n x → items_of (cs ++ reverse bs) ≡ t → slice_get (list_of t) n ≡ Some x
found_in_front xs ys cs bs n x t e h f v =
    ap (λ (zs : List Item). slice_get zs n) (sym (h ∙ seen (cs ++ reverse bs) t v))
    ∙ get-in_front xs (reverse ys) n x (slice_get_read xs (length xs) n x refl (omega (arith, e)) f)
