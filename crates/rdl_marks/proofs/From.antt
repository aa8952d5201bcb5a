-- Items that became of others, one by one.
use Rattle.std.proofs.Common.{◌≡◌, ℕ, zero, suc, ◌+◌, ◌<◌, ◌≤◌, length, List, [], ◌∷◌, ◌++◌, drop, Some, refl, ap, sym, ◌∙◌, arith, subst, add-one}
use Rattle.std.specs.Prelude.{insert, remove, slice_get, slice_set}
use Rattle.rdl_tree.specs.Items.{Items, no_items}
use Rattle.rdl_tree.specs.View as tree
use Rattle.rdl_tree.specs.declared.description.Item.{Item}
use Rattle.rdl_tree.specs.declared.description.Item.TheVariants.{Define, Instance, Own, Default, Dynamic}
use Rattle.rdl_tree.specs.declared.description.Of.TheVariants.{Named, Anonymous}
use Rattle.rdl_tree.proofs.Rounds as tree_rounds
use Rattle.rdl_marks.specs.Marks.{Traces, no_traces}
use Rattle.rdl_marks.specs.View.{Trace, new_item, old_item, same_item, run, add, traces_of}
use Rattle.rdl_marks.specs.Describes.{AreFrom}
use Rattle.rdl_marks.proofs.Times.{none_once}

-- what is told of one item
abbrev pub IsFrom : (old : Items) → Trace → Item → Type 0
IsFrom old e x = AreFrom old (add e no_traces) [] (tree.add x no_items)

abbrev pub AreSo : (old : Items) → List Trace → (rest : List Item) → List Item → Type 0
AreSo old es rest xs = AreFrom old (traces_of es) rest (tree.items_of xs)

-- ---- One item, and those behind it.

pub first_from : (old : Items) (e : Trace) (t : Traces) (rest : List Item) (x : Item) (xs : Items) → AreFrom old (add e t) rest (tree.add x xs) → IsFrom old e x × AreFrom old t rest xs
first_from old new_item t rest (Define n c) xs h = (refl, h)
first_from old new_item t rest (Instance s (Named n)) xs h = (refl, h)
first_from old new_item t rest (Instance s (Anonymous c)) xs h = (refl, h)
first_from old new_item t rest (Own p v) xs h = (refl, h)
first_from old new_item t rest (Default p v) xs h = (refl, h)
first_from old new_item t rest (Dynamic n p v) xs h = (refl, h)
first_from old (old_item k f m) t rest (Define n c) xs h = ((h.0, refl), h.1)
first_from old (old_item k f m) t rest (Instance s (Named n)) xs h = ((h.0, refl), h.1)
first_from old (old_item k f m) t rest (Instance s (Anonymous c)) xs h = ((h.0, refl), h.1)
first_from old (old_item k f m) t rest (Own p v) xs h = ((h.0, refl), h.1)
first_from old (old_item k f m) t rest (Default p v) xs h = ((h.0, refl), h.1)
first_from old (old_item k f m) t rest (Dynamic n p v) xs h = ((h.0, refl), h.1)

pub more_from : (old : Items) (e : Trace) (t : Traces) (rest : List Item) (x : Item) (xs : Items) → IsFrom old e x → AreFrom old t rest xs → AreFrom old (add e t) rest (tree.add x xs)
more_from old new_item t rest (Define n c) xs h k = k
more_from old new_item t rest (Instance s (Named n)) xs h k = k
more_from old new_item t rest (Instance s (Anonymous c)) xs h k = k
more_from old new_item t rest (Own p v) xs h k = k
more_from old new_item t rest (Default p v) xs h k = k
more_from old new_item t rest (Dynamic n p v) xs h k = k
more_from old (old_item i f m) t rest (Define n c) xs h k = (h.0, k)
more_from old (old_item i f m) t rest (Instance s (Named n)) xs h k = (h.0, k)
more_from old (old_item i f m) t rest (Instance s (Anonymous c)) xs h k = (h.0, k)
more_from old (old_item i f m) t rest (Own p v) xs h k = (h.0, k)
more_from old (old_item i f m) t rest (Default p v) xs h k = (h.0, k)
more_from old (old_item i f m) t rest (Dynamic n p v) xs h k = (h.0, k)

pub none_more : (old : Items) (e : Trace) (t : Traces) (rest : List Item) → AreFrom old (add e t) rest no_items → ⊥
none_more old new_item t rest h = h
none_more old (old_item n f m) t rest h = h

pub new_from : (old : Items) (x : Item) → IsFrom old new_item x
new_from old (Define n c) = refl
new_from old (Instance s (Named n)) = refl
new_from old (Instance s (Anonymous c)) = refl
new_from old (Own p v) = refl
new_from old (Default p v) = refl
new_from old (Dynamic n p v) = refl

-- an item that is as it was
pub same_from : (old : Items) (k : ℕ) (x : Item) → slice_get (tree.list_of old) k ≡ Some x → IsFrom old (same_item k) x
same_from old k (Define n c) h = ((c.body, h, refl, refl, none_once), refl)
same_from old k (Instance s (Named n)) h = (h, refl)
same_from old k (Instance s (Anonymous c)) h = ((c.body, h, refl, refl, none_once), refl)
same_from old k (Own p v) h = (h, refl)
same_from old k (Default p v) h = (h, refl)
same_from old k (Dynamic n p v) h = (h, refl)

-- ---- Lists.

pub insert_from : (old : Items) (n : ℕ) (e : Trace) (es : List Trace) (rest : List Item) (x : Item) (xs : List Item) → n ≤ length es → IsFrom old e x → AreSo old es rest xs → AreSo old (insert es n e) rest (insert xs n x)
insert_from old zero e es rest x xs l h k = more_from old e (traces_of es) rest x (tree.items_of xs) h k
insert_from old (suc n) e [] rest x xs l h k = absurd (omega arith)
insert_from old (suc n) e (d ∷ es) rest x [] l h k = absurd (none_more old d (traces_of es) rest k)
insert_from old (suc n) e (d ∷ es) rest x (y ∷ ys) l h k =
    let parts = first_from old d (traces_of es) rest y (tree.items_of ys) k in
    more_from old d (traces_of (insert es n e)) rest y (tree.items_of (insert ys n x)) parts.0 (insert_from old n e es rest x ys (omega arith) h parts.1)

pub remove_from : (old : Items) (n : ℕ) (es : List Trace) (rest : List Item) (xs : List Item) → n < length es → AreSo old es rest xs → AreSo old (remove es n) rest (remove xs n)
remove_from old n [] rest xs l k = absurd (omega arith)
remove_from old n (d ∷ es) rest [] l k = absurd (none_more old d (traces_of es) rest k)
remove_from old zero (d ∷ es) rest (y ∷ ys) l k = (first_from old d (traces_of es) rest y (tree.items_of ys) k).1
remove_from old (suc n) (d ∷ es) rest (y ∷ ys) l k =
    let parts = first_from old d (traces_of es) rest y (tree.items_of ys) k in
    more_from old d (traces_of (remove es n)) rest y (tree.items_of (remove ys n)) parts.0 (remove_from old n es rest ys (omega arith) parts.1)

pub get_from : (old : Items) (n : ℕ) (e : Trace) (es : List Trace) (rest : List Item) (x : Item) (xs : List Item) → slice_get es n ≡ Some e → slice_get xs n ≡ Some x → AreSo old es rest xs → IsFrom old e x
get_from old n e [] rest x xs f g k = cc
get_from old n e (d ∷ es) rest x [] f g k = absurd (none_more old d (traces_of es) rest k)
get_from old zero e (d ∷ es) rest x (y ∷ ys) f g k =
    let one : d ≡ e = cc in
    let two : y ≡ x = cc in
    subst (λ c. IsFrom old c x) one (subst (IsFrom old d) two (first_from old d (traces_of es) rest y (tree.items_of ys) k).0)
get_from old (suc n) e (d ∷ es) rest x (y ∷ ys) f g k = get_from old n e es rest x ys f g (first_from old d (traces_of es) rest y (tree.items_of ys) k).1

pub set_from : (old : Items) (n : ℕ) (e : Trace) (es : List Trace) (rest : List Item) (x : Item) (xs : List Item) → n < length es → IsFrom old e x → AreSo old es rest xs → AreSo old (slice_set es n e) rest (slice_set xs n x)
set_from old n e [] rest x xs l h k = absurd (omega arith)
set_from old n e (d ∷ es) rest x [] l h k = absurd (none_more old d (traces_of es) rest k)
set_from old zero e (d ∷ es) rest x (y ∷ ys) l h k = more_from old e (traces_of es) rest x (tree.items_of ys) h (first_from old d (traces_of es) rest y (tree.items_of ys) k).1
set_from old (suc n) e (d ∷ es) rest x (y ∷ ys) l h k =
    let parts = first_from old d (traces_of es) rest y (tree.items_of ys) k in
    more_from old d (traces_of (slice_set es n e)) rest y (tree.items_of (slice_set ys n x)) parts.0 (set_from old n e es rest x ys (omega arith) h parts.1)

no_others : (x : Item) (xs : List Item) → tree.list_of (tree.items_of (x ∷ xs)) ≡ [] → ⊥
no_others x xs h = let e : x ∷ xs ≡ [] = sym (tree_rounds.list_of-items_of (x ∷ xs)) ∙ h in cc

-- one more behind the others, of which none is left
pub push_from : (old : Items) (e : Trace) (es : List Trace) (x : Item) (xs : List Item) → IsFrom old e x → AreSo old es [] xs → AreSo old (es ++ e ∷ []) [] (xs ++ x ∷ [])
push_from old e [] x [] h k = h
push_from old e [] x (y ∷ ys) h k = absurd (no_others y ys k)
push_from old e (d ∷ es) x [] h k = absurd (none_more old d (traces_of es) [] k)
push_from old e (d ∷ es) x (y ∷ ys) h k =
    let parts = first_from old d (traces_of es) [] y (tree.items_of ys) k in
    more_from old d (traces_of (es ++ e ∷ [])) [] y (tree.items_of (ys ++ x ∷ [])) parts.0 (push_from old e es x ys h parts.1)

-- ---- How far is told.

drop_first : (L : List Item) (k : ℕ) (x : Item) (xs : List Item) → x ∷ xs ≡ drop k L → (slice_get L k ≡ Some x) × (xs ≡ drop (suc k) L)
drop_first [] zero x xs e = cc
drop_first [] (suc k) x xs e = cc
drop_first (y ∷ ys) zero x xs e =
    let one : y ≡ x = cc in
    let two : xs ≡ ys = cc in (ap Some one, two)
drop_first (y ∷ ys) (suc k) x xs e = drop_first ys k x xs e

run_from : (old : Items) (k d : ℕ) (xs : List Item) → xs ≡ drop k (tree.list_of old) → d ≤ length xs → AreSo old (run k d) (drop (k + d) (tree.list_of old)) xs
run_from old k zero xs e l =
    tree_rounds.list_of-items_of xs ∙ e ∙ (let same : k ≡ k + zero = omega arith in ap (λ m. drop m (tree.list_of old)) same)
run_from old k (suc d) [] e l = absurd (omega arith)
run_from old k (suc d) (x ∷ xs) e l =
    let parts = drop_first (tree.list_of old) k x xs e in
    let same : k + 1 + d ≡ k + suc d = omega arith in
    more_from old (same_item k) (traces_of (run (k + 1) d)) (drop (k + suc d) (tree.list_of old)) x (tree.items_of xs) (same_from old k x parts.0)
    (subst (λ m. AreSo old (run (k + 1) d) (drop m (tree.list_of old)) xs) same
    (run_from old (k + 1) d xs (parts.1 ∙ ap (λ m. drop m (tree.list_of old)) (sym (add-one k))) (omega arith)))

pub reach_from : (old : Items) (es : List Trace) (k d : ℕ) (xs : List Item) → length es + d ≤ length xs → AreSo old es (drop k (tree.list_of old)) xs → AreSo old (es ++ run k d) (drop (k + d) (tree.list_of old)) xs
reach_from old [] k d xs l h = run_from old k d xs (sym (tree_rounds.list_of-items_of xs) ∙ h) (omega arith)
reach_from old (e ∷ es) k d [] l h = absurd (omega arith)
reach_from old (e ∷ es) k d (x ∷ xs) l h =
    let parts = first_from old e (traces_of es) (drop k (tree.list_of old)) x (tree.items_of xs) h in
    more_from old e (traces_of (es ++ run k d)) (drop (k + d) (tree.list_of old)) x (tree.items_of xs) parts.0 (reach_from old es k d xs (omega arith) parts.1)

pub from-length : (old : Items) (es : List Trace) (rest xs : List Item) → AreSo old es rest xs → length es ≤ length xs
from-length old [] rest xs h = omega arith
from-length old (e ∷ es) rest [] h = absurd (none_more old e (traces_of es) rest h)
from-length old (e ∷ es) rest (x ∷ xs) h = omega (arith, from-length old es rest xs (first_from old e (traces_of es) rest x (tree.items_of xs) h).1)
