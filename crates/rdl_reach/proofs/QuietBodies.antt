-- All items of a body stay quietly behind a patch of one of them.
use Rattle.std.proofs.Common.{◌≡◌, ℕ, zero, suc, ◌+◌, ◌-◌, ◌<◌, ◌≤◌, true, length, List, [], ◌∷◌, ◌++◌, Some, IsTrue, sym, arith, subst}
use Rattle.std.specs.Prelude.{insert, remove, slice_get, slice_set}
use Rattle.std.proofs.lemmas.List.Edits.{length-remove}
use Rattle.rdl_tree.specs.Items.{Items, no_items, plain, holder, Holder, define, anonymous}
use Rattle.rdl_tree.specs.View as tree
use Rattle.rdl_tree.specs.Address.{inner, map_inner}
use Rattle.rdl_tree.specs.Edit.{insert_item, remove_item, shift_item}
use Rattle.rdl_tree.specs.Part.{has_part, part_of, with_part, with_part_at}
use Rattle.rdl_tree.specs.declared.description.Item.{Item}
use Rattle.rdl_tree.specs.declared.description.Item.TheVariants.{Define, Instance, Own, Default, Dynamic}
use Rattle.rdl_tree.specs.declared.description.Of.TheVariants.{Named, Anonymous}
use Rattle.rdl_tree.specs.declared.part.Part.{Part}
use Rattle.rdl_tree.specs.declared.patch.Patch.TheVariants.{Insert, Delete, Shift, Exchange}
use Rattle.rdl_tree.proofs.Edits.{get-some, get-within}
use Rattle.rdl_tree.proofs.Rounds as tree_rounds
use Rattle.rdl_tree.proofs.Undone.{shift_is, exchange_is}
use Rattle.rdl_marks.specs.Marks.{Firsts, Marks}
use Rattle.rdl_marks.specs.View.{Trace, new_item, old_item, same_item, run, add, traces_of, Told, marks_of, told_of}
use Rattle.rdl_marks.specs.Noted.{exchanged, moved, changed_inside, reach, put_in, take_out, gone_as, told_at, taken_out_as, moved_to, at_item, here}
use Rattle.rdl_marks.proofs.Rounds.{traces_of-list_of}
use Rattle.rdl_marks.proofs.Tells.{reach_length, inner_within}
use Rattle.rdl_reach.specs.Quiet.{is_quiet, IsQuietPart}
use Rattle.rdl_reach.specs.QuietMarks.{StaysQuietly, AllQuiet, StayQuiet, AreQuietMarks}
use Rattle.rdl_reach.proofs.QuietItems.{IsQuietly, AreQuietly, first_quiet, more_quiet, none_more, new_quiet, same_quiet, moved_quiet, exchanged_quiet}

-- ---- Lists.

insert_quiet : (n : ℕ) (e : Trace) (es : List Trace) (x : Item) (xs : List Item) → n ≤ length es → IsQuietly e x → AreQuietly es xs → AreQuietly (insert es n e) (insert xs n x)
insert_quiet zero e es x xs l h k = more_quiet e (traces_of es) x (tree.items_of xs) h k
insert_quiet (suc n) e [] x xs l h k = absurd (omega arith)
insert_quiet (suc n) e (d ∷ es) x [] l h k = absurd (none_more d (traces_of es) k)
insert_quiet (suc n) e (d ∷ es) x (y ∷ ys) l h k =
    let parts = first_quiet d (traces_of es) y (tree.items_of ys) k in
    more_quiet d (traces_of (insert es n e)) y (tree.items_of (insert ys n x)) parts.0 (insert_quiet n e es x ys (omega arith) h parts.1)

remove_quiet : (n : ℕ) (es : List Trace) (xs : List Item) → n < length es → AreQuietly es xs → AreQuietly (remove es n) (remove xs n)
remove_quiet n [] xs l k = absurd (omega arith)
remove_quiet n (d ∷ es) [] l k = absurd (none_more d (traces_of es) k)
remove_quiet zero (d ∷ es) (y ∷ ys) l k = (first_quiet d (traces_of es) y (tree.items_of ys) k).1
remove_quiet (suc n) (d ∷ es) (y ∷ ys) l k =
    let parts = first_quiet d (traces_of es) y (tree.items_of ys) k in
    more_quiet d (traces_of (remove es n)) y (tree.items_of (remove ys n)) parts.0 (remove_quiet n es ys (omega arith) parts.1)

get_quiet : (n : ℕ) (e : Trace) (es : List Trace) (x : Item) (xs : List Item) → slice_get es n ≡ Some e → slice_get xs n ≡ Some x → AreQuietly es xs → IsQuietly e x
get_quiet n e [] x xs f g k = cc
get_quiet n e (d ∷ es) x [] f g k = absurd (none_more d (traces_of es) k)
get_quiet zero e (d ∷ es) x (y ∷ ys) f g k =
    let one : d ≡ e = cc in
    let two : y ≡ x = cc in
    subst (λ c. IsQuietly c x) one (subst (IsQuietly d) two (first_quiet d (traces_of es) y (tree.items_of ys) k).0)
get_quiet (suc n) e (d ∷ es) x (y ∷ ys) f g k = get_quiet n e es x ys f g (first_quiet d (traces_of es) y (tree.items_of ys) k).1

set_quiet : (n : ℕ) (e : Trace) (es : List Trace) (x : Item) (xs : List Item) → n < length es → IsQuietly e x → AreQuietly es xs → AreQuietly (slice_set es n e) (slice_set xs n x)
set_quiet n e [] x xs l h k = absurd (omega arith)
set_quiet n e (d ∷ es) x [] l h k = absurd (none_more d (traces_of es) k)
set_quiet zero e (d ∷ es) x (y ∷ ys) l h k = more_quiet e (traces_of es) x (tree.items_of ys) h (first_quiet d (traces_of es) y (tree.items_of ys) k).1
set_quiet (suc n) e (d ∷ es) x (y ∷ ys) l h k =
    let parts = first_quiet d (traces_of es) y (tree.items_of ys) k in
    more_quiet d (traces_of (slice_set es n e)) y (tree.items_of (slice_set ys n x)) parts.0 (set_quiet n e es x ys (omega arith) h parts.1)

run_quiet : (k d : ℕ) (xs : List Item) → d ≤ length xs → AreQuietly (run k d) xs
run_quiet k zero xs l = tt
run_quiet k (suc d) [] l = absurd (omega arith)
run_quiet k (suc d) (x ∷ xs) l = more_quiet (same_item k) (traces_of (run (k + 1) d)) x (tree.items_of xs) (same_quiet k x) (run_quiet (k + 1) d xs (omega arith))

quiet_length : (es : List Trace) (xs : List Item) → AreQuietly es xs → length es ≤ length xs
quiet_length [] xs h = omega arith
quiet_length (e ∷ es) [] h = absurd (none_more e (traces_of es) h)
quiet_length (e ∷ es) (x ∷ xs) h = omega (arith, quiet_length es xs (first_quiet e (traces_of es) x (tree.items_of xs) h).1)

reach_quiet : (es : List Trace) (k d : ℕ) (xs : List Item) → length es + d ≤ length xs → AreQuietly es xs → AreQuietly (es ++ run k d) xs
reach_quiet [] k d xs l h = run_quiet k d xs (omega arith)
reach_quiet (e ∷ es) k d [] l h = absurd (omega arith)
reach_quiet (e ∷ es) k d (x ∷ xs) l h =
    let parts = first_quiet e (traces_of es) x (tree.items_of xs) h in
    more_quiet e (traces_of (es ++ run k d)) x (tree.items_of xs) parts.0 (reach_quiet es k d xs (omega arith) parts.1)

one_gone : (x : Item) → is_quiet x ≡ true → (rest : Items) → AllQuiet rest → AllQuiet (tree.add x rest)
one_gone (Define n c) q rest h = cc
one_gone (Instance s (Named n)) q rest h = (q, h)
one_gone (Instance s (Anonymous c)) q rest h = cc
one_gone (Own p v) q rest h = (q, h)
one_gone (Default p v) q rest h = (q, h)
one_gone (Dynamic n p v) q rest h = (q, h)

others_gone : (x : Item) (rest more : Items) → AllQuiet (tree.add x rest) → AllQuiet more → AllQuiet (tree.add x more) × AllQuiet rest
others_gone (Define n c) rest more h k = absurd h
others_gone (Instance s (Named n)) rest more h k = ((h.0, k), h.1)
others_gone (Instance s (Anonymous c)) rest more h k = absurd h
others_gone (Own p v) rest more h k = ((h.0, k), h.1)
others_gone (Default p v) rest more h k = ((h.0, k), h.1)
others_gone (Dynamic n p v) rest more h k = ((h.0, k), h.1)

more_gone : (x : Item) (xs : List Item) → is_quiet x ≡ true → AllQuiet (tree.items_of xs) → AllQuiet (tree.items_of (xs ++ x ∷ []))
more_gone x [] q h = one_gone x q no_items tt
more_gone x (y ∷ ys) q h =
    let rest = (others_gone y (tree.items_of ys) no_items h tt).1 in
    (others_gone y (tree.items_of ys) (tree.items_of (ys ++ x ∷ [])) h (more_gone x ys q rest)).0

-- ---- What is told, as lists.

pub record IsToldQuietly (t : Told) (xs : List Item) : Type 0 where
  pub items : AreQuietly t.traces xs
  pub gone : AllQuiet (tree.items_of t.items)

pub to_lists : (m : Marks) (now : Items) → AreQuietMarks m now → IsToldQuietly (told_of m) (tree.list_of now)
to_lists m now h = record {
  items = subst (λ u. StayQuiet u (tree.items_of (tree.list_of now))) (sym (traces_of-list_of m.traces)) (subst (StayQuiet m.traces) (sym (tree_rounds.items_of-list_of now)) h.items);
  gone = subst AllQuiet (sym (tree_rounds.items_of-list_of m.items)) h.gone;
}

pub from_lists : (t : Told) (xs : List Item) → IsToldQuietly t xs → AreQuietMarks (marks_of t) (tree.items_of xs)
from_lists t xs h = record { items = h.items; gone = h.gone }

reached : (n : ℕ) (t : Told) (xs : List Item) → n ≤ length xs → IsToldQuietly t xs → IsToldQuietly (reach n t) xs
reached n t xs h k =
    let all = quiet_length t.traces xs k.items in
    record { items = reach_quiet t.traces t.behind (n - length t.traces) xs (omega (arith, all, h)) k.items; gone = k.gone }

-- the item of a number, as it is told of
record IsFound (n : ℕ) (m : Marks) (d : Items) : Type 0 where
  trace : Trace
  found : slice_get (reach (n + 1) (told_of m)).traces n ≡ Some trace
  within : n < length (reach (n + 1) (told_of m)).traces
  all : IsToldQuietly (reach (n + 1) (told_of m)) (tree.list_of d)

find : (n : ℕ) (m : Marks) (d : Items) → n < length (tree.list_of d) → AreQuietMarks m d → IsFound n m d
find n m d h k =
    let long : n < length (reach (n + 1) (told_of m)).traces = omega (arith, reach_length (n + 1) (told_of m)) in
    let e = get-some (reach (n + 1) (told_of m)).traces n long in
    record { trace = e.0; found = e.1; within = long; all = reached (n + 1) (told_of m) (tree.list_of d) (omega (arith, h)) (to_lists m d k) }

-- ---- A patch.

pub insert_here : (at : List ℕ) (n : ℕ) (x : Item) (m : Marks) (d : Items) → n ≤ length (tree.list_of d) → is_quiet x ≡ true → AreQuietMarks m d → AreQuietMarks (here (Delete at) n m) (insert_item n x d)
insert_here at n x m d h q k =
    let all = reached n (told_of m) (tree.list_of d) h (to_lists m d k) in
    from_lists (put_in n new_item (reach n (told_of m))) (insert (tree.list_of d) n x)
    (record { items = insert_quiet n new_item (reach n (told_of m)).traces x (tree.list_of d) (reach_length n (told_of m)) (new_quiet x q) all.items; gone = all.gone })

gone_quiet : (e : Trace) (x : Item) (t : Told) (xs : List Item) → is_quiet x ≡ true → IsToldQuietly t xs → IsToldQuietly (gone_as x e t) xs
gone_quiet new_item x t xs q k = k
gone_quiet (old_item i f m) x t xs q k = record { items = k.items; gone = more_gone x t.items q k.gone }

pub delete_here : (at : List ℕ) (n : ℕ) (x : Item) (m : Marks) (d : Items) → slice_get (tree.list_of d) n ≡ Some x → is_quiet x ≡ true → AreQuietMarks m d → AreQuietMarks (here (Insert at x) n m) (remove_item n d)
delete_here at n x m d h q k =
    let s = find n m d (get-within (tree.list_of d) n x h) k in
    let all : Told = reach (n + 1) (told_of m) in
    subst (λ o. AreQuietMarks (marks_of (taken_out_as n x o all)) (remove_item n d)) (sym s.found)
    (from_lists (gone_as x s.trace (take_out n all)) (remove (tree.list_of d) n)
    (gone_quiet s.trace x (take_out n all) (remove (tree.list_of d) n) q (record { items = remove_quiet n all.traces (tree.list_of d) s.within s.all.items; gone = s.all.gone })))

pub shift_here : (at : List ℕ) (from to : ℕ) (x : Item) (m : Marks) (d : Items) → slice_get (tree.list_of d) from ≡ Some x → to < length (tree.list_of d) → is_quiet x ≡ true → AreQuietMarks m d
    → AreQuietMarks (here (Shift at from) to m) (shift_item from to d)
shift_here at from to x m d h l q k =
    let s = find from m d (get-within (tree.list_of d) from x h) k in
    let all : Told = reach (from + 1) (told_of m) in
    let left : Told = take_out from all in
    let one = moved_quiet s.trace x q (get_quiet from s.trace all.traces x (tree.list_of d) s.found h s.all.items) in
    let short : to ≤ length (remove (tree.list_of d) from) = omega (arith, length-remove (tree.list_of d) from (get-within (tree.list_of d) from x h), l) in
    let rest = reached to left (remove (tree.list_of d) from) short (record { items = remove_quiet from all.traces (tree.list_of d) s.within s.all.items; gone = s.all.gone }) in
    subst (λ o. AreQuietMarks (marks_of (moved_to from to o all)) (shift_item from to d)) (sym s.found)
    (subst (AreQuietMarks (marks_of (put_in to (moved s.trace) (reach to left)))) (sym (shift_is from to d x h))
    (from_lists (put_in to (moved s.trace) (reach to left)) _
    (record { items = insert_quiet to (moved s.trace) (reach to left).traces x (remove (tree.list_of d) from) (reach_length to left) one rest.items; gone = rest.gone })))

pub exchange_here : (at : List ℕ) (n : ℕ) (part : Part) (x : Item) (m : Marks) (d : Items) → slice_get (tree.list_of d) n ≡ Some x → IsTrue (has_part part x) → IsQuietPart part x → AreQuietMarks m d
    → AreQuietMarks (here (Exchange at (part_of part x)) n m) (with_part_at n part d)
exchange_here at n part x m d h p q k =
    let s = find n m d (get-within (tree.list_of d) n x h) k in
    let all : Told = reach (n + 1) (told_of m) in
    let one = exchanged_quiet part s.trace x p q (get_quiet n s.trace all.traces x (tree.list_of d) s.found h s.all.items) in
    subst (λ o. AreQuietMarks (marks_of (told_at n (exchanged (part_of part x)) o all)) (with_part_at n part d)) (sym s.found)
    (subst (AreQuietMarks (marks_of (told_at n (exchanged (part_of part x)) (Some s.trace) all))) (sym (exchange_is n part d x h))
    (from_lists (told_at n (exchanged (part_of part x)) (Some s.trace) all) _
    (record { items = set_quiet n (exchanged (part_of part x) s.trace) all.traces (with_part part x) (tree.list_of d) s.within one s.all.items; gone = s.all.gone })))

-- ---- Inside an item.

-- these marks stay quiet
abbrev pub StaysSo : (f : Marks → Marks) → (F : Items → Items) → (d : Items) → Type 0
StaysSo f F d = (m : Marks) → AreQuietMarks m d → AreQuietMarks (f m) (F d)

-- what is asked of an item that stays isn't asked of its body
another_body : (q : Holder) (f : Firsts) (b c : Items) → StaysQuietly f (tree.holder_item q b) → StaysQuietly f (tree.holder_item q c)
another_body (define n k) f b c h = h
another_body (anonymous s k) f b c h = h

item_quiet : (i : ℕ) (e : Trace) (es : List Trace) (t d : Items) (f : Marks → Marks) (F : Items → Items) → slice_get es i ≡ Some e → inner i t ≡ Some d → StaysSo f F d
    → StayQuiet (traces_of es) t → StayQuiet (traces_of (slice_set es i (changed_inside f e))) (map_inner i F t)
item_quiet i e [] t d f F h g k r = cc
item_quiet i e (c ∷ es) no_items d f F h g k r = absurd (none_more c (traces_of es) r)
item_quiet zero e (c ∷ es) (plain p u) d f F h g k r = cc
item_quiet zero e (new_item ∷ es) (holder q body u) d f F h g k r = absurd r
item_quiet zero e (old_item j o m ∷ es) (holder q body u) d f F h g k r =
    let same : old_item j o m ≡ e = cc in
    let here : body ≡ d = cc in
    let told : AreQuietMarks (f m) (F body) = subst (λ b. AreQuietMarks (f m) (F b)) (sym here) (k m (subst (AreQuietMarks m) here (record { items = r.0.1; gone = r.0.2 }))) in
    subst (λ c. StayQuiet (add (changed_inside f c) (traces_of es)) (holder q (F body) u)) same ((another_body q o body (F body) r.0.0, told.items, told.gone), r.1)
item_quiet (suc i) e (new_item ∷ es) (plain p u) d f F h g k r = (r.0, item_quiet i e es u d f F h g k r.1)
item_quiet (suc i) e (new_item ∷ es) (holder q body u) d f F h g k r = absurd r
item_quiet (suc i) e (old_item j o m ∷ es) (plain p u) d f F h g k r = (r.0, item_quiet i e es u d f F h g k r.1)
item_quiet (suc i) e (old_item j o m ∷ es) (holder q body u) d f F h g k r = (r.0, item_quiet i e es u d f F h g k r.1)

pub inside_here : (i : ℕ) (f : Marks → Marks) (F : Items → Items) (m : Marks) (t d : Items) → inner i t ≡ Some d → StaysSo f F d → AreQuietMarks m t → AreQuietMarks (marks_of (at_item i (changed_inside f) (told_of m))) (map_inner i F t)
inside_here i f F m t d h g k =
    let s = find i m t (inner_within i t d h) k in
    let all : Told = reach (i + 1) (told_of m) in
    let items : StayQuiet (traces_of (slice_set all.traces i (changed_inside f s.trace))) (map_inner i F t) =
    item_quiet i s.trace all.traces t d f F s.found h g (subst (StayQuiet (traces_of all.traces)) (tree_rounds.items_of-list_of t) s.all.items) in
    subst (λ o. AreQuietMarks (marks_of (told_at i (changed_inside f) o all)) (map_inner i F t)) (sym s.found) (record { items = items; gone = s.all.gone })
