-- Items that are still there have their numbers in the last map, and are the same ones unless they were touched.
use Rattle.std.proofs.Common.{◌≡◌, ℕ, zero, suc, ◌+◌, ◌^◌, ◌<◌, ◌≤◌, Bool, true, false, cond, IsTrue, List, [], ◌∷◌, Option, Some, None, refl, ap, sym, ◌∙◌, arith, subst, eq-eqb}
use Rattle.std.specs.Prelude.{slice_get, slice_set, insert, remove, option_map, option_and_then}
use Rattle.std.proofs.lemmas.Bool.{and_parts, ne_eqb}
use Rattle.rdl_tree.specs.Items.{Items, no_items, plain, holder, Plain, Holder, count}
use Rattle.rdl_tree.specs.View as tree
use Rattle.rdl_tree.specs.View.{plain_item, holder_item}
use Rattle.rdl_tree.specs.Address.{holder_of, number_of, inner, map_inner, body_at, map_body}
use Rattle.rdl_tree.specs.ItemAt.{item_at}
use Rattle.rdl_tree.specs.Edit.{insert_item, remove_item, shift_item}
use Rattle.rdl_tree.specs.Part.{with_part, with_part_at}
use Rattle.rdl_tree.specs.Patch.{patched, image, fits, AllFit}
use Rattle.rdl_tree.specs.declared.description.Item.{Item}
use Rattle.rdl_tree.specs.declared.description.Item.TheVariants.{Define, Instance, Own, Default, Dynamic}
use Rattle.rdl_tree.specs.declared.description.Of.TheVariants.{Named, Anonymous}
use Rattle.rdl_tree.specs.declared.part.Part.{Part}
use Rattle.rdl_tree.specs.declared.part.Part.TheVariants.{OfShell, OfValue, OfTarget, OfType, OfDefine}
use Rattle.rdl_tree.specs.declared.patch.Patch.{Patch}
use Rattle.rdl_tree.specs.declared.patch.Patch.TheVariants.{Insert, Delete, Shift, Exchange}
use Rattle.rdl_tree.proofs.Rounds as tree_rounds
use Rattle.rdl_tree.proofs.Places.{stands, the_item}
use Rattle.rdl_tree.proofs.Undone.{place_in, part_in, shift_is, exchange_is}
use Rattle.rdl_origin.specs.Traces.{Traces, no_traces, trace, map_item, map_inside}
use Rattle.rdl_origin.specs.View.{add, traces_of, list_of}
use Rattle.rdl_origin.specs.Numbered.{capped, numbered, unnumbered_item}
use Rattle.rdl_origin.specs.Back.{moved, touched, put_in, put_at, changed, gone_back, all_gone_back}
use Rattle.rdl_origin.specs.Values.{item_with, IsPlainValue, IsHolderValue, AreValues}
use Rattle.rdl_origin.specs.declared.origin.Origin.{Origin}
use Rattle.rdl_origin.proofs.Rounds.{traces_of-list_of}

-- ---- The items of a body from one on.

-- from a number on these items are those of the body
abbrev pub Ends : (from : ℕ) → (last : Items) → (n : ℕ) → (t : Items) → Type 0
Ends from last n t = (m : ℕ) → n ≤ m → item_with from m last ≡ item_with n m t

pub plain_here : (n : ℕ) (p : Plain) (rest : Items) → item_with n n (plain p rest) ≡ Some (plain_item p)
plain_here n p rest = ap (λ b. cond b (Some (plain_item p)) (item_with (n + 1) n rest)) (eq-eqb n n refl)

pub holder_here : (n : ℕ) (h : Holder) (body rest : Items) → item_with n n (holder h body rest) ≡ Some (holder_item h body)
holder_here n h body rest = ap (λ b. cond b (Some (holder_item h body)) (item_with (n + 1 + count body) n rest)) (eq-eqb n n refl)

pub plain_past : (n m : ℕ) (p : Plain) (rest : Items) → n < m → item_with n m (plain p rest) ≡ item_with (n + 1) m rest
plain_past n m p rest h = ap (λ b. cond b (Some (plain_item p)) (item_with (n + 1) m rest)) (ne_eqb n m (λ e. omega (arith, e, h)))

pub holder_past : (n m : ℕ) (h : Holder) (body rest : Items) → n < m → item_with n m (holder h body rest) ≡ item_with (n + 1 + count body) m rest
holder_past n m h body rest k =
    ap (λ b. cond b (Some (holder_item h body)) (item_with (n + 1 + count body) m rest)) (ne_eqb n m (λ e. omega (arith, e, k)))

pub ends_plain : (from : ℕ) (last : Items) (n : ℕ) (p : Plain) (rest : Items) → Ends from last n (plain p rest) → Ends from last (n + 1) rest
ends_plain from last n p rest e = λ m h. e m (omega (arith, h)) ∙ plain_past n m p rest (omega (arith, h))

pub ends_holder : (from : ℕ) (last : Items) (n : ℕ) (q : Holder) (body rest : Items) → Ends from last n (holder q body rest) → Ends from last (n + 1 + count body) rest
ends_holder from last n q body rest e = λ m h. e m (omega (arith, h)) ∙ holder_past n m q body rest (omega (arith, h))

-- ---- Before any step.

pub numbered-values : (from : ℕ) (last : Items) (n : ℕ) (t : Items) → n + count t ≤ 2 ^ 32 → Ends from last n t → AreValues from last (numbered n t) t
numbered-values from last n no_items h e = tt
numbered-values from last n (plain p rest) h e =
    let same : n ≡ capped n = omega (arith, h) in (
      subst (λ m. IsPlainValue from last (Some m) false p) same (p, e n (omega arith) ∙ plain_here n p rest, λ z. refl),
      refl,
      numbered-values from last (n + 1) rest (omega (arith, h)) (ends_plain from last n p rest e),
    )
numbered-values from last n (holder q body rest) h e =
    let same : n ≡ capped n = omega (arith, h) in (
      subst (λ m. IsHolderValue from last (Some m) false q (λ k b. AreValues k b (numbered (n + 1) body) body)) same
          (q, body, e n (omega arith) ∙ holder_here n q body rest, (λ z. refl), numbered-values (n + 1) body (n + 1) body (omega (arith, h)) (λ m k. refl)),
      numbered-values from last (n + 1 + count body) rest (omega (arith, h)) (ends_holder from last n q body rest e),
    )

-- ---- One item, and those behind it.

abbrev pub IsValue : (from : ℕ) → (last : Items) → Origin → Item → Type 0
IsValue from last o x = AreValues from last (add o no_traces) (tree.add x no_items)

pub first_value : (from : ℕ) (last : Items) (o : Origin) (t : Traces) (x : Item) (xs : Items) → AreValues from last (add o t) (tree.add x xs) → IsValue from last o x × AreValues from last t xs
first_value from last o t (Define n c) xs h = ((h.0, tt), h.1)
first_value from last o t (Instance s (Named n)) xs h = ((h.0, h.1, tt), h.2)
first_value from last o t (Instance s (Anonymous c)) xs h = ((h.0, tt), h.1)
first_value from last o t (Own p v) xs h = ((h.0, h.1, tt), h.2)
first_value from last o t (Default p v) xs h = ((h.0, h.1, tt), h.2)
first_value from last o t (Dynamic n p v) xs h = ((h.0, h.1, tt), h.2)

pub more_values : (from : ℕ) (last : Items) (o : Origin) (t : Traces) (x : Item) (xs : Items) → IsValue from last o x → AreValues from last t xs → AreValues from last (add o t) (tree.add x xs)
more_values from last o t (Define n c) xs h k = (h.0, k)
more_values from last o t (Instance s (Named n)) xs h k = (h.0, h.1, k)
more_values from last o t (Instance s (Anonymous c)) xs h k = (h.0, k)
more_values from last o t (Own p v) xs h k = (h.0, h.1, k)
more_values from last o t (Default p v) xs h k = (h.0, h.1, k)
more_values from last o t (Dynamic n p v) xs h k = (h.0, h.1, k)

pub none_more : (from : ℕ) (last : Items) (x : Item) (xs : Items) → AreValues from last no_traces (tree.add x xs) → ⊥
none_more from last (Define n c) xs h = h
none_more from last (Instance s (Named n)) xs h = h
none_more from last (Instance s (Anonymous c)) xs h = h
none_more from last (Own p v) xs h = h
none_more from last (Default p v) xs h = h
none_more from last (Dynamic n p v) xs h = h

-- ---- An item with another in its place.

unnumbered-value : (from : ℕ) (last : Items) (x : Item) → IsValue from last (unnumbered_item x) x
unnumbered-value from last (Define n c) = (tt, tt)
unnumbered-value from last (Instance s (Named n)) = (tt, refl, tt)
unnumbered-value from last (Instance s (Anonymous c)) = (tt, tt)
unnumbered-value from last (Own p v) = (tt, refl, tt)
unnumbered-value from last (Default p v) = (tt, refl, tt)
unnumbered-value from last (Dynamic n p v) = (tt, refl, tt)

moved-value : (from : ℕ) (last : Items) (a b : ℕ) (o : Origin) (x : Item) → IsValue from last o x → IsValue from last (moved a b o) x
moved-value from last a b o (Define n c) h = h
moved-value from last a b o (Instance s (Named n)) h = h
moved-value from last a b o (Instance s (Anonymous c)) h = h
moved-value from last a b o (Own p v) h = h
moved-value from last a b o (Default p v) h = h
moved-value from last a b o (Dynamic n p v) h = h

true-false : true ≡ false → ⊥
true-false e = cc

plain-touched : (from : ℕ) (last : Items) (now : Option ℕ) (t : Bool) (p q : Plain) → IsPlainValue from last now t p → IsPlainValue from last now true q
plain-touched from last None t p q h = tt
plain-touched from last (Some n) t p q h = (h.0, h.1, λ e. absurd (true-false e))

holder-touched : (from : ℕ) (last : Items) (now : Option ℕ) (t : Bool) (h g : Holder) (inside : ℕ → Items → Type 0) → IsHolderValue from last now t h inside → IsHolderValue from last now true g inside
holder-touched from last None t h g inside k = tt
holder-touched from last (Some n) t h g inside k = (k.0, k.1, k.2, (λ e. absurd (true-false e)), k.4)

touched-value : (from : ℕ) (last : Items) (o : Origin) (x : Item) → IsValue from last o x → IsValue from last (touched o) x
touched-value from last o (Define n c) h = (holder-touched from last o.now o.is_touched _ _ _ h.0, tt)
touched-value from last o (Instance s (Named n)) h = (plain-touched from last o.now o.is_touched _ _ h.0, h.1, tt)
touched-value from last o (Instance s (Anonymous c)) h = (holder-touched from last o.now o.is_touched _ _ _ h.0, tt)
touched-value from last o (Own p v) h = (plain-touched from last o.now o.is_touched _ _ h.0, h.1, tt)
touched-value from last o (Default p v) h = (plain-touched from last o.now o.is_touched _ _ h.0, h.1, tt)
touched-value from last o (Dynamic n p v) h = (plain-touched from last o.now o.is_touched _ _ h.0, h.1, tt)

part-value : (from : ℕ) (last : Items) (o : Origin) (new : Part) (x : Item) → IsValue from last o x → IsValue from last (touched o) (with_part new x)
part-value from last o (OfShell new) (Instance s (Named t)) h = (plain-touched from last o.now o.is_touched _ _ h.0, h.1, tt)
part-value from last o (OfShell new) (Instance s (Anonymous c)) h = (holder-touched from last o.now o.is_touched _ _ _ h.0, tt)
part-value from last o (OfValue new) (Own p v) h = (plain-touched from last o.now o.is_touched _ _ h.0, h.1, tt)
part-value from last o (OfValue new) (Default p v) h = (plain-touched from last o.now o.is_touched _ _ h.0, h.1, tt)
part-value from last o (OfValue new) (Dynamic t p v) h = (plain-touched from last o.now o.is_touched _ _ h.0, h.1, tt)
part-value from last o (OfTarget new) (Dynamic t p v) h = (plain-touched from last o.now o.is_touched _ _ h.0, h.1, tt)
part-value from last o (OfType new) (Instance s (Named t)) h = (plain-touched from last o.now o.is_touched _ _ h.0, h.1, tt)
part-value from last o (OfDefine new) (Define n c) h = (holder-touched from last o.now o.is_touched _ _ _ h.0, tt)
part-value from last o new x h = touched-value from last o x h

-- ---- Lists.

abbrev pub AreSo : (from : ℕ) → (last : Items) → List Origin → List Item → Type 0
AreSo from last os xs = AreValues from last (traces_of os) (tree.items_of xs)

insert-values : (from : ℕ) (last : Items) (os : List Origin) (xs : List Item) (i : ℕ) (o : Origin) (x : Item) → IsValue from last o x → AreSo from last os xs → AreSo from last (insert os i o) (insert xs i x)
insert-values from last os xs zero o x h k = more_values from last o (traces_of os) x (tree.items_of xs) h k
insert-values from last [] [] (suc i) o x h k = more_values from last o no_traces x no_items h tt
insert-values from last [] (y ∷ ys) (suc i) o x h k = absurd (none_more from last y (tree.items_of ys) k)
insert-values from last (p ∷ os) [] (suc i) o x h k = absurd k
insert-values from last (p ∷ os) (y ∷ ys) (suc i) o x h k =
    let parts = first_value from last p (traces_of os) y (tree.items_of ys) k in
    more_values from last p (traces_of (insert os i o)) y (tree.items_of (insert ys i x)) parts.0 (insert-values from last os ys i o x h parts.1)

remove-values : (from : ℕ) (last : Items) (os : List Origin) (xs : List Item) (i : ℕ) → AreSo from last os xs → AreSo from last (remove os i) (remove xs i)
remove-values from last [] [] zero k = tt
remove-values from last [] [] (suc i) k = tt
remove-values from last [] (y ∷ ys) i k = absurd (none_more from last y (tree.items_of ys) k)
remove-values from last (p ∷ os) [] i k = absurd k
remove-values from last (p ∷ os) (y ∷ ys) zero k = (first_value from last p (traces_of os) y (tree.items_of ys) k).1
remove-values from last (p ∷ os) (y ∷ ys) (suc i) k =
    let parts = first_value from last p (traces_of os) y (tree.items_of ys) k in
    more_values from last p (traces_of (remove os i)) y (tree.items_of (remove ys i)) parts.0 (remove-values from last os ys i parts.1)

pub get-value : (from : ℕ) (last : Items) (os : List Origin) (xs : List Item) (i : ℕ) (x : Item) → slice_get xs i ≡ Some x → AreSo from last os xs → (o : Origin) × (slice_get os i ≡ Some o) × IsValue from last o x
get-value from last [] [] i x e k = cc
get-value from last [] (y ∷ ys) i x e k = absurd (none_more from last y (tree.items_of ys) k)
get-value from last (p ∷ os) [] i x e k = absurd k
get-value from last (p ∷ os) (y ∷ ys) zero x e k =
    let same : y ≡ x = cc in
    (p, refl, subst (IsValue from last p) same (first_value from last p (traces_of os) y (tree.items_of ys) k).0)
get-value from last (p ∷ os) (y ∷ ys) (suc i) x e k = get-value from last os ys i x e (first_value from last p (traces_of os) y (tree.items_of ys) k).1

set-values : (from : ℕ) (last : Items) (os : List Origin) (xs : List Item) (i : ℕ) (o : Origin) (x : Item) → IsValue from last o x → AreSo from last os xs → AreSo from last (slice_set os i o) (slice_set xs i x)
set-values from last [] [] i o x h k = tt
set-values from last [] (y ∷ ys) i o x h k = absurd (none_more from last y (tree.items_of ys) k)
set-values from last (p ∷ os) [] i o x h k = absurd k
set-values from last (p ∷ os) (y ∷ ys) zero o x h k = more_values from last o (traces_of os) x (tree.items_of ys) h (first_value from last p (traces_of os) y (tree.items_of ys) k).1
set-values from last (p ∷ os) (y ∷ ys) (suc i) o x h k =
    let parts = first_value from last p (traces_of os) y (tree.items_of ys) k in
    more_values from last p (traces_of (slice_set os i o)) y (tree.items_of (slice_set ys i x)) parts.0 (set-values from last os ys i o x h parts.1)

-- ---- What patches make of the body that holds their item.

to_lists : (from : ℕ) (last : Items) (b : Traces) (t : Items) → AreValues from last b t → AreSo from last (list_of b) (tree.list_of t)
to_lists from last b t h =
    subst (λ u. AreValues from last u (tree.items_of (tree.list_of t))) (sym (traces_of-list_of b)) (subst (AreValues from last b) (sym (tree_rounds.items_of-list_of t)) h)

shift-values : (from : ℕ) (last : Items) (at : List ℕ) (to n : ℕ) (b : Traces) (t : Items) (x : Item) → AreValues from last b t → slice_get (tree.list_of t) n ≡ Some x → AreValues from last (changed (Shift at to) n b) (shift_item n to t)
shift-values from last at to n b t x k h =
    let so = to_lists from last b t k in
    let o = get-value from last (list_of b) (tree.list_of t) n x h so in
    let new : Origin = moved n to o.0 in
    subst (AreValues from last (changed (Shift at to) n b)) (sym (shift_is n to t x h))
    (subst (λ q. AreValues from last (traces_of (put_in to (option_map (moved n to) q) (remove (list_of b) n))) (tree.items_of (insert (remove (tree.list_of t) n) to x))) (sym o.1)
    (insert-values from last (remove (list_of b) n) (remove (tree.list_of t) n) to new x (moved-value from last n to o.0 x o.2) (remove-values from last (list_of b) (tree.list_of t) n so)))

exchange-values : (from : ℕ) (last : Items) (at : List ℕ) (new : Part) (n : ℕ) (b : Traces) (t : Items) (x : Item) → AreValues from last b t → slice_get (tree.list_of t) n ≡ Some x → AreValues from last (changed (Exchange at new) n b) (with_part_at n new t)
exchange-values from last at new n b t x k h =
    let so = to_lists from last b t k in
    let o = get-value from last (list_of b) (tree.list_of t) n x h so in
    subst (AreValues from last (changed (Exchange at new) n b)) (sym (exchange_is n new t x h))
    (subst (λ q. AreValues from last (traces_of (put_at n (option_map touched q) (list_of b))) (tree.items_of (slice_set (tree.list_of t) n (with_part new x)))) (sym o.1)
    (set-values from last (list_of b) (tree.list_of t) n (touched o.0) (with_part new x) (part-value from last o.0 new x o.2) so))

-- ---- Along a way.

abbrev Keep : (F : Traces → Traces) → (H : Items → Items) → (b : Items) → Type 0
Keep F H b = (from : ℕ) (last : Items) (c : Traces) → AreValues from last c b → AreValues from last (F c) (H b)

inside-values : (from : ℕ) (last : Items) (now : Option ℕ) (t : Bool) (q : Holder) (inside : Traces) (body b : Items) (F : Traces → Traces) (H : Items → Items) → body ≡ b → Keep F H b
    → IsHolderValue from last now t q (λ n c. AreValues n c inside body) → IsHolderValue from last now t q (λ n c. AreValues n c (F inside) (H body))
inside-values from last None t q inside body b F H e f k = tt
inside-values from last (Some n) t q inside body b F H e f k =
    (k.0, k.1, k.2, k.3, subst (λ u. AreValues (n + 1) k.1 (F inside) (H u)) (sym e) (f (n + 1) k.1 inside (subst (AreValues (n + 1) k.1 inside) e k.4)))

item-values : (from : ℕ) (last : Items) (i : ℕ) (m : Traces) (t b : Items) (F : Traces → Traces) (H : Items → Items) → AreValues from last m t → inner i t ≡ Some b → Keep F H b → AreValues from last (map_item i F m) (map_inner i H t)
item-values from last i no_traces no_items b F H k e f = tt
item-values from last i no_traces (plain p rest) b F H k e f = absurd k
item-values from last i no_traces (holder q body rest) b F H k e f = absurd k
item-values from last i (trace now t m inside others) no_items b F H k e f = absurd k
item-values from last zero (trace now t m inside others) (plain p rest) b F H k e f = cc
item-values from last zero (trace now t m inside others) (holder q body rest) b F H k e f =
    let same : body ≡ b = cc in (inside-values from last now t q inside body b F H same f k.0, k.1)
item-values from last (suc i) (trace now t m inside others) (plain p rest) b F H k e f = (k.0, k.1, item-values from last i others rest b F H k.2 e f)
item-values from last (suc i) (trace now t m inside others) (holder q body rest) b F H k e f = (k.0, item-values from last i others rest b F H k.1 e f)

-- the body of the item on the way
next_body : (way : List ℕ) (b : Items) (o : Option Items) → option_and_then (body_at way) o ≡ Some b → (d : Items) × (o ≡ Some d) × (body_at way d ≡ Some b)
next_body way b None e = cc
next_body way b (Some d) e = (d, refl, e)

carried : (way : List ℕ) (from : ℕ) (last : Items) (m : Traces) (t b : Items) (F : Traces → Traces) (H : Items → Items) → AreValues from last m t → body_at way t ≡ Some b → Keep F H b → AreValues from last (map_inside way F m) (map_body way H t)
carried [] from last m t b F H k e f =
    let same : t ≡ b = cc in
    subst (λ u. AreValues from last (F m) (H u)) (sym same) (f from last m (subst (AreValues from last m) same k))
carried (i ∷ way) from last m t b F H k e f =
    let d = next_body way b (inner i t) e in
    item-values from last i m t d.0 (map_inside way F) (map_body way H) k d.1 (λ start body c h. carried way start body c d.0 b F H h d.2 f)

-- ---- Patches that fit.

pub one-values : (from : ℕ) (last : Items) (p : Patch) (t : Items) (m : Traces) → AreValues from last m t → IsTrue (fits p t) → AreValues from last (gone_back p m) (patched p t)
one-values from last (Insert at x) t m k h =
    let b = place_in (number_of at) (body_at (holder_of at) t) (and_parts _ _ h).1 in
    carried (holder_of at) from last m t b.body (changed (Insert at x) (number_of at)) (insert_item (number_of at) x) k b.held
    (λ start body c s. insert-values start body (list_of c) (tree.list_of b.body) (number_of at) (unnumbered_item x) x (unnumbered-value start body x) (to_lists start body c b.body s))
one-values from last (Delete at) t m k h =
    let x = the_item (item_at at t) h in
    let s = stands at t x.0 x.1 in
    carried (holder_of at) from last m t s.body (changed (Delete at) (number_of at)) (remove_item (number_of at)) k s.held
    (λ start body c r. remove-values start body (list_of c) (tree.list_of s.body) (number_of at) (to_lists start body c s.body r))
one-values from last (Shift at to) t m k h =
    let x = the_item (item_at at t) (and_parts _ _ h).0 in
    let s = stands at t x.0 x.1 in
    carried (holder_of at) from last m t s.body (changed (Shift at to) (number_of at)) (shift_item (number_of at) to) k s.held
    (λ start body c r. shift-values start body at to (number_of at) c s.body x.0 r s.found)
one-values from last (Exchange at new) t m k h =
    let x = part_in new (item_at at t) h in
    let s = stands at t x.0 x.1 in
    carried (holder_of at) from last m t s.body (changed (Exchange at new) (number_of at)) (with_part_at (number_of at) new) k s.held
    (λ start body c r. exchange-values start body at new (number_of at) c s.body x.0 r s.found)

pub all-values : (from : ℕ) (last : Items) (ps : List Patch) (t : Items) (m : Traces) → AreValues from last m t → AllFit ps t → AreValues from last (all_gone_back ps m) (image ps t)
all-values from last [] t m k h = k
all-values from last (p ∷ ps) t m k h = all-values from last ps (patched p t) (gone_back p m) (one-values from last p t m k h.0) h.1
