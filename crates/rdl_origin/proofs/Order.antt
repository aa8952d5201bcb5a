-- Items that weren't moved stay in the order of their numbers.
use Rattle.std.proofs.Common.{◌≡◌, ℕ, zero, suc, ◌+◌, ◌^◌, ◌<◌, ◌≤◌, Bool, true, false, List, [], ◌∷◌, ◌++◌, Option, Some, None, refl, ap, ap₂, sym, ◌∙◌, arith, subst}
use Rattle.std.specs.Prelude.{slice_get, slice_set, insert, remove, option_map, ◌||◌, ◌==◌, not}
use Rattle.std.proofs.lemmas.Bool.{eqb-true}
use Rattle.rdl_tree.specs.Items.{Items, no_items, plain, holder, count}
use Rattle.rdl_tree.specs.Address.{holder_of, number_of}
use Rattle.rdl_tree.specs.View.{own_body}
use Rattle.rdl_tree.specs.declared.patch.Patch.{Patch}
use Rattle.rdl_tree.specs.declared.patch.Patch.TheVariants.{Insert, Delete, Shift, Exchange}
use Rattle.rdl_tree.proofs.Edits.{insert-remove}
use Rattle.rdl_origin.specs.Traces.{Traces, no_traces, trace, map_item, map_inside}
use Rattle.rdl_origin.specs.View.{traces_of, list_of}
use Rattle.rdl_origin.specs.Numbered.{capped, numbered, unnumbered, unnumbered_body, unnumbered_item}
use Rattle.rdl_origin.specs.Back.{moved, touched, put_in, put_at, change, changed, gone_back, all_gone_back}
use Rattle.rdl_origin.specs.Order.{number_unmoved, unmoved, IsBelow, AreBelow, AreInOrder}
use Rattle.rdl_origin.specs.declared.origin.Origin.{Origin}
use Rattle.rdl_origin.proofs.Rounds.{traces_of-list_of}

-- ---- Before any step.

below-numbered : (k n : ℕ) (t : Items) → k < n → n + count t ≤ 2 ^ 32 → IsBelow k (unmoved (numbered n t))
below-numbered k n no_items h f = tt
below-numbered k n (plain p rest) h f = (omega (arith, h, f), below-numbered k (n + 1) rest (omega (arith, h)) (omega (arith, f)))
below-numbered k n (holder q body rest) h f = (omega (arith, h, f), below-numbered k (n + 1 + count body) rest (omega (arith, h)) (omega (arith, f)))

pub numbered-in_order : (n : ℕ) (t : Items) → n + count t ≤ 2 ^ 32 → AreInOrder (numbered n t)
numbered-in_order n no_items f = tt
numbered-in_order n (plain p rest) f =
    ((below-numbered (capped n) (n + 1) rest (omega arith) (omega (arith, f)), tt), tt, numbered-in_order (n + 1) rest (omega (arith, f)))
numbered-in_order n (holder q body rest) f =
    ((below-numbered (capped n) (n + 1 + count body) rest (omega arith) (omega (arith, f)), tt), numbered-in_order (n + 1) body (omega (arith, f)), numbered-in_order (n + 1 + count body) rest (omega (arith, f)))

unnumbered-in_order : (t : Items) → AreInOrder (unnumbered t)
unnumbered-in_order no_items = tt
unnumbered-in_order (plain p rest) = (tt, tt, unnumbered-in_order rest)
unnumbered-in_order (holder q body rest) = (tt, unnumbered-in_order body, unnumbered-in_order rest)

body-in_order : (o : Option Items) → AreInOrder (unnumbered_body o)
body-in_order None = tt
body-in_order (Some body) = unnumbered-in_order body

-- ---- An item goes.

below-rest : (n : ℕ) (ns ms : List ℕ) → IsBelow n (ns ++ ms) → IsBelow n ms
below-rest n [] ms h = h
below-rest n (k ∷ ns) ms h = below-rest n ns ms h.1

below-more : (n : ℕ) (ns ms ks : List ℕ) → (IsBelow n ms → IsBelow n ks) → IsBelow n (ns ++ ms) → IsBelow n (ns ++ ks)
below-more n [] ms ks f h = f h
below-more n (k ∷ ns) ms ks f h = (h.0, below-more n ns ms ks f h.1)

are-more : (ns ms ks : List ℕ) → ((n : ℕ) → IsBelow n ms → IsBelow n ks) → AreBelow ns ms → AreBelow ns ks
are-more [] ms ks f h = tt
are-more (n ∷ ns) ms ks f h = (f n h.0, are-more ns ms ks f h.1)

below-remove : (n : ℕ) (os : List Origin) (i : ℕ) → IsBelow n (unmoved (traces_of os)) → IsBelow n (unmoved (traces_of (remove os i)))
below-remove n [] zero h = tt
below-remove n [] (suc i) h = tt
below-remove n (o ∷ os) zero h = below-rest n (number_unmoved o.now o.is_moved) (unmoved (traces_of os)) h
below-remove n (o ∷ os) (suc i) h =
    below-more n (number_unmoved o.now o.is_moved) (unmoved (traces_of os)) (unmoved (traces_of (remove os i))) (below-remove n os i) h

remove-in_order : (os : List Origin) (i : ℕ) → AreInOrder (traces_of os) → AreInOrder (traces_of (remove os i))
remove-in_order [] zero h = tt
remove-in_order [] (suc i) h = tt
remove-in_order (o ∷ os) zero h = h.2
remove-in_order (o ∷ os) (suc i) h =
    (are-more (number_unmoved o.now o.is_moved) (unmoved (traces_of os)) (unmoved (traces_of (remove os i))) (λ n. below-remove n os i) h.0, h.1, remove-in_order os i h.2)

-- ---- An item without a number, or a moved one, comes.

below-insert : (n : ℕ) (os : List Origin) (i : ℕ) (x : Origin) → number_unmoved x.now x.is_moved ≡ [] → IsBelow n (unmoved (traces_of os)) → IsBelow n (unmoved (traces_of (insert os i x)))
below-insert n os zero x e h = subst (λ ns. IsBelow n (ns ++ unmoved (traces_of os))) (sym e) h
below-insert n [] (suc i) x e h = subst (λ (ns : List ℕ). IsBelow n (ns ++ [])) (sym e) h
below-insert n (o ∷ os) (suc i) x e h =
    below-more n (number_unmoved o.now o.is_moved) (unmoved (traces_of os)) (unmoved (traces_of (insert os i x))) (below-insert n os i x e) h

insert-in_order : (os : List Origin) (i : ℕ) (x : Origin) → number_unmoved x.now x.is_moved ≡ [] → AreInOrder x.inside → AreInOrder (traces_of os) → AreInOrder (traces_of (insert os i x))
insert-in_order os zero x e k h = (subst (λ ns. AreBelow ns (unmoved (traces_of os))) (sym e) tt, k, h)
insert-in_order [] (suc i) x e k h = (subst (λ (ns : List ℕ). AreBelow ns []) (sym e) tt, k, tt)
insert-in_order (o ∷ os) (suc i) x e k h =
    (are-more (number_unmoved o.now o.is_moved) (unmoved (traces_of os)) (unmoved (traces_of (insert os i x))) (λ n. below-insert n os i x e) h.0, h.1, insert-in_order os i x e k h.2)

get-in_order : (os : List Origin) (i : ℕ) (x : Origin) → slice_get os i ≡ Some x → AreInOrder (traces_of os) → AreInOrder x.inside
get-in_order [] i x e h = cc
get-in_order (o ∷ os) zero x e h = let same : o ≡ x = cc in subst (λ (q : Origin). AreInOrder q.inside) same h.1
get-in_order (o ∷ os) (suc i) x e h = get-in_order os i x e h.2

-- ---- An item is touched.

unmoved-touched : (os : List Origin) (i : ℕ) (x : Origin) → slice_get os i ≡ Some x → unmoved (traces_of (slice_set os i (touched x))) ≡ unmoved (traces_of os)
unmoved-touched [] i x e = refl
unmoved-touched (o ∷ os) zero x e = let same : x ≡ o = cc in ap (λ (q : Origin). number_unmoved q.now q.is_moved ++ unmoved (traces_of os)) same
unmoved-touched (o ∷ os) (suc i) x e = ap (λ ns. number_unmoved o.now o.is_moved ++ ns) (unmoved-touched os i x e)

touched-in_order : (os : List Origin) (i : ℕ) (x : Origin) → slice_get os i ≡ Some x → AreInOrder (traces_of os) → AreInOrder (traces_of (slice_set os i (touched x)))
touched-in_order [] i x e h = h
touched-in_order (o ∷ os) zero x e h =
    let same : o ≡ x = cc in subst (λ (q : Origin). AreInOrder (traces_of (touched q ∷ os))) same h
touched-in_order (o ∷ os) (suc i) x e h =
    (subst (AreBelow (number_unmoved o.now o.is_moved)) (sym (unmoved-touched os i x e)) h.0, h.1, touched-in_order os i x e h.2)

-- ---- An item is moved.

moved_away : (from to : ℕ) (x : Origin) → (from == to) ≡ false → number_unmoved (moved from to x).now (moved from to x).is_moved ≡ []
moved_away from to x e = at x.now x.is_moved (from == to) e
  where
    at : (now : Option ℕ) (is_moved b : Bool) → b ≡ false → number_unmoved now (is_moved || not b) ≡ []
    at None true b h = refl
    at None false b h = refl
    at (Some n) true b h = refl
    at (Some n) false true h = cc
    at (Some n) false false h = refl

stayed : (from to : ℕ) (x : Origin) → (from == to) ≡ true → moved from to x ≡ x
stayed from to x e = ap (λ b. record x { is_moved = x.is_moved || not b }) e ∙ or_nothing x.is_moved
  where
    or_nothing : (b : Bool) → record x { is_moved = b || false } ≡ record x { is_moved = b }
    or_nothing true = refl
    or_nothing false = refl

shift-in_order : (os : List Origin) (from to : ℕ) (o : Option Origin) → slice_get os from ≡ o → AreInOrder (traces_of os) → AreInOrder (traces_of (put_in to (option_map (moved from to) o) (remove os from)))
shift-in_order os from to None e h = remove-in_order os from h
shift-in_order os from to (Some x) e h = by (from == to) refl
  where
    by : (b : Bool) → (from == to) ≡ b → AreInOrder (traces_of (insert (remove os from) to (moved from to x)))
    by true q =
        let here : to ≡ from = sym (eqb-true from to q) in
        let same : insert (remove os from) to (moved from to x) ≡ os = ap₂ (λ i y. insert (remove os from) i y) here (stayed from to x q) ∙ insert-remove os from x e in
        subst (λ l. AreInOrder (traces_of l)) (sym same) h
    by false q = insert-in_order (remove os from) to (moved from to x) (moved_away from to x q) (get-in_order os from x e h) (remove-in_order os from h)

-- ---- What a patch makes of a body, and of all.

exchange-in_order : (os : List Origin) (n : ℕ) (o : Option Origin) → slice_get os n ≡ o → AreInOrder (traces_of os) → AreInOrder (traces_of (put_at n (option_map touched o) os))
exchange-in_order os n None e h = h
exchange-in_order os n (Some x) e h = touched-in_order os n x e h

change-in_order : (p : Patch) (n : ℕ) (os : List Origin) → AreInOrder (traces_of os) → AreInOrder (traces_of (change p n os))
change-in_order (Insert at x) n os h = insert-in_order os n (unnumbered_item x) refl (body-in_order (own_body x)) h
change-in_order (Delete at) n os h = remove-in_order os n h
change-in_order (Shift at to) n os h = shift-in_order os n to (slice_get os n) refl h
change-in_order (Exchange at part) n os h = exchange-in_order os n (slice_get os n) refl h

unmoved-map_item : (i : ℕ) (f : Traces → Traces) (t : Traces) → unmoved (map_item i f t) ≡ unmoved t
unmoved-map_item i f no_traces = refl
unmoved-map_item zero f (trace now u m inside rest) = refl
unmoved-map_item (suc i) f (trace now u m inside rest) = ap (λ ns. number_unmoved now m ++ ns) (unmoved-map_item i f rest)

map_item-in_order : (i : ℕ) (f : Traces → Traces) (t : Traces) → ((c : Traces) → AreInOrder c → AreInOrder (f c)) → AreInOrder t → AreInOrder (map_item i f t)
map_item-in_order i f no_traces g h = h
map_item-in_order zero f (trace now u m inside rest) g h = (h.0, g inside h.1, h.2)
map_item-in_order (suc i) f (trace now u m inside rest) g h =
    (subst (AreBelow (number_unmoved now m)) (sym (unmoved-map_item i f rest)) h.0, h.1, map_item-in_order i f rest g h.2)

map_inside-in_order : (way : List ℕ) (f : Traces → Traces) (t : Traces) → ((c : Traces) → AreInOrder c → AreInOrder (f c)) → AreInOrder t → AreInOrder (map_inside way f t)
map_inside-in_order [] f t g h = g t h
map_inside-in_order (i ∷ way) f t g h = map_item-in_order i (map_inside way f) t (λ c k. map_inside-in_order way f c g k) h

at_address : (at : List ℕ) (p : Patch) (t : Traces) → AreInOrder t → AreInOrder (map_inside (holder_of at) (changed p (number_of at)) t)
at_address at p t h =
    map_inside-in_order (holder_of at) (changed p (number_of at)) t
    (λ c k. change-in_order p (number_of at) (list_of c) (subst AreInOrder (sym (traces_of-list_of c)) k)) h

gone_back-in_order : (p : Patch) (t : Traces) → AreInOrder t → AreInOrder (gone_back p t)
gone_back-in_order (Insert at x) t h = at_address at (Insert at x) t h
gone_back-in_order (Delete at) t h = at_address at (Delete at) t h
gone_back-in_order (Shift at to) t h = at_address at (Shift at to) t h
gone_back-in_order (Exchange at part) t h = at_address at (Exchange at part) t h

pub all-in_order : (ps : List Patch) (t : Traces) → AreInOrder t → AreInOrder (all_gone_back ps t)
all-in_order [] t h = h
all-in_order (p ∷ ps) t h = all-in_order ps (gone_back p t) (gone_back-in_order p t h)
