-- No two items of a body have the same number, whatever the patches.
use Rattle.std.proofs.Common.{◌≡◌, ℕ, zero, suc, ◌+◌, ◌^◌, ◌<◌, ◌≤◌, List, [], ◌∷◌, ◌++◌, Option, Some, None, refl, ap, sym, arith, subst}
use Rattle.std.specs.Prelude.{slice_get, slice_set, insert, remove, option_map}
use Rattle.rdl_tree.specs.Items.{Items, no_items, plain, holder, count}
use Rattle.rdl_tree.specs.Address.{holder_of, number_of}
use Rattle.rdl_tree.specs.View.{own_body}
use Rattle.rdl_tree.specs.declared.patch.Patch.{Patch}
use Rattle.rdl_tree.specs.declared.patch.Patch.TheVariants.{Insert, Delete, Shift, Exchange}
use Rattle.rdl_origin.specs.Traces.{Traces, no_traces, trace, map_item, map_inside}
use Rattle.rdl_origin.specs.View.{traces_of, list_of}
use Rattle.rdl_origin.specs.Numbered.{capped, numbered, unnumbered, unnumbered_body, unnumbered_item}
use Rattle.rdl_origin.specs.Back.{moved, touched, put_in, put_at, change, changed, gone_back, all_gone_back}
use Rattle.rdl_origin.specs.Once.{number_list, numbers, Lacks, LacksAll, StandOnce}
use Rattle.rdl_origin.specs.declared.origin.Origin.{Origin}
use Rattle.rdl_origin.proofs.Rounds.{traces_of-list_of}

-- ---- Lists of numbers.

pub lacks-append : (ms ks : List ℕ) (n : ℕ) → Lacks ms n → Lacks ks n → Lacks (ms ++ ks) n
lacks-append [] ks n h k = k
lacks-append (m ∷ ms) ks n h k = (h.0, lacks-append ms ks n h.1 k)

pub lacks-parts : (ms ks : List ℕ) (n : ℕ) → Lacks (ms ++ ks) n → Lacks ms n × Lacks ks n
lacks-parts [] ks n h = (tt, h)
lacks-parts (m ∷ ms) ks n h = let parts = lacks-parts ms ks n h.1 in ((h.0, parts.0), parts.1)

pub all-more : (ms ks ns : List ℕ) → ((n : ℕ) → Lacks ms n → Lacks ks n) → LacksAll ms ns → LacksAll ks ns
all-more ms ks [] f h = tt
all-more ms ks (n ∷ ns) f h = (f n h.0, all-more ms ks ns f h.1)

-- one list lacks another's numbers, so the other lacks its
pub turned : (ms ns : List ℕ) → LacksAll ms ns → LacksAll ns ms
turned [] ns h = tt
turned (m ∷ ms) ns h = (here ns m (heads ns h), turned ms ns (tails ns h))
  where
    heads : (ns : List ℕ) → LacksAll (m ∷ ms) ns → LacksAll (m ∷ []) ns
    heads [] h = tt
    heads (n ∷ ns) h = ((h.0.0, tt), heads ns h.1)

    tails : (ns : List ℕ) → LacksAll (m ∷ ms) ns → LacksAll ms ns
    tails [] h = tt
    tails (n ∷ ns) h = (h.0.1, tails ns h.1)

    here : (ns : List ℕ) (m : ℕ) → LacksAll (m ∷ []) ns → Lacks ns m
    here [] m h = tt
    here (n ∷ ns) m h = ((λ e. h.0.0 (sym e)), here ns m h.1)

-- ---- Before any step.

lacks-numbered : (k n : ℕ) (t : Items) → k < n → n + count t ≤ 2 ^ 32 → Lacks (numbers (numbered n t)) k
lacks-numbered k n no_items h f = tt
lacks-numbered k n (plain p rest) h f = ((λ e. omega (arith, h, f, e)), lacks-numbered k (n + 1) rest (omega (arith, h)) (omega (arith, f)))
lacks-numbered k n (holder q body rest) h f = ((λ e. omega (arith, h, f, e)), lacks-numbered k (n + 1 + count body) rest (omega (arith, h)) (omega (arith, f)))

pub numbered-once : (n : ℕ) (t : Items) → n + count t ≤ 2 ^ 32 → StandOnce (numbered n t)
numbered-once n no_items f = tt
numbered-once n (plain p rest) f =
    ((lacks-numbered (capped n) (n + 1) rest (omega arith) (omega (arith, f)), tt), tt, numbered-once (n + 1) rest (omega (arith, f)))
numbered-once n (holder q body rest) f =
    ((lacks-numbered (capped n) (n + 1 + count body) rest (omega arith) (omega (arith, f)), tt), numbered-once (n + 1) body (omega (arith, f)), numbered-once (n + 1 + count body) rest (omega (arith, f)))

unnumbered-once : (t : Items) → StandOnce (unnumbered t)
unnumbered-once no_items = tt
unnumbered-once (plain p rest) = (tt, tt, unnumbered-once rest)
unnumbered-once (holder q body rest) = (tt, unnumbered-once body, unnumbered-once rest)

body-once : (o : Option Items) → StandOnce (unnumbered_body o)
body-once None = tt
body-once (Some body) = unnumbered-once body

-- ---- An item goes.

abbrev Numbers : List Origin → List ℕ
Numbers os = numbers (traces_of os)

lacks-remove : (os : List Origin) (i n : ℕ) → Lacks (Numbers os) n → Lacks (Numbers (remove os i)) n
lacks-remove [] zero n h = tt
lacks-remove [] (suc i) n h = tt
lacks-remove (o ∷ os) zero n h = (lacks-parts (number_list o.now) (Numbers os) n h).1
lacks-remove (o ∷ os) (suc i) n h =
    let parts = lacks-parts (number_list o.now) (Numbers os) n h in
    lacks-append (number_list o.now) (Numbers (remove os i)) n parts.0 (lacks-remove os i n parts.1)

remove-once : (os : List Origin) (i : ℕ) → StandOnce (traces_of os) → StandOnce (traces_of (remove os i))
remove-once [] zero h = tt
remove-once [] (suc i) h = tt
remove-once (o ∷ os) zero h = h.2
remove-once (o ∷ os) (suc i) h =
    (all-more (Numbers os) (Numbers (remove os i)) (number_list o.now) (lacks-remove os i) h.0, h.1, remove-once os i h.2)

-- ---- An item comes.

lacks-insert : (os : List Origin) (i n : ℕ) (x : Origin) → Lacks (number_list x.now) n → Lacks (Numbers os) n → Lacks (Numbers (insert os i x)) n
lacks-insert os zero n x k h = lacks-append (number_list x.now) (Numbers os) n k h
lacks-insert [] (suc i) n x k h = lacks-append (number_list x.now) [] n k tt
lacks-insert (o ∷ os) (suc i) n x k h =
    let parts = lacks-parts (number_list o.now) (Numbers os) n h in
    lacks-append (number_list o.now) (Numbers (insert os i x)) n parts.0 (lacks-insert os i n x k parts.1)

all-parts : (ms ks ns : List ℕ) → LacksAll (ms ++ ks) ns → LacksAll ms ns × LacksAll ks ns
all-parts ms ks [] h = (tt, tt)
all-parts ms ks (n ∷ ns) h =
    let one = lacks-parts ms ks n h.0 in
    let more = all-parts ms ks ns h.1 in ((one.0, more.0), (one.1, more.1))

-- the numbers lack the item's, both ways
all-insert : (os : List Origin) (i : ℕ) (x : Origin) (ns : List ℕ) → LacksAll (number_list x.now) ns → LacksAll (Numbers os) ns → LacksAll (Numbers (insert os i x)) ns
all-insert os i x [] h k = tt
all-insert os i x (n ∷ ns) h k = (lacks-insert os i n x h.0 k.0, all-insert os i x ns h.1 k.1)

insert-once : (os : List Origin) (i : ℕ) (x : Origin) → LacksAll (Numbers os) (number_list x.now) → StandOnce x.inside → StandOnce (traces_of os) → StandOnce (traces_of (insert os i x))
insert-once os zero x e k h = (e, k, h)
insert-once [] (suc i) x e k h = (all-more [] [] (number_list x.now) (λ n l. l) e, k, tt)
insert-once (o ∷ os) (suc i) x e k h =
    let parts = all-parts (number_list o.now) (Numbers os) (number_list x.now) e in
    (all-insert os i x (number_list o.now) (turned (number_list o.now) (number_list x.now) parts.0) h.0, h.1, insert-once os i x parts.1 k h.2)

get-inside : (os : List Origin) (i : ℕ) (x : Origin) → slice_get os i ≡ Some x → StandOnce (traces_of os) → StandOnce x.inside
get-inside [] i x e h = cc
get-inside (o ∷ os) zero x e h = let same : o ≡ x = cc in subst (λ (q : Origin). StandOnce q.inside) same h.1
get-inside (o ∷ os) (suc i) x e h = get-inside os i x e h.2

-- the number of an item is that of no other
get-lacks : (os : List Origin) (i : ℕ) (x : Origin) → slice_get os i ≡ Some x → StandOnce (traces_of os) → LacksAll (Numbers (remove os i)) (number_list x.now)
get-lacks [] i x e h = cc
get-lacks (o ∷ os) zero x e h = let same : o ≡ x = cc in subst (λ (q : Origin). LacksAll (Numbers os) (number_list q.now)) same h.0
get-lacks (o ∷ os) (suc i) x e h =
    joined (number_list o.now) (Numbers (remove os i)) (number_list x.now)
    (turned (number_list x.now) (number_list o.now) (has os i x (number_list o.now) e h.0)) (get-lacks os i x e h.2)
  where
    joined : (ms ks ns : List ℕ) → LacksAll ms ns → LacksAll ks ns → LacksAll (ms ++ ks) ns
    joined ms ks [] h k = tt
    joined ms ks (n ∷ ns) h k = (lacks-append ms ks n h.0 k.0, joined ms ks ns h.1 k.1)

    one : (os : List Origin) (i : ℕ) (x : Origin) (n : ℕ) → slice_get os i ≡ Some x → Lacks (Numbers os) n → Lacks (number_list x.now) n
    one [] i x n e h = cc
    one (p ∷ os) zero x n e h = let same : p ≡ x = cc in subst (λ (q : Origin). Lacks (number_list q.now) n) same (lacks-parts (number_list p.now) (Numbers os) n h).0
    one (p ∷ os) (suc i) x n e h = one os i x n e (lacks-parts (number_list p.now) (Numbers os) n h).1

    has : (os : List Origin) (i : ℕ) (x : Origin) (ns : List ℕ) → slice_get os i ≡ Some x → LacksAll (Numbers os) ns → LacksAll (number_list x.now) ns
    has os i x [] e h = tt
    has os i x (n ∷ ns) e h = (one os i x n e h.0, has os i x ns e h.1)

-- ---- An item is touched, or moved.

numbers-touched : (os : List Origin) (i : ℕ) (x : Origin) → slice_get os i ≡ Some x → Numbers (slice_set os i (touched x)) ≡ Numbers os
numbers-touched [] i x e = refl
numbers-touched (o ∷ os) zero x e = let same : x ≡ o = cc in ap (λ (q : Origin). number_list q.now ++ Numbers os) same
numbers-touched (o ∷ os) (suc i) x e = ap (λ ns. number_list o.now ++ ns) (numbers-touched os i x e)

touched-once : (os : List Origin) (i : ℕ) (x : Origin) → slice_get os i ≡ Some x → StandOnce (traces_of os) → StandOnce (traces_of (slice_set os i (touched x)))
touched-once [] i x e h = h
touched-once (o ∷ os) zero x e h =
    let same : o ≡ x = cc in subst (λ (q : Origin). StandOnce (traces_of (touched q ∷ os))) same h
touched-once (o ∷ os) (suc i) x e h =
    (subst (λ ms. LacksAll ms (number_list o.now)) (sym (numbers-touched os i x e)) h.0, h.1, touched-once os i x e h.2)

shift-once : (os : List Origin) (from to : ℕ) (o : Option Origin) → slice_get os from ≡ o → StandOnce (traces_of os) → StandOnce (traces_of (put_in to (option_map (moved from to) o) (remove os from)))
shift-once os from to None e h = remove-once os from h
shift-once os from to (Some x) e h = insert-once (remove os from) to (moved from to x) (get-lacks os from x e h) (get-inside os from x e h) (remove-once os from h)

exchange-once : (os : List Origin) (n : ℕ) (o : Option Origin) → slice_get os n ≡ o → StandOnce (traces_of os) → StandOnce (traces_of (put_at n (option_map touched o) os))
exchange-once os n None e h = h
exchange-once os n (Some x) e h = touched-once os n x e h

-- ---- What a patch makes of a body, and of all.

change-once : (p : Patch) (n : ℕ) (os : List Origin) → StandOnce (traces_of os) → StandOnce (traces_of (change p n os))
change-once (Insert at x) n os h = insert-once os n (unnumbered_item x) tt (body-once (own_body x)) h
change-once (Delete at) n os h = remove-once os n h
change-once (Shift at to) n os h = shift-once os n to (slice_get os n) refl h
change-once (Exchange at part) n os h = exchange-once os n (slice_get os n) refl h

numbers-map_item : (i : ℕ) (f : Traces → Traces) (t : Traces) → numbers (map_item i f t) ≡ numbers t
numbers-map_item i f no_traces = refl
numbers-map_item zero f (trace now u m inside rest) = refl
numbers-map_item (suc i) f (trace now u m inside rest) = ap (λ ns. number_list now ++ ns) (numbers-map_item i f rest)

map_item-once : (i : ℕ) (f : Traces → Traces) (t : Traces) → ((c : Traces) → StandOnce c → StandOnce (f c)) → StandOnce t → StandOnce (map_item i f t)
map_item-once i f no_traces g h = h
map_item-once zero f (trace now u m inside rest) g h = (h.0, g inside h.1, h.2)
map_item-once (suc i) f (trace now u m inside rest) g h =
    (subst (λ ms. LacksAll ms (number_list now)) (sym (numbers-map_item i f rest)) h.0, h.1, map_item-once i f rest g h.2)

map_inside-once : (way : List ℕ) (f : Traces → Traces) (t : Traces) → ((c : Traces) → StandOnce c → StandOnce (f c)) → StandOnce t → StandOnce (map_inside way f t)
map_inside-once [] f t g h = g t h
map_inside-once (i ∷ way) f t g h = map_item-once i (map_inside way f) t (λ c k. map_inside-once way f c g k) h

at_address : (at : List ℕ) (p : Patch) (t : Traces) → StandOnce t → StandOnce (map_inside (holder_of at) (changed p (number_of at)) t)
at_address at p t h =
    map_inside-once (holder_of at) (changed p (number_of at)) t
    (λ c k. change-once p (number_of at) (list_of c) (subst StandOnce (sym (traces_of-list_of c)) k)) h

gone_back-once : (p : Patch) (t : Traces) → StandOnce t → StandOnce (gone_back p t)
gone_back-once (Insert at x) t h = at_address at (Insert at x) t h
gone_back-once (Delete at) t h = at_address at (Delete at) t h
gone_back-once (Shift at to) t h = at_address at (Shift at to) t h
gone_back-once (Exchange at part) t h = at_address at (Exchange at part) t h

pub all-once : (ps : List Patch) (t : Traces) → StandOnce t → StandOnce (all_gone_back ps t)
all-once [] t h = h
all-once (p ∷ ps) t h = all-once ps (gone_back p t) (gone_back-once p t h)
