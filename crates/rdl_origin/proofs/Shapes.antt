-- Origins that nest as a description does, and what a patch that fits makes of both.
use Rattle.std.proofs.Common.{◌≡◌, ℕ, zero, suc, ◌+◌, ◌≤◌, length, false, IsTrue, List, [], ◌∷◌, ◌++◌, take, drop, map, Option, Some, None, refl, ap, ap₂, sym, ◌∙◌, arith}
use Rattle.std.specs.Prelude.{slice_get, slice_set, insert, remove, option_map, option_and_then, nat_le, ◌&&◌}
use Rattle.std.specs.List.{take-map, drop-map}
use Rattle.std.proofs.lemmas.List.{map-append, length-map}
use Rattle.std.proofs.lemmas.Option.{slice_get-map}
use Rattle.std.proofs.lemmas.Bool.{and_parts, and_from, le-leb, lt-ltb}
use Rattle.rdl_tree.specs.Items.{Items, no_items, plain, holder, count}
use Rattle.rdl_tree.specs.View as tree
use Rattle.rdl_tree.specs.Address.{holder_of, number_of, inner, map_inner, body_at, map_body}
use Rattle.rdl_tree.specs.ItemAt.{item_at}
use Rattle.rdl_tree.specs.Edit.{insert_item, remove_item, shift_item}
use Rattle.rdl_tree.specs.Part.{with_part, with_part_at}
use Rattle.rdl_tree.specs.Patch.{patched, image, fits, AllFit}
use Rattle.rdl_tree.specs.declared.description.Item.{Item}
use Rattle.rdl_tree.specs.declared.description.Item.TheVariants.{Define, Instance, Own, Default, Dynamic}
use Rattle.rdl_tree.specs.declared.description.Of.TheVariants.{Named, Anonymous}
use Rattle.rdl_tree.specs.declared.part.Part.{Part}
use Rattle.rdl_tree.specs.declared.part.Part.TheVariants.{OfShell, OfValue, OfTarget, OfType, OfDefine}
use Rattle.rdl_tree.specs.declared.patch.Patch.{Patch}
use Rattle.rdl_tree.specs.declared.patch.Patch.TheVariants.{Insert, Delete, Shift, Exchange}
use Rattle.rdl_tree.proofs.Rounds as tree_rounds
use Rattle.rdl_tree.proofs.Edits.{get-within}
use Rattle.rdl_tree.proofs.Nesting.{level-length}
use Rattle.rdl_tree.proofs.Places.{stands, the_item}
use Rattle.rdl_tree.proofs.Undone.{place_in, item_in, part_in, shift_is, exchange_is}
use Rattle.rdl_origin.specs.Traces.{Traces, no_traces, trace, inside_of, map_item, traces_at, map_inside}
use Rattle.rdl_origin.specs.View.{traces_of, list_of}
use Rattle.rdl_origin.specs.Numbered.{numbered, unnumbered, unnumbered_item}
use Rattle.rdl_origin.specs.Back.{moved, touched, put_in, put_at, changed, has_place, has_place_in, gone_back, all_gone_back, is_placed, are_placed}
use Rattle.rdl_origin.specs.Shape.{shape}
use Rattle.rdl_origin.specs.declared.origin.Origin.{Origin}
use Rattle.rdl_origin.proofs.Rounds.{list_of-traces_of, traces_of-list_of}
use Rattle.rdl_origin.proofs.Numbers.{unnumbered-items_of}

-- ---- Shapes.

pub shape-numbered : (n : ℕ) (t : Items) → shape (numbered n t) ≡ unnumbered t
shape-numbered n no_items = refl
shape-numbered n (plain p rest) = ap (trace None false false no_traces) (shape-numbered (n + 1) rest)
shape-numbered n (holder h body rest) = λ i. trace None false false (shape-numbered (n + 1) body i) (shape-numbered (n + 1 + count body) rest i)

shape-unnumbered : (t : Items) → shape (unnumbered t) ≡ unnumbered t
shape-unnumbered no_items = refl
shape-unnumbered (plain p rest) = ap (trace None false false no_traces) (shape-unnumbered rest)
shape-unnumbered (holder h body rest) = λ i. trace None false false (shape-unnumbered body i) (shape-unnumbered rest i)

-- an item alone
abbrev bare : Origin → Origin
bare o = record { now = None; is_touched = false; is_moved = false; inside = shape o.inside }

bare-unnumbered : (x : Item) → bare (unnumbered_item x) ≡ unnumbered_item x
bare-unnumbered (Define n c) = ap (λ t. record { now = None; is_touched = false; is_moved = false; inside = t }) (shape-unnumbered c.body)
bare-unnumbered (Instance s (Named t)) = refl
bare-unnumbered (Instance s (Anonymous c)) = ap (λ t. record { now = None; is_touched = false; is_moved = false; inside = t }) (shape-unnumbered c.body)
bare-unnumbered (Own p v) = refl
bare-unnumbered (Default p v) = refl
bare-unnumbered (Dynamic t p v) = refl

shape-traces_of : (os : List Origin) → shape (traces_of os) ≡ traces_of (map bare os)
shape-traces_of [] = refl
shape-traces_of (o ∷ os) = ap (trace None false false (shape o.inside)) (shape-traces_of os)

-- the same of a list of each
to_lists : (b : Traces) (t : Items) → shape b ≡ unnumbered t → map bare (list_of b) ≡ map unnumbered_item (tree.list_of t)
to_lists b t e =
    let same : traces_of (map bare (list_of b)) ≡ traces_of (map unnumbered_item (tree.list_of t)) =
    sym (shape-traces_of (list_of b)) ∙ ap shape (traces_of-list_of b) ∙ e ∙ ap unnumbered (sym (tree_rounds.items_of-list_of t)) ∙ unnumbered-items_of (tree.list_of t) in
    sym (list_of-traces_of (map bare (list_of b))) ∙ ap list_of same ∙ list_of-traces_of (map unnumbered_item (tree.list_of t))

from_lists : (os : List Origin) (xs : List Item) → map bare os ≡ map unnumbered_item xs → shape (traces_of os) ≡ unnumbered (tree.items_of xs)
from_lists os xs e = shape-traces_of os ∙ ap traces_of e ∙ sym (unnumbered-items_of xs)

same_length : (b : Traces) (t : Items) → shape b ≡ unnumbered t → length (list_of b) ≡ length (tree.list_of t)
same_length b t e = sym (length-map (list_of b) bare) ∙ ap length (to_lists b t e) ∙ length-map (tree.list_of t) unnumbered_item

-- ---- Lists with an item put in, taken out or replaced, seen item by item.

map-insert : {A B : Type 0} (f : A → B) (xs : List A) (n : ℕ) (x : A) → map f (insert xs n x) ≡ insert (map f xs) n (f x)
map-insert f xs n x = map-append f (take n xs) (x ∷ drop n xs) ∙ ap₂ (λ u v. u ++ f x ∷ v) (sym (take-map f n xs)) (sym (drop-map f n xs))

map-remove : {A B : Type 0} (f : A → B) (xs : List A) (n : ℕ) → map f (remove xs n) ≡ remove (map f xs) n
map-remove f xs n = map-append f (take n xs) (drop (suc n) xs) ∙ ap₂ (λ u v. u ++ v) (sym (take-map f n xs)) (sym (drop-map f (suc n) xs))

map-set : {A B : Type 0} (f : A → B) (xs : List A) (n : ℕ) (x y : A) → slice_get xs n ≡ Some x → f y ≡ f x → map f (slice_set xs n y) ≡ map f xs
map-set f [] n x y e h = refl
map-set f (z ∷ xs) zero x y e h = let same : z ≡ x = cc in ap (λ w. w ∷ map f xs) (h ∙ ap f (sym same))
map-set f (z ∷ xs) (suc n) x y e h = ap (λ ws. f z ∷ ws) (map-set f xs n x y e h)

-- the item of a list that is there in the other
found_from : (os : List Origin) (n : ℕ) (x : Item) (o : Option Origin) → slice_get os n ≡ o → option_map bare o ≡ Some (unnumbered_item x) → (p : Origin) × (slice_get os n ≡ Some p) × (bare p ≡ unnumbered_item x)
found_from os n x None e h = cc
found_from os n x (Some o) e h = (o, e, cc)

found_too : (b : Traces) (t : Items) (n : ℕ) (x : Item) → shape b ≡ unnumbered t → slice_get (tree.list_of t) n ≡ Some x → (p : Origin) × (slice_get (list_of b) n ≡ Some p) × (bare p ≡ unnumbered_item x)
found_too b t n x e h =
    found_from (list_of b) n x (slice_get (list_of b) n) refl
    (sym (slice_get-map bare (list_of b) n) ∙ ap (λ l. slice_get l n) (to_lists b t e) ∙ slice_get-map unnumbered_item (tree.list_of t) n ∙ ap (option_map unnumbered_item) h)

-- ---- What patches make of the body that holds their item.

insert_shape : (at : List ℕ) (x : Item) (n : ℕ) (b : Traces) (t : Items) → shape b ≡ unnumbered t → shape (changed (Insert at x) n b) ≡ unnumbered (insert_item n x t)
insert_shape at x n b t e =
    from_lists (insert (list_of b) n (unnumbered_item x)) (insert (tree.list_of t) n x)
    (map-insert bare (list_of b) n (unnumbered_item x) ∙ ap₂ (λ u v. insert u n v) (to_lists b t e) (bare-unnumbered x) ∙ sym (map-insert unnumbered_item (tree.list_of t) n x))

remove_shape : (at : List ℕ) (n : ℕ) (b : Traces) (t : Items) → shape b ≡ unnumbered t → shape (changed (Delete at) n b) ≡ unnumbered (remove_item n t)
remove_shape at n b t e =
    from_lists (remove (list_of b) n) (remove (tree.list_of t) n)
    (map-remove bare (list_of b) n ∙ ap (λ u. remove u n) (to_lists b t e) ∙ sym (map-remove unnumbered_item (tree.list_of t) n))

shift_shape : (at : List ℕ) (to n : ℕ) (b : Traces) (t : Items) (x : Item) → shape b ≡ unnumbered t → slice_get (tree.list_of t) n ≡ Some x → shape (changed (Shift at to) n b) ≡ unnumbered (shift_item n to t)
shift_shape at to n b t x e h =
    let o = found_too b t n x e h in
    let new : Origin = moved n to o.0 in
    ap (λ q. shape (traces_of (put_in to (option_map (moved n to) q) (remove (list_of b) n)))) o.1
    ∙ from_lists (insert (remove (list_of b) n) to new) (insert (remove (tree.list_of t) n) to x)
    (map-insert bare (remove (list_of b) n) to new
    ∙ ap₂ (λ u v. insert u to v) (map-remove bare (list_of b) n ∙ ap (λ u. remove u n) (to_lists b t e) ∙ sym (map-remove unnumbered_item (tree.list_of t) n)) o.2
    ∙ sym (map-insert unnumbered_item (remove (tree.list_of t) n) to x))
    ∙ ap unnumbered (sym (shift_is n to t x h))

unnumbered-part : (new : Part) (x : Item) → unnumbered_item (with_part new x) ≡ unnumbered_item x
unnumbered-part (OfShell new) (Instance s (Named t)) = refl
unnumbered-part (OfShell new) (Instance s (Anonymous c)) = refl
unnumbered-part (OfValue new) (Own p v) = refl
unnumbered-part (OfValue new) (Default p v) = refl
unnumbered-part (OfValue new) (Dynamic t p v) = refl
unnumbered-part (OfTarget new) (Dynamic t p v) = refl
unnumbered-part (OfType new) (Instance s (Named t)) = refl
unnumbered-part (OfDefine new) (Define n c) = refl
unnumbered-part new x = refl

exchange_shape : (at : List ℕ) (new : Part) (n : ℕ) (b : Traces) (t : Items) (x : Item) → shape b ≡ unnumbered t → slice_get (tree.list_of t) n ≡ Some x → shape (changed (Exchange at new) n b) ≡ unnumbered (with_part_at n new t)
exchange_shape at new n b t x e h =
    let o = found_too b t n x e h in
    ap (λ q. shape (traces_of (put_at n (option_map touched q) (list_of b)))) o.1
    ∙ from_lists (slice_set (list_of b) n (touched o.0)) (slice_set (tree.list_of t) n (with_part new x))
    (map-set bare (list_of b) n o.0 (touched o.0) o.1 refl ∙ to_lists b t e ∙ sym (map-set unnumbered_item (tree.list_of t) n x (with_part new x) h (unnumbered-part new x)))
    ∙ ap unnumbered (sym (exchange_is n new t x h))

-- ---- Along a way.

inside_too : (i : ℕ) (m : Traces) (t b : Items) → shape m ≡ unnumbered t → inner i t ≡ Some b → (c : Traces) × (inside_of i m ≡ Some c) × (shape c ≡ unnumbered b)
inside_too i no_traces no_items b e h = cc
inside_too i no_traces (plain p rest) b e h = cc
inside_too i no_traces (holder k body rest) b e h = cc
inside_too i (trace now t m inside others) no_items b e h = cc
inside_too zero (trace now t m inside others) (plain p rest) b e h = cc
inside_too zero (trace now t m inside others) (holder k body rest) b e h =
    let same : body ≡ b = cc in
    let alike : shape inside ≡ unnumbered body = cc in (inside, refl, alike ∙ ap unnumbered same)
inside_too (suc i) (trace now t m inside others) (plain p rest) b e h = inside_too i others rest b (cc) h
inside_too (suc i) (trace now t m inside others) (holder k body rest) b e h = inside_too i others rest b (cc) h

item_changed : (i : ℕ) (m c : Traces) (t b : Items) (F : Traces → Traces) (H : Items → Items) → shape m ≡ unnumbered t → inner i t ≡ Some b → inside_of i m ≡ Some c → shape (F c) ≡ unnumbered (H b)
    → shape (map_item i F m) ≡ unnumbered (map_inner i H t)
item_changed i no_traces c no_items b F H e h k f = refl
item_changed i no_traces c (plain p rest) b F H e h k f = cc
item_changed i no_traces c (holder q body rest) b F H e h k f = cc
item_changed i (trace now t m inside others) c no_items b F H e h k f = cc
item_changed zero (trace now t m inside others) c (plain p rest) b F H e h k f = cc
item_changed zero (trace now t m inside others) c (holder q body rest) b F H e h k f =
    let this : inside ≡ c = cc in
    let that : body ≡ b = cc in
    let alike : shape others ≡ unnumbered rest = cc in
    let changes : shape (F inside) ≡ unnumbered (H body) = ap (λ u. shape (F u)) this ∙ f ∙ ap (λ u. unnumbered (H u)) (sym that) in
    ap₂ (trace None false false) changes alike
item_changed (suc i) (trace now t m inside others) c (plain p rest) b F H e h k f =
    let alike : shape inside ≡ no_traces = cc in ap₂ (trace None false false) alike (item_changed i others c rest b F H (cc) h k f)
item_changed (suc i) (trace now t m inside others) c (holder q body rest) b F H e h k f =
    let alike : shape inside ≡ unnumbered body = cc in ap₂ (trace None false false) alike (item_changed i others c rest b F H (cc) h k f)

-- the body of the item on the way
next_body : (way : List ℕ) (b : Items) (o : Option Items) → option_and_then (body_at way) o ≡ Some b → (d : Items) × (o ≡ Some d) × (body_at way d ≡ Some b)
next_body way b None e = cc
next_body way b (Some d) e = (d, refl, e)

reached : (way : List ℕ) (m : Traces) (t b : Items) → shape m ≡ unnumbered t → body_at way t ≡ Some b → (c : Traces) × (traces_at way m ≡ Some c) × (shape c ≡ unnumbered b)
reached [] m t b e h = let same : t ≡ b = cc in (m, refl, e ∙ ap unnumbered same)
reached (i ∷ way) m t b e h =
    let d = next_body way b (inner i t) h in
    let a = inside_too i m t d.0 e d.1 in
    let c = reached way a.0 d.0 b a.2 d.2 in (c.0, ap (option_and_then (traces_at way)) a.1 ∙ c.1, c.2)

carried : (way : List ℕ) (m : Traces) (t b : Items) (F : Traces → Traces) (H : Items → Items) → shape m ≡ unnumbered t → body_at way t ≡ Some b
    → ((c : Traces) → shape c ≡ unnumbered b → shape (F c) ≡ unnumbered (H b)) → shape (map_inside way F m) ≡ unnumbered (map_body way H t)
carried [] m t b F H e h f = let same : t ≡ b = cc in f m (e ∙ ap unnumbered same) ∙ ap (λ u. unnumbered (H u)) (sym same)
carried (i ∷ way) m t b F H e h f =
    let d = next_body way b (inner i t) h in
    let a = inside_too i m t d.0 e d.1 in
    item_changed i m a.0 t d.0 (map_inside way F) (map_body way H) e d.1 a.1 (carried way a.0 d.0 b F H a.2 d.2 f)

-- ---- A patch that fits.

placed_by : (p : Patch) (at : List ℕ) (n : ℕ) (m c : Traces) → 1 ≤ length at → traces_at (holder_of at) m ≡ Some c → IsTrue (has_place p n (length (list_of c))) → IsTrue (nat_le 1 (length at) && has_place_in p n (traces_at (holder_of at) m))
placed_by p at n m c h e f = and_from _ _ (le-leb 1 (length at) h) (ap (has_place_in p n) e ∙ f)

pub one_placed : (p : Patch) (t : Items) (m : Traces) → shape m ≡ unnumbered t → IsTrue (fits p t) → IsTrue (is_placed p m)
one_placed (Insert at x) t m e h =
    let parts = and_parts _ _ h in
    let b = place_in (number_of at) (body_at (holder_of at) t) parts.1 in
    let c = reached (holder_of at) m t b.body e b.held in
    placed_by (Insert at x) at (number_of at) m c.0 (level-length at x parts.0).0 c.1 (le-leb (number_of at) (length (list_of c.0)) (omega (arith, b.within, same_length c.0 b.body c.2)))
one_placed (Delete at) t m e h =
    let x = the_item (item_at at t) h in
    let s = stands at t x.0 x.1 in
    let c = reached (holder_of at) m t s.body e s.held in
    placed_by (Delete at) at (number_of at) m c.0 (omega (arith, s.within)) c.1 (lt-ltb (number_of at) (length (list_of c.0)) (omega (arith, get-within (tree.list_of s.body) (number_of at) x.0 s.found, same_length c.0 s.body c.2)))
one_placed (Shift at to) t m e h =
    let parts = and_parts _ _ h in
    let x = the_item (item_at at t) parts.0 in
    let s = stands at t x.0 x.1 in
    let c = reached (holder_of at) m t s.body e s.held in
    let d = item_in to (body_at (holder_of at) t) parts.1 in
    let same : d.body ≡ s.body = (let both : Some d.body ≡ Some s.body = sym d.held ∙ s.held in cc) in
    placed_by (Shift at to) at (number_of at) m c.0 (omega (arith, s.within)) c.1
    (and_from _ _ (lt-ltb (number_of at) (length (list_of c.0)) (omega (arith, get-within (tree.list_of s.body) (number_of at) x.0 s.found, same_length c.0 s.body c.2)))
    (lt-ltb to (length (list_of c.0)) (omega (arith, d.within, ap (λ u. length (tree.list_of u)) same, same_length c.0 s.body c.2))))
one_placed (Exchange at new) t m e h =
    let x = part_in new (item_at at t) h in
    let s = stands at t x.0 x.1 in
    let c = reached (holder_of at) m t s.body e s.held in
    placed_by (Exchange at new) at (number_of at) m c.0 (omega (arith, s.within)) c.1 (lt-ltb (number_of at) (length (list_of c.0)) (omega (arith, get-within (tree.list_of s.body) (number_of at) x.0 s.found, same_length c.0 s.body c.2)))

pub one_shape : (p : Patch) (t : Items) (m : Traces) → shape m ≡ unnumbered t → IsTrue (fits p t) → shape (gone_back p m) ≡ unnumbered (patched p t)
one_shape (Insert at x) t m e h =
    let b = place_in (number_of at) (body_at (holder_of at) t) (and_parts _ _ h).1 in
    carried (holder_of at) m t b.body (changed (Insert at x) (number_of at)) (insert_item (number_of at) x) e b.held (λ c k. insert_shape at x (number_of at) c b.body k)
one_shape (Delete at) t m e h =
    let x = the_item (item_at at t) h in
    let s = stands at t x.0 x.1 in
    carried (holder_of at) m t s.body (changed (Delete at) (number_of at)) (remove_item (number_of at)) e s.held (λ c k. remove_shape at (number_of at) c s.body k)
one_shape (Shift at to) t m e h =
    let x = the_item (item_at at t) (and_parts _ _ h).0 in
    let s = stands at t x.0 x.1 in
    carried (holder_of at) m t s.body (changed (Shift at to) (number_of at)) (shift_item (number_of at) to) e s.held (λ c k. shift_shape at to (number_of at) c s.body x.0 k s.found)
one_shape (Exchange at new) t m e h =
    let x = part_in new (item_at at t) h in
    let s = stands at t x.0 x.1 in
    carried (holder_of at) m t s.body (changed (Exchange at new) (number_of at)) (with_part_at (number_of at) new) e s.held (λ c k. exchange_shape at new (number_of at) c s.body x.0 k s.found)

-- ---- Patches that fit one after another.

pub all_placed : (ps : List Patch) (t : Items) (m : Traces) → shape m ≡ unnumbered t → AllFit ps t → IsTrue (are_placed ps m)
all_placed [] t m e h = refl
all_placed (p ∷ ps) t m e h = and_from _ _ (one_placed p t m e h.0) (all_placed ps (patched p t) (gone_back p m) (one_shape p t m e h.0) h.1)

pub all_shape : (ps : List Patch) (t : Items) (m : Traces) → shape m ≡ unnumbered t → AllFit ps t → shape (all_gone_back ps m) ≡ unnumbered (image ps t)
all_shape [] t m e h = e
all_shape (p ∷ ps) t m e h = all_shape ps (patched p t) (gone_back p m) (one_shape p t m e h.0) h.1
