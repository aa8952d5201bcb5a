-- Patches that fit keep to the levels that there may be.
use Rattle.std.proofs.Common.{◌≡◌, ℕ, zero, suc, ◌+◌, ◌-◌, ◌≤◌, max, List, [], ◌∷◌, ◌++◌, length, Some, refl, ap, sym, ◌∙◌, arith, subst, nat_le}
use Rattle.std.specs.Prelude.{insert, remove, slice_get, slice_set, IsTrue}
use Rattle.std.proofs.lemmas.Bool.{and_parts, and_from, leb-true, le-leb}
use Rattle.rdl_tree.specs.Items.{Items, no_items, plain, holder}
use Rattle.rdl_tree.specs.View.{items_of, list_of}
use Rattle.rdl_tree.specs.Address.{holder_of, number_of, inner, map_inner, body_at, map_body}
use Rattle.rdl_tree.specs.Depth.{depth}
use Rattle.rdl_tree.specs.Edit.{insert_item, remove_item, shift_item}
use Rattle.rdl_tree.specs.Part.{with_part, part_of, with_part_at}
use Rattle.rdl_tree.specs.ItemAt.{item_at}
use Rattle.rdl_tree.specs.Patch.{patched, fits, image, inverse, inverses, AllFit, is_level, insert_again, exchange_again, has_place, length_of}
use Rattle.rdl_tree.specs.declared.description.Item.{Item}
use Rattle.rdl_tree.specs.declared.description.Item.TheVariants.{Define, Instance, Own, Default, Dynamic}
use Rattle.rdl_tree.specs.declared.description.Of.TheVariants.{Named, Anonymous}
use Rattle.rdl_tree.specs.declared.part.Part.{Part}
use Rattle.rdl_tree.specs.declared.part.Part.TheVariants.{OfShell, OfValue, OfTarget, OfType, OfDefine}
use Rattle.rdl_tree.specs.declared.patch.Patch.{Patch}
use Rattle.rdl_tree.specs.declared.patch.Patch.TheVariants.{Insert, Delete, Shift, Exchange}
use Rattle.rdl_tree.proofs.Rounds.{items_of-list_of}
use Rattle.rdl_tree.proofs.Sizes.{item_depth, depth-add}
use Rattle.rdl_tree.proofs.Places.{stands, the_item, inner_some, length-holder}
use Rattle.rdl_tree.proofs.Undone.{Undoes, undoes, place_in, part_in, shift_is, exchange_is}
use Rattle.rdl_tree.proofs.Patching.{image-inverses, AllFit-append}

-- ---- Lists of items.

depth-insert : (xs : List Item) (i : ℕ) (x : Item) → depth (items_of (insert xs i x)) ≤ max (item_depth x) (depth (items_of xs))
depth-insert xs zero x = omega (arith, depth-add x (items_of xs))
depth-insert [] (suc i) x = omega (arith, depth-add x no_items)
depth-insert (y ∷ ys) (suc i) x = omega (arith, depth-add y (items_of (insert ys i x)), depth-add y (items_of ys), depth-insert ys i x)

depth-remove : (xs : List Item) (i : ℕ) → depth (items_of (remove xs i)) ≤ depth (items_of xs)
depth-remove [] zero = omega arith
depth-remove [] (suc i) = omega arith
depth-remove (y ∷ ys) zero = omega (arith, depth-add y (items_of ys))
depth-remove (y ∷ ys) (suc i) = omega (arith, depth-add y (items_of (remove ys i)), depth-add y (items_of ys), depth-remove ys i)

pub depth-set : (xs : List Item) (i : ℕ) (x y : Item) → slice_get xs i ≡ Some x → item_depth y ≡ item_depth x → depth (items_of (slice_set xs i y)) ≡ depth (items_of xs)
depth-set [] i x y e h = refl
depth-set (z ∷ zs) zero x y e h =
    let same : z ≡ x = cc in depth-add y (items_of zs) ∙ ap (λ n. max n (depth (items_of zs))) (h ∙ ap item_depth (sym same)) ∙ sym (depth-add z (items_of zs))
depth-set (z ∷ zs) (suc i) x y e h =
    depth-add z (items_of (slice_set zs i y)) ∙ ap (λ n. max (item_depth z) n) (depth-set zs i x y e h) ∙ sym (depth-add z (items_of zs))

depth-got : (xs : List Item) (i : ℕ) (x : Item) → slice_get xs i ≡ Some x → item_depth x ≤ depth (items_of xs)
depth-got [] i x e = cc
depth-got (z ∷ zs) zero x e = let same : z ≡ x = cc in omega (arith, depth-add z (items_of zs), ap item_depth same)
depth-got (z ∷ zs) (suc i) x e = omega (arith, depth-add z (items_of zs), depth-got zs i x e)

pub depth-item : (b : Items) (i : ℕ) (x : Item) → slice_get (list_of b) i ≡ Some x → item_depth x ≤ depth b
depth-item b i x e = omega (arith, depth-got (list_of b) i x e, ap depth (items_of-list_of b))

pub depth-part : (new : Part) (x : Item) → item_depth (with_part new x) ≡ item_depth x
depth-part (OfShell new) (Instance s (Named t)) = refl
depth-part (OfShell new) (Instance s (Anonymous c)) = refl
depth-part (OfValue new) (Own p v) = refl
depth-part (OfValue new) (Default p v) = refl
depth-part (OfValue new) (Dynamic t p v) = refl
depth-part (OfTarget new) (Dynamic t p v) = refl
depth-part (OfType new) (Instance s (Named t)) = refl
depth-part (OfDefine new) (Define n c) = refl
depth-part new x = refl

-- ---- Bodies along a way.

inner-depth : (i : ℕ) (t d : Items) → inner i t ≡ Some d → depth d + 1 ≤ depth t
inner-depth i no_items d e = cc
inner-depth zero (plain p rest) d e = cc
inner-depth zero (holder h body rest) d e = let same : body ≡ d = cc in omega (arith, ap depth same)
inner-depth (suc i) (plain p rest) d e = inner-depth i rest d e
inner-depth (suc i) (holder h body rest) d e = omega (arith, inner-depth i rest d e)

pub body-depth : (p : List ℕ) (t b : Items) → body_at p t ≡ Some b → length p + depth b ≤ depth t
body-depth [] t b e = let same : t ≡ b = cc in omega (arith, ap depth same)
body-depth (i ∷ p) t b e =
    let step = inner_some i p t b e in omega (arith, inner-depth i t step.0 step.1, body-depth p step.0 b step.2)

map_inner-depth : (i : ℕ) (f : Items → Items) (t d : Items) (n : ℕ) → inner i t ≡ Some d → depth (f d) + 1 ≤ n → depth t ≤ n → depth (map_inner i f t) ≤ n
map_inner-depth i f no_items d n e h k = cc
map_inner-depth zero f (plain p rest) d n e h k = cc
map_inner-depth zero f (holder g body rest) d n e h k = let same : body ≡ d = cc in omega (arith, ap (λ b. depth (f b)) same)
map_inner-depth (suc i) f (plain p rest) d n e h k = map_inner-depth i f rest d n e h k
map_inner-depth (suc i) f (holder g body rest) d n e h k = omega (arith, map_inner-depth i f rest d n e h (omega arith))

pub map_body-depth : (p : List ℕ) (f : Items → Items) (t b : Items) (n : ℕ) → body_at p t ≡ Some b → length p + depth (f b) ≤ n → depth t ≤ n → depth (map_body p f t) ≤ n
map_body-depth [] f t b n e h k = let same : t ≡ b = cc in omega (arith, ap (λ d. depth (f d)) same)
map_body-depth (i ∷ p) f t b n e h k =
    let step = inner_some i p t b e in
    map_inner-depth i (map_body p f) t step.0 n step.1
    (omega (arith, map_body-depth p f step.0 b (n - 1) step.2 (omega arith) (omega (arith, inner-depth i t step.0 step.1)), inner-depth i t step.0 step.1)) k

-- ---- Patches.

insert-depth : (k : ℕ) (x : Item) (b : Items) → depth (insert_item k x b) ≤ max (item_depth x) (depth b)
insert-depth k x b = omega (arith, depth-insert (list_of b) k x, ap depth (items_of-list_of b))

remove-depth : (k : ℕ) (b : Items) → depth (remove_item k b) ≤ depth b
remove-depth k b = omega (arith, depth-remove (list_of b) k, ap depth (items_of-list_of b))

shift-depth : (from to : ℕ) (b : Items) (x : Item) → slice_get (list_of b) from ≡ Some x → depth (shift_item from to b) ≤ depth b
shift-depth from to b x e =
    omega (arith, ap depth (shift_is from to b x e), depth-insert (remove (list_of b) from) to x, depth-remove (list_of b) from, depth-item b from x e, ap depth (items_of-list_of b))

exchange-depth : (k : ℕ) (new : Part) (b : Items) (x : Item) → slice_get (list_of b) k ≡ Some x → depth (with_part_at k new b) ≡ depth b
exchange-depth k new b x e =
    ap depth (exchange_is k new b x e) ∙ depth-set (list_of b) k x (with_part new x) e (depth-part new x) ∙ ap depth (items_of-list_of b)

-- an item has at most as many levels above it as a body nests, and one more
pub stands-short : (at : List ℕ) (t : Items) (x : Item) → item_at at t ≡ Some x → length at + item_depth x ≤ depth t + 1
stands-short at t x e =
    let s = stands at t x e in
    omega (arith, length-holder at s.within, body-depth (holder_of at) t s.body s.held, depth-item s.body (number_of at) x s.found)

pub level-length : (at : List ℕ) (x : Item) → IsTrue (is_level at x) → (1 ≤ length at) × (length at + item_depth x ≤ 17)
level-length at x h = let parts = and_parts _ _ h in (leb-true 1 (length at) parts.0, leb-true (length at + item_depth x) 17 parts.1)

pub patched-depth : (p : Patch) (t : Items) → IsTrue (fits p t) → depth t ≤ 16 → depth (patched p t) ≤ 16
patched-depth (Insert at x) t h k =
    let parts = and_parts _ _ h in
    let level = level-length at x parts.0 in
    let b = place_in (number_of at) (body_at (holder_of at) t) parts.1 in
    map_body-depth (holder_of at) (insert_item (number_of at) x) t b.body 16 b.held
    (omega (arith, insert-depth (number_of at) x b.body, body-depth (holder_of at) t b.body b.held, length-holder at (omega (arith, level.0)), level.0, level.1)) k
patched-depth (Delete at) t h k =
    let x = the_item (item_at at t) h in
    let s = stands at t x.0 x.1 in
    map_body-depth (holder_of at) (remove_item (number_of at)) t s.body 16 s.held (omega (arith, remove-depth (number_of at) s.body, body-depth (holder_of at) t s.body s.held)) k
patched-depth (Shift at to) t h k =
    let x = the_item (item_at at t) (and_parts _ _ h).0 in
    let s = stands at t x.0 x.1 in
    map_body-depth (holder_of at) (shift_item (number_of at) to) t s.body 16 s.held
    (omega (arith, shift-depth (number_of at) to s.body x.0 s.found, body-depth (holder_of at) t s.body s.held)) k
patched-depth (Exchange at part) t h k =
    let x = part_in part (item_at at t) h in
    let s = stands at t x.0 x.1 in
    map_body-depth (holder_of at) (with_part_at (number_of at) part) t s.body 16 s.held
    (omega (arith, exchange-depth (number_of at) part s.body x.0 s.found, body-depth (holder_of at) t s.body s.held)) k

pub image-depth : (ps : List Patch) (t : Items) → AllFit ps t → depth t ≤ 16 → depth (image ps t) ≤ 16
image-depth [] t h k = k
image-depth (p ∷ ps) t h k = image-depth ps (patched p t) h.1 (patched-depth p t h.0 k)

-- a patch takes another one back that fits, and fits too
undone-fits : (p q : Patch) (t : Items) → Undoes p q t → IsTrue (fits p t) → depth t ≤ 16 → IsTrue (fits q (patched p t))
undone-fits p (Delete at) t u h k = u.placed
undone-fits p (Shift at to) t u h k = u.placed
undone-fits p (Exchange at part) t u h k = u.placed
undone-fits (Delete at) (Insert bt y) t u h k =
    let x = the_item (item_at at t) h in
    let same : Insert at x.0 ∷ [] ≡ Insert bt y ∷ [] = ap (insert_again at) (sym x.1) ∙ u.is_inverse in
    let place : at ≡ bt = cc in
    let item : x.0 ≡ y = cc in
    let parts = and_parts (nat_le 1 (length bt)) (has_place (number_of bt) (length_of (body_at (holder_of bt) (patched (Delete at) t)))) u.placed in
    let low : length bt + item_depth y ≤ 17 = omega (arith, stands-short at t x.0 x.1, ap length place, ap item_depth item) in
    and_from _ _ (and_from _ _ parts.0 (le-leb _ _ low)) parts.1
undone-fits (Insert at x) (Insert bt y) t u h k = let two : Delete at ∷ [] ≡ Insert bt y ∷ [] = u.is_inverse in cc
undone-fits (Shift at to) (Insert bt y) t u h k = let two : inverse (Shift at to) t ≡ Insert bt y ∷ [] = u.is_inverse in cc
undone-fits (Exchange at part) (Insert bt y) t u h k =
    let x = part_in part (item_at at t) h in
    let two : Exchange at (part_of part x.0) ∷ [] ≡ Insert bt y ∷ [] = ap (exchange_again at part) (sym x.1) ∙ u.is_inverse in cc

pub AllFit-inverses : (ps : List Patch) (t : Items) → AllFit ps t → depth t ≤ 16 → AllFit (inverses ps t) (image ps t)
AllFit-inverses [] t h k = tt
AllFit-inverses (p ∷ ps) t h k =
    let u = undoes p t h.0 in
    let t' : Items = patched p t in
    let back : IsTrue (fits u.0 t') = undone-fits p u.0 t u.1 h.0 k in
    subst (λ (qs : List Patch). AllFit (inverses ps t' ++ qs) (image ps t')) (sym u.1.is_inverse)
    (AllFit-append (inverses ps t') (u.0 ∷ []) (image ps t') (AllFit-inverses ps t' h.1 (patched-depth p t h.0 k)) (subst (λ d. IsTrue (fits u.0 d)) (sym (image-inverses ps t' h.1)) back, tt))
