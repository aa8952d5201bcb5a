-- How large a description is behind one patch.
use Rattle.std.proofs.Common.{◌≡◌, ℕ, zero, suc, ◌+◌, ◌≤◌, ◌<◌, max, List, [], ◌∷◌, length, Some, None, refl, ap, sym, ◌∙◌, arith, get_or, sum_by}
use Rattle.std.specs.Prelude.{insert, remove, slice_get, slice_set, IsTrue}
use Rattle.std.proofs.lemmas.Bool.{and_parts}
use Rattle.std.proofs.lemmas.List.Sums.{sum_by-insert, sum_by-remove, sum_by-set}
use Rattle.std.proofs.lemmas.Option.{slice_get-get_or}
use Rattle.rdl_tree.specs.Items.{Items, no_items, plain, holder, count}
use Rattle.rdl_tree.specs.View.{items_of, list_of, own_body}
use Rattle.rdl_tree.specs.Address.{holder_of, number_of, inner, map_inner, body_at, map_body}
use Rattle.rdl_tree.specs.Depth.{depth}
use Rattle.rdl_tree.specs.Weight.{weight}
use Rattle.rdl_tree.specs.ItemWeight.{item_weight}
use Rattle.rdl_tree.specs.ItemAt.{item_at}
use Rattle.rdl_tree.specs.Larger.{IsLarger, IsSmaller}
use Rattle.rdl_tree.specs.Edit.{insert_item, remove_item, shift_item}
use Rattle.rdl_tree.specs.Part.{with_part, with_part_at}
use Rattle.rdl_tree.specs.PatchWeight.{part_weight}
use Rattle.rdl_tree.specs.Patch.{patched, fits, is_level}
use Rattle.rdl_tree.specs.declared.description.Item.{Item}
use Rattle.rdl_tree.specs.declared.description.Item.TheVariants.{Define, Instance, Own, Default, Dynamic}
use Rattle.rdl_tree.specs.declared.description.Of.TheVariants.{Named, Anonymous}
use Rattle.rdl_tree.specs.declared.part.Part.{Part}
use Rattle.rdl_tree.specs.declared.part.Part.TheVariants.{OfShell, OfValue, OfTarget, OfType, OfDefine}
use Rattle.rdl_tree.specs.declared.patch.Patch.TheVariants.{Insert, Delete, Shift, Exchange}
use Rattle.rdl_tree.proofs.Rounds.{items_of-list_of, weight-items_of}
use Rattle.rdl_tree.proofs.Sizes.{item_count, count-items_of, item_depth, depth-add}
use Rattle.rdl_tree.proofs.Edits.{get-within}
use Rattle.rdl_tree.proofs.Nesting.{depth-part, depth-set}
use Rattle.rdl_tree.proofs.Places.{stands, the_item, inner_some}
use Rattle.rdl_tree.proofs.Undone.{place_in, part_in, shift_is, exchange_is}

-- ---- Sums over all items, those inside included.

-- the sum of what each item of a body counts, with all inside it
record IsSum (m : Items → ℕ) (w : Item → ℕ) : Type 0 where
  of_list : (xs : List Item) → m (items_of xs) ≡ sum_by w xs
  inside : (i : ℕ) (f : Items → Items) (t d : Items) → inner i t ≡ Some d → m (map_inner i f t) + m d ≡ m t + m (f d)

count-inside : (i : ℕ) (f : Items → Items) (t d : Items) → inner i t ≡ Some d → count (map_inner i f t) + count d ≡ count t + count (f d)
count-inside i f no_items d e = cc
count-inside zero f (plain p rest) d e = cc
count-inside zero f (holder h body rest) d e = let same : body ≡ d = cc in omega (arith, ap count same, ap (λ b. count (f b)) same)
count-inside (suc i) f (plain p rest) d e = omega (arith, count-inside i f rest d e)
count-inside (suc i) f (holder h body rest) d e = omega (arith, count-inside i f rest d e)

weight-inside : (i : ℕ) (f : Items → Items) (t d : Items) → inner i t ≡ Some d → weight (map_inner i f t) + weight d ≡ weight t + weight (f d)
weight-inside i f no_items d e = cc
weight-inside zero f (plain p rest) d e = cc
weight-inside zero f (holder h body rest) d e = let same : body ≡ d = cc in omega (arith, ap weight same, ap (λ b. weight (f b)) same)
weight-inside (suc i) f (plain p rest) d e = omega (arith, weight-inside i f rest d e)
weight-inside (suc i) f (holder h body rest) d e = omega (arith, weight-inside i f rest d e)

counts : IsSum count item_count
counts = record { of_list = count-items_of; inside = count-inside }

weighs : IsSum weight item_weight
weighs = record { of_list = weight-items_of; inside = weight-inside }

module _ (m : Items → ℕ) (w : Item → ℕ) (sum : IsSum m w) where
  sum-body : (p : List ℕ) (f : Items → Items) (t b : Items) → body_at p t ≡ Some b → m (map_body p f t) + m b ≡ m t + m (f b)
  sum-body [] f t b e = let same : t ≡ b = cc in omega (arith, ap m same, ap (λ d. m (f d)) same)
  sum-body (i ∷ p) f t b e =
      let step = inner_some i p t b e in omega (arith, sum.inside i (map_body p f) t step.0 step.1, sum-body p f step.0 b step.2)

  sum-list : (b : Items) → m b ≡ sum_by w (list_of b)
  sum-list b = ap m (sym (items_of-list_of b)) ∙ sum.of_list (list_of b)

  sum-removed : (xs : List Item) (n : ℕ) (x : Item) → slice_get xs n ≡ Some x → sum_by w (remove xs n) + w x ≡ sum_by w xs
  sum-removed xs n x e =
      let within : n < length xs = get-within xs n x e in
      let there : get_or xs n x ≡ x = (let both : Some (get_or xs n x) ≡ Some x = sym (slice_get-get_or xs n x within) ∙ e in cc) in
      omega (arith, sum_by-remove w xs n x within, ap w there)

  sum-insert : (at : List ℕ) (x : Item) (t : Items) → IsTrue (fits (Insert at x) t) → m (patched (Insert at x) t) ≡ m t + w x
  sum-insert at x t h =
      let b = place_in (number_of at) (body_at (holder_of at) t) (and_parts (is_level at x) _ h).1 in
      let xs = list_of b.body in
      omega (arith, sum-body (holder_of at) (insert_item (number_of at) x) t b.body b.held, sum.of_list (insert xs (number_of at) x), sum_by-insert w xs (number_of at) x, sum-list b.body)

  sum-delete : (at : List ℕ) (x : Item) (t : Items) → item_at at t ≡ Some x → m (patched (Delete at) t) + w x ≡ m t
  sum-delete at x t e =
      let s = stands at t x e in
      let xs = list_of s.body in
      omega (arith, sum-body (holder_of at) (remove_item (number_of at)) t s.body s.held, sum.of_list (remove xs (number_of at)), sum-removed xs (number_of at) x s.found, sum-list s.body)

  sum-shift : (at : List ℕ) (to : ℕ) (t : Items) → IsTrue (fits (Shift at to) t) → m (patched (Shift at to) t) ≡ m t
  sum-shift at to t h =
      let x = the_item (item_at at t) (and_parts _ _ h).0 in
      let s = stands at t x.0 x.1 in
      let xs = list_of s.body in
      let from = number_of at in
      omega (
        arith,
        sum-body (holder_of at) (shift_item from to) t s.body s.held,
        ap m (shift_is from to s.body x.0 s.found),
        sum.of_list (insert (remove xs from) to x.0),
        sum_by-insert w (remove xs from) to x.0,
        sum-removed xs from x.0 s.found,
        sum-list s.body,
      )

  sum-exchange : (at : List ℕ) (part : Part) (x : Item) (t : Items) → item_at at t ≡ Some x → m (patched (Exchange at part) t) + w x ≡ m t + w (with_part part x)
  sum-exchange at part x t e =
      let s = stands at t x e in
      let xs = list_of s.body in
      let n = number_of at in
      let within : n < length xs = get-within xs n x s.found in
      let there : get_or xs n x ≡ x = (let both : Some (get_or xs n x) ≡ Some x = sym (slice_get-get_or xs n x within) ∙ s.found in cc) in
      omega (
        arith,
        sum-body (holder_of at) (with_part_at n part) t s.body s.held,
        ap m (exchange_is n part s.body x s.found),
        sum.of_list (slice_set xs n (with_part part x)),
        sum_by-set w xs n (with_part part x) x within,
        ap w there,
        sum-list s.body,
      )

-- ---- Levels.

depth-insert : (xs : List Item) (i : ℕ) (x : Item) → depth (items_of (insert xs i x)) ≡ max (item_depth x) (depth (items_of xs))
depth-insert xs zero x = depth-add x (items_of xs)
depth-insert [] (suc i) x = depth-add x no_items
depth-insert (y ∷ ys) (suc i) x = omega (arith, depth-add y (items_of (insert ys i x)), depth-add y (items_of ys), depth-insert ys i x)

depth-remove : (xs : List Item) (i : ℕ) (x : Item) → slice_get xs i ≡ Some x → max (item_depth x) (depth (items_of (remove xs i))) ≡ depth (items_of xs)
depth-remove [] i x e = cc
depth-remove (y ∷ ys) zero x e = let same : y ≡ x = cc in omega (arith, depth-add y (items_of ys), ap item_depth same)
depth-remove (y ∷ ys) (suc i) x e = omega (arith, depth-add y (items_of (remove ys i)), depth-add y (items_of ys), depth-remove ys i x e)

depth-inside : (i : ℕ) (f : Items → Items) (t d : Items) → inner i t ≡ Some d → depth (f d) ≡ depth d → depth (map_inner i f t) ≡ depth t
depth-inside i f no_items d e h = cc
depth-inside zero f (plain p rest) d e h = cc
depth-inside zero f (holder g body rest) d e h = let same : body ≡ d = cc in omega (arith, ap depth same, ap (λ b. depth (f b)) same)
depth-inside (suc i) f (plain p rest) d e h = depth-inside i f rest d e h
depth-inside (suc i) f (holder g body rest) d e h = omega (arith, depth-inside i f rest d e h)

depth-body : (p : List ℕ) (f : Items → Items) (t b : Items) → body_at p t ≡ Some b → depth (f b) ≡ depth b → depth (map_body p f t) ≡ depth t
depth-body [] f t b e h = let same : t ≡ b = cc in omega (arith, ap depth same, ap (λ d. depth (f d)) same)
depth-body (i ∷ p) f t b e h =
    let step = inner_some i p t b e in depth-inside i (map_body p f) t step.0 step.1 (depth-body p f step.0 b step.2 h)

depth-list : (b : Items) → depth (items_of (list_of b)) ≡ depth b
depth-list b = ap depth (items_of-list_of b)

-- ---- Patches.

-- what an item without a body of its own counts
plain-size : (x : Item) → own_body x ≡ None → (item_depth x ≡ 0) × (item_count x ≡ 1)
plain-size (Define n c) e = cc
plain-size (Instance s (Named t)) e = (refl, refl)
plain-size (Instance s (Anonymous c)) e = cc
plain-size (Own p v) e = (refl, refl)
plain-size (Default p v) e = (refl, refl)
plain-size (Dynamic t p v) e = (refl, refl)

-- what an item counts with another part
part-size : (new : Part) (x : Item) → (item_count (with_part new x) ≡ item_count x) × (item_weight (with_part new x) ≤ item_weight x + part_weight new)
part-size (OfShell new) (Instance s (Named t)) = (refl, omega arith)
part-size (OfShell new) (Instance s (Anonymous c)) = (refl, omega arith)
part-size (OfValue new) (Own p v) = (refl, omega arith)
part-size (OfValue new) (Default p v) = (refl, omega arith)
part-size (OfValue new) (Dynamic t p v) = (refl, omega arith)
part-size (OfTarget new) (Dynamic t p v) = (refl, omega arith)
part-size (OfType new) (Instance s (Named t)) = (refl, omega arith)
part-size (OfDefine new) (Define n c) = (refl, omega arith)
part-size new x = (refl, omega arith)

pub insert-size : (at : List ℕ) (x : Item) (t : Items) → own_body x ≡ None → IsTrue (fits (Insert at x) t) → IsLarger t (patched (Insert at x) t) 1 (item_weight x)
insert-size at x t p h =
    let b = place_in (number_of at) (body_at (holder_of at) t) (and_parts (is_level at x) _ h).1 in
    let xs = list_of b.body in
    let none = plain-size x p in
    record {
      levels = depth-body (holder_of at) (insert_item (number_of at) x) t b.body b.held (omega (arith, depth-insert xs (number_of at) x, none.0, depth-list b.body));
      items = sum-insert count item_count counts at x t h ∙ ap (λ n. count t + n) none.1;
      at_most = omega (arith, sum-insert weight item_weight weighs at x t h);
    }

pub delete-size : (at : List ℕ) (x : Item) (t : Items) → own_body x ≡ None → item_at at t ≡ Some x → IsSmaller t (patched (Delete at) t) (item_weight x)
delete-size at x t p e =
    let s = stands at t x e in
    let xs = list_of s.body in
    let none = plain-size x p in
    record {
      levels = depth-body (holder_of at) (remove_item (number_of at)) t s.body s.held (omega (arith, depth-remove xs (number_of at) x s.found, none.0, depth-list s.body));
      items = ap (λ n. count (patched (Delete at) t) + n) (sym none.1) ∙ sum-delete count item_count counts at x t e;
      exactly = sum-delete weight item_weight weighs at x t e;
    }

pub shift-size : (at : List ℕ) (to : ℕ) (t : Items) → IsTrue (fits (Shift at to) t) → IsLarger t (patched (Shift at to) t) 0 0
shift-size at to t h =
    let x = the_item (item_at at t) (and_parts _ _ h).0 in
    let s = stands at t x.0 x.1 in
    let xs = list_of s.body in
    let from = number_of at in
    record {
      levels = depth-body (holder_of at) (shift_item from to) t s.body s.held
          (omega (arith, ap depth (shift_is from to s.body x.0 s.found), depth-insert (remove xs from) to x.0, depth-remove xs from x.0 s.found, depth-list s.body));
      items = omega (arith, sum-shift count item_count counts at to t h);
      at_most = omega (arith, sum-shift weight item_weight weighs at to t h);
    }

pub exchange-size : (at : List ℕ) (part : Part) (t : Items) → IsTrue (fits (Exchange at part) t) → IsLarger t (patched (Exchange at part) t) 0 (part_weight part)
exchange-size at part t h =
    let x = part_in part (item_at at t) h in
    let s = stands at t x.0 x.1 in
    let n = number_of at in
    let same = part-size part x.0 in
    record {
      levels = depth-body (holder_of at) (with_part_at n part) t s.body s.held
          (ap depth (exchange_is n part s.body x.0 s.found) ∙ depth-set (list_of s.body) n x.0 (with_part part x.0) s.found (depth-part part x.0) ∙ depth-list s.body);
      items = omega (arith, sum-exchange count item_count counts at part x.0 t x.1, same.0);
      at_most = omega (arith, sum-exchange weight item_weight weighs at part x.0 t x.1, same.1);
    }
