-- Where patches are still the skeleton stays.
use Rattle.std.proofs.Common.{◌≡◌, ℕ, zero, suc, Bool, true, false, List, [], ◌∷◌, ◌++◌, length, take, drop, Option, Some, None, refl, ap, sym, ◌∙◌, take-append-drop}
use Rattle.std.specs.Prelude.{not, IsSomeAnd, insert, remove, slice_get, slice_set, option_and_then, if◌then◌else◌}
use Rattle.rdl_tree.specs.Items.{Items, no_items, plain, holder, Plain, named, own, default, dynamic, Holder, define, anonymous}
use Rattle.rdl_tree.specs.View.{add, items_of, list_of}
use Rattle.rdl_tree.specs.Address.{holder_of, number_of, inner, map_inner, body_at, map_body}
use Rattle.rdl_tree.specs.Edit.{insert_item, remove_item, shift_item}
use Rattle.rdl_tree.specs.ItemAt.{item_at}
use Rattle.rdl_tree.specs.Part.{with_part, with_part_at}
use Rattle.rdl_tree.specs.Patch.{patched, image}
use Rattle.rdl_tree.specs.declared.description.Item.{Item}
use Rattle.rdl_tree.specs.declared.description.Item.TheVariants.{Define, Instance, Own, Default, Dynamic}
use Rattle.rdl_tree.specs.declared.description.Of.TheVariants.{Named, Anonymous}
use Rattle.rdl_tree.specs.declared.part.Part.{Part}
use Rattle.rdl_tree.specs.declared.part.Part.TheVariants.{OfShell, OfValue, OfTarget, OfType, OfDefine}
use Rattle.rdl_tree.specs.declared.patch.Patch.{Patch}
use Rattle.rdl_tree.specs.declared.patch.Patch.TheVariants.{Insert, Delete, Shift, Exchange}
use Rattle.rdl_tree.specs.declared.shell.Shell.{Shell}
use Rattle.rdl_tree.proofs.Edits.{insert-remove}
use Rattle.rdl_tree.proofs.Reached.{lent_item}
use Rattle.rdl_tree.proofs.Rounds.{items_of-list_of}
use Rattle.rdl_tree.proofs.Undone.{shift_is, exchange_is}
use Rattle.rdl_reach.specs.Quiet.{SaysTheSame}
use Rattle.rdl_reach.specs.EditedBodies.{lays_out}
use Rattle.rdl_reach.specs.Skeleton.{skeleton_shell, number_in, skeleton_type, skeleton_in, skeleton}
use Rattle.rdl_edit.specs.Still.{is_still, IsStillPart, IsStill, AreStill}

-- two lists of items have one skeleton, whatever is in scope
record HaveOneSkeleton (t u : Items) : Type 0 where
  are : (scope : List (List ℕ)) → skeleton_in scope t ≡ skeleton_in scope u

one : (t : Items) → HaveOneSkeleton t t
one t = record { are = λ scope. refl }

-- ---- The same item before them.

plain-on : (p : Plain) (t u : Items) → HaveOneSkeleton t u → HaveOneSkeleton (plain p t) (plain p u)
plain-on (named s y) t u h = record { are = λ scope. ap (plain (named (skeleton_shell s) (skeleton_type (number_in scope y)))) (h.are scope) }
plain-on (own p v) t u h = record { are = λ scope. ap (λ r. if lays_out p then plain (own p v) r else r) (h.are scope) }
plain-on (default p v) t u h = record { are = λ scope. ap (λ r. if lays_out p then plain (default p v) r else r) (h.are scope) }
plain-on (dynamic g p v) t u h = record { are = h.are }

holder-on : (o : Holder) (body made t u : Items) → HaveOneSkeleton body made → HaveOneSkeleton t u → HaveOneSkeleton (holder o body t) (holder o made u)
holder-on (define n k) body made t u g h = record { are = λ scope i. holder (define (length scope ∷ []) k) (g.are scope i) (h.are (n ∷ scope) i) }
holder-on (anonymous s k) body made t u g h = record { are = λ scope i. holder (anonymous (skeleton_shell s) k) (g.are scope i) (h.are scope i) }

add-on : (x : Item) (t u : Items) → HaveOneSkeleton t u → HaveOneSkeleton (add x t) (add x u)
add-on (Define n c) t u h = holder-on (define n c.kind) c.body c.body t u (one c.body) h
add-on (Instance s (Named y)) t u h = plain-on (named s y) t u h
add-on (Instance s (Anonymous c)) t u h = holder-on (anonymous s c.kind) c.body c.body t u (one c.body) h
add-on (Own p v) t u h = plain-on (own p v) t u h
add-on (Default p v) t u h = plain-on (default p v) t u h
add-on (Dynamic g p v) t u h = plain-on (dynamic g p v) t u h

append-on : (xs ys zs : List Item) → HaveOneSkeleton (items_of ys) (items_of zs) → HaveOneSkeleton (items_of (xs ++ ys)) (items_of (xs ++ zs))
append-on [] ys zs h = h
append-on (x ∷ xs) ys zs h = add-on x (items_of (xs ++ ys)) (items_of (xs ++ zs)) (append-on xs ys zs h)

-- ---- An assignment on which no layout depends.

not-true : (b : Bool) → not b ≡ true → b ≡ false
not-true true e = cc
not-true false e = refl

still-add : (x : Item) (t : Items) → is_still x ≡ true → HaveOneSkeleton (add x t) t
still-add (Define n c) t h = cc
still-add (Instance s o) t h = cc
still-add (Own p v) t h = record { are = λ scope. ap (λ b. if b then plain (own p v) (skeleton_in scope t) else skeleton_in scope t) (not-true (lays_out p) h) }
still-add (Default p v) t h = record { are = λ scope. ap (λ b. if b then plain (default p v) (skeleton_in scope t) else skeleton_in scope t) (not-true (lays_out p) h) }
still-add (Dynamic g p v) t h = record { are = λ scope. refl }

-- one skeleton is carried along equal items
carried : (t u v w : Items) → t ≡ u → HaveOneSkeleton u v → v ≡ w → HaveOneSkeleton t w
carried t u v w e h f = record { are = λ scope. ap (skeleton_in scope) e ∙ h.are scope ∙ ap (skeleton_in scope) f }

both : (t u v : Items) → HaveOneSkeleton t u → HaveOneSkeleton u v → HaveOneSkeleton t v
both t u v h g = record { are = λ scope. h.are scope ∙ g.are scope }

back : (t u : Items) → HaveOneSkeleton t u → HaveOneSkeleton u t
back t u h = record { are = λ scope. sym (h.are scope) }

still-inserted : (xs : List Item) (n : ℕ) (x : Item) → is_still x ≡ true → HaveOneSkeleton (items_of (insert xs n x)) (items_of xs)
still-inserted xs n x h =
    carried (items_of (insert xs n x)) (items_of (take n xs ++ x ∷ drop n xs)) (items_of (take n xs ++ drop n xs)) (items_of xs) refl
    (append-on (take n xs) (x ∷ drop n xs) (drop n xs) (still-add x (items_of (drop n xs)) h))
    (ap items_of (take-append-drop n xs))

still-removed : (xs : List Item) (n : ℕ) (x : Item) → slice_get xs n ≡ Some x → is_still x ≡ true → HaveOneSkeleton (items_of (remove xs n)) (items_of xs)
still-removed xs n x e h =
    carried (items_of (remove xs n)) (items_of (remove xs n)) (items_of (insert (remove xs n) n x)) (items_of xs) refl
    (back (items_of (insert (remove xs n) n x)) (items_of (remove xs n)) (still-inserted (remove xs n) n x h)) (ap items_of (insert-remove xs n x e))

-- ---- An item with another part.

-- it has the same skeleton in any place
record IsLike (x y : Item) : Type 0 where
  are : (t : Items) → HaveOneSkeleton (add y t) (add x t)

replaced : (xs : List Item) (n : ℕ) (x y : Item) → slice_get xs n ≡ Some x → IsLike x y → HaveOneSkeleton (items_of (slice_set xs n y)) (items_of xs)
replaced [] n x y e h = cc
replaced (z ∷ zs) zero x y e h =
    let same : x ≡ z = cc in
    carried (add y (items_of zs)) (add y (items_of zs)) (add x (items_of zs)) (add z (items_of zs)) refl (h.are (items_of zs)) (ap (λ w. add w (items_of zs)) same)
replaced (z ∷ zs) (suc n) x y e h = add-on z (items_of (slice_set zs n y)) (items_of zs) (replaced zs n x y e h)

same-shell : (s u : Shell) → SaysTheSame s u → skeleton_shell u ≡ skeleton_shell s
same-shell s u h = λ i. record (skeleton_shell s) { dims = sym h.dims i; range = sym h.range i; address = sym h.address i; stride = sym h.stride i; align = sym h.align i }

shell-on : (s u : Shell) (t : Items) (y : List ℕ) → SaysTheSame s u → HaveOneSkeleton (plain (named u y) t) (plain (named s y) t)
shell-on s u t y h = record { are = λ scope. ap (λ z. plain (named z (skeleton_type (number_in scope y))) (skeleton_in scope t)) (same-shell s u h) }

both-still : (x y : Item) → is_still x ≡ true → is_still y ≡ true → IsLike x y
both-still x y h g = record { are = λ t. both (add y t) t (add x t) (still-add y t g) (back (add x t) t (still-add x t h)) }

like-itself : (x : Item) → IsLike x x
like-itself x = record { are = λ t. one (add x t) }

still-part : (new : Part) (x : Item) → IsStillPart new x → IsLike x (with_part new x)
still-part (OfShell new) (Instance s (Named y)) h = record { are = λ t. shell-on s new t y h }
still-part (OfShell new) (Instance s (Anonymous c)) h =
    record { are = λ t. record { are = λ scope. ap (λ z. holder (anonymous z c.kind) (skeleton_in scope c.body) (skeleton_in scope t)) (same-shell s new h) } }
still-part (OfShell new) (Define n c) h = like-itself (Define n c)
still-part (OfShell new) (Own p v) h = like-itself (Own p v)
still-part (OfShell new) (Default p v) h = like-itself (Default p v)
still-part (OfShell new) (Dynamic g p v) h = like-itself (Dynamic g p v)
still-part (OfValue new) (Define n c) h = like-itself (Define n c)
still-part (OfValue new) (Instance s o) h = like-itself (Instance s o)
still-part (OfValue new) (Own p v) h = both-still (Own p v) (Own p new) h h
still-part (OfValue new) (Default p v) h = both-still (Default p v) (Default p new) h h
still-part (OfValue new) (Dynamic g p v) h = both-still (Dynamic g p v) (Dynamic g p new) h h
still-part (OfTarget new) (Define n c) h = like-itself (Define n c)
still-part (OfTarget new) (Instance s o) h = like-itself (Instance s o)
still-part (OfTarget new) (Own p v) h = like-itself (Own p v)
still-part (OfTarget new) (Default p v) h = like-itself (Default p v)
still-part (OfTarget new) (Dynamic g p v) h = both-still (Dynamic g p v) (Dynamic new p v) h h
still-part (OfType new) (Define n c) h = cc
still-part (OfType new) (Instance s o) h = cc
still-part (OfType new) (Own p v) h = like-itself (Own p v)
still-part (OfType new) (Default p v) h = like-itself (Default p v)
still-part (OfType new) (Dynamic g p v) h = like-itself (Dynamic g p v)
still-part (OfDefine new) (Define n c) h = cc
still-part (OfDefine new) (Instance s o) h = cc
still-part (OfDefine new) (Own p v) h = like-itself (Own p v)
still-part (OfDefine new) (Default p v) h = like-itself (Default p v)
still-part (OfDefine new) (Dynamic g p v) h = like-itself (Dynamic g p v)

-- ---- A body inside.

map-on : (i : ℕ) (f : Items → Items) (t : Items) → ((u : Items) → inner i t ≡ Some u → HaveOneSkeleton (f u) u) → HaveOneSkeleton (map_inner i f t) t
map-on i f no_items h = one no_items
map-on zero f (plain p rest) h = one (plain p rest)
map-on zero f (holder o body rest) h = holder-on o (f body) body rest rest (h body refl) (one rest)
map-on (suc i) f (plain p rest) h = plain-on p (map_inner i f rest) rest (map-on i f rest h)
map-on (suc i) f (holder o body rest) h = holder-on o body body (map_inner i f rest) rest (one body) (map-on i f rest h)

body-on : (path : List ℕ) (f : Items → Items) (t : Items) → ((u : Items) → body_at path t ≡ Some u → HaveOneSkeleton (f u) u) → HaveOneSkeleton (map_body path f t) t
body-on [] f t h = h t refl
body-on (i ∷ path) f t h = map-on i (map_body path f) t (λ u e. body-on path f u (λ v g. h v (ap (option_and_then (body_at path)) e ∙ g)))

-- ---- Patches.

-- what is done at an item that is there, and keeps the skeleton of the body that holds it, keeps that of the whole
at-item : (at : List ℕ) (t : Items) (f : Items → Items) (P : Item → Type 0) → IsSomeAnd (item_at at t) P
    → ((x : Item) (u : Items) → P x → slice_get (list_of u) (number_of at) ≡ Some x → HaveOneSkeleton (f u) (items_of (list_of u))) → HaveOneSkeleton (map_body (holder_of at) f t) t
at-item at t f P h keeps = by (item_at at t) refl h
  where
    by : (o : Option Item) → item_at at t ≡ o → IsSomeAnd o P → HaveOneSkeleton (map_body (holder_of at) f t) t
    by None is h = absurd h
    by (Some x) is h =
        body-on (holder_of at) f t (λ u e.
        carried (f u) (f u) (items_of (list_of u)) u refl (keeps x u h (lent_item at (holder_of at) (number_of at) t u x is refl refl e)) (items_of-list_of u))

still-patch : (p : Patch) (t : Items) → IsStill p t → HaveOneSkeleton (patched p t) t
still-patch (Insert at x) t h =
    body-on (holder_of at) (insert_item (number_of at) x) t (λ u e.
    carried (insert_item (number_of at) x u) (insert_item (number_of at) x u) (items_of (list_of u)) u refl (still-inserted (list_of u) (number_of at) x h) (items_of-list_of u))
still-patch (Delete at) t h = at-item at t (remove_item (number_of at)) (λ x. is_still x ≡ true) h (λ x u still is. still-removed (list_of u) (number_of at) x is still)
still-patch (Shift at to) t h =
    at-item at t (shift_item (number_of at) to) (λ x. is_still x ≡ true) h (λ x u still is.
    let out = remove (list_of u) (number_of at) in
    carried (shift_item (number_of at) to u) (items_of (insert out to x)) (items_of (list_of u)) (items_of (list_of u)) (shift_is (number_of at) to u x is)
    (both (items_of (insert out to x)) (items_of out) (items_of (list_of u)) (still-inserted out to x still) (still-removed (list_of u) (number_of at) x is still)) refl)
still-patch (Exchange at new) t h =
    at-item at t (with_part_at (number_of at) new) (IsStillPart new) h (λ x u still is.
    carried (with_part_at (number_of at) new u) (items_of (slice_set (list_of u) (number_of at) (with_part new x))) (items_of (list_of u)) (items_of (list_of u)) (exchange_is (number_of at) new u x is)
    (replaced (list_of u) (number_of at) x (with_part new x) is (still-part new x still)) refl)

still-patches : (ps : List Patch) (t : Items) → AreStill ps t → HaveOneSkeleton (image ps t) t
still-patches [] t h = one t
still-patches (p ∷ ps) t h = both (image ps (patched p t)) (patched p t) t (still-patches ps (patched p t) h.1) (still-patch p t h.0)

pub skeleton-stays : (ps : List Patch) (t : Items) → AreStill ps t → skeleton (image ps t) ≡ skeleton t
skeleton-stays ps t h = (still-patches ps t h).are []
