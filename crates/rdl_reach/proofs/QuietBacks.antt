-- What takes quiet patches back is quiet.
use Rattle.std.proofs.Common.{◌≡◌, ℕ, ◌<◌, true, length, List, [], ◌∷◌, ◌++◌, Option, Some, None, IsTrue, refl, ap, sym, ◌∙◌, arith, subst, length-append}
use Rattle.std.specs.Prelude.{IsSomeAnd, slice_get}
use Rattle.std.proofs.lemmas.Bool.{and_parts}
use Rattle.rdl_tree.specs.Items.{Items}
use Rattle.rdl_tree.specs.View as tree
use Rattle.rdl_tree.specs.Address.{holder_of, number_of, body_at}
use Rattle.rdl_tree.specs.ItemAt.{item_at}
use Rattle.rdl_tree.specs.Edit.{shift_item}
use Rattle.rdl_tree.specs.Part.{has_part, part_of, with_part, with_part_at}
use Rattle.rdl_tree.specs.Patch.{patched, image, fits, AllFit, has_item, length_of, insert_again, exchange_again, inverse, inverses}
use Rattle.rdl_tree.specs.declared.description.Item.{Item}
use Rattle.rdl_tree.specs.declared.description.Item.TheVariants.{Define, Instance, Own, Default, Dynamic}
use Rattle.rdl_tree.specs.declared.description.Of.TheVariants.{Named}
use Rattle.rdl_tree.specs.declared.part.Part.{Part}
use Rattle.rdl_tree.specs.declared.part.Part.TheVariants.{OfShell, OfValue, OfTarget, OfType, OfDefine}
use Rattle.rdl_tree.specs.declared.patch.Patch.{Patch}
use Rattle.rdl_tree.specs.declared.patch.Patch.TheVariants.{Insert, Delete, Shift, Exchange}
use Rattle.rdl_tree.proofs.Patching.{image-inverses}
use Rattle.rdl_tree.proofs.Places.{stands, found_at, the_item, body_at-map, holder-place, number-place}
use Rattle.rdl_tree.proofs.Undone.{exchange-found, shift-found, item_in, part_in, undoes_by}
use Rattle.rdl_reach.specs.Quiet.{is_quiet, IsQuietPart, IsQuiet, AreQuiet}

-- ---- What a patch leaves there.

inserted-there : (at : List ℕ) (x : Item) (t : Items) → IsTrue (fits (Insert at x) t) → item_at at (patched (Insert at x) t) ≡ Some x
inserted-there at x t fit = by (item_at at (patched (Insert at x) t)) (undoes_by (Insert at x) (Delete at) t fit refl).again
  where
    by : (o : Option Item) → insert_again at o ≡ Insert at x ∷ [] → o ≡ Some x
    by None e = cc
    by (Some y) e = cc

moved-there : (at : List ℕ) (to : ℕ) (x : Item) (t : Items) → item_at at t ≡ Some x → IsTrue (has_item to (length_of (body_at (holder_of at) t))) → item_at (holder_of at ++ to ∷ []) (patched (Shift at to) t) ≡ Some x
moved-there at to x t e h =
    let s = stands at t x e in
    let d = item_in to (body_at (holder_of at) t) h in
    let same : d.body ≡ s.body = (let whole : Some d.body ≡ Some s.body = sym d.held ∙ s.held in cc) in
    let low : to < length (tree.list_of s.body) = omega (arith, d.within, ap (λ b. length (tree.list_of b)) same) in
    let n = number_of at in
    let p = holder_of at in
    let now = patched (Shift at to) t in
    let held = ap (λ q. body_at q now) (holder-place p to) ∙ body_at-map p (shift_item n to) t s.body s.held in
    let there = ap (λ m. slice_get (tree.list_of (shift_item n to s.body)) m) (number-place p to) ∙ shift-found n to s.body x s.found low in
    found_at (p ++ to ∷ []) now (shift_item n to s.body) x (omega (arith, length-append p (to ∷ []))) held there

exchanged-there : (at : List ℕ) (part : Part) (x : Item) (t : Items) → item_at at t ≡ Some x → item_at at (patched (Exchange at part) t) ≡ Some (with_part part x)
exchanged-there at part x t e =
    let s = stands at t x e in
    let n = number_of at in
    let p = holder_of at in
    found_at at (patched (Exchange at part) t) (with_part_at n part s.body) (with_part part x) s.within (body_at-map p (with_part_at n part) t s.body s.held) (exchange-found n part s.body x s.found)

-- ---- What takes one patch back.

part-back : (part : Part) (x : Item) → IsTrue (has_part part x) → IsQuietPart part x → IsQuietPart (part_of part x) (with_part part x)
part-back (OfShell new) (Instance s o) h q = record { dims = sym q.dims; range = sym q.range; address = sym q.address; stride = sym q.stride; align = sym q.align }
part-back (OfValue new) (Own p v) h q = q
part-back (OfValue new) (Default p v) h q = q
part-back (OfValue new) (Dynamic t p v) h q = q
part-back (OfTarget new) (Dynamic t p v) h q = q
part-back (OfType new) (Instance s (Named t)) h q = tt
part-back (OfDefine new) (Define n c) h q = tt
part-back part x h q = cc

one-back : (p : Patch) (t : Items) → IsTrue (fits p t) → IsQuiet p t → AreQuiet (inverse p t) (patched p t)
one-back (Insert at x) t fit q = (subst (λ o. IsSomeAnd o (λ y. is_quiet y ≡ true)) (sym (inserted-there at x t fit)) q, tt)
one-back (Delete at) t fit q = by (item_at at t) q
  where
    by : (o : Option Item) → IsSomeAnd o (λ y. is_quiet y ≡ true) → AreQuiet (insert_again at o) (patched (Delete at) t)
    by None h = tt
    by (Some x) h = (h, tt)
one-back (Shift at to) t fit q =
    let parts = and_parts _ _ fit in
    let x = the_item (item_at at t) parts.0 in
    let quiet : is_quiet x.0 ≡ true = subst (λ o. IsSomeAnd o (λ y. is_quiet y ≡ true)) x.1 q in
    (subst (λ o. IsSomeAnd o (λ y. is_quiet y ≡ true)) (sym (moved-there at to x.0 t x.1 parts.1)) quiet, tt)
one-back (Exchange at part) t fit q =
    let x = part_in part (item_at at t) fit in
    let new = patched (Exchange at part) t in
    let quiet : IsQuietPart part x.0 = subst (λ o. IsSomeAnd o (IsQuietPart part)) x.1 q in
    let again : IsQuiet (Exchange at (part_of part x.0)) new = subst (λ o. IsSomeAnd o (IsQuietPart (part_of part x.0))) (sym (exchanged-there at part x.0 t x.1)) (part-back part x.0 x.2 quiet) in
    subst (λ o. AreQuiet (exchange_again at part o) new) (sym x.1) (again, tt)

-- ---- What takes them all back.

pub quiet-append : (ps qs : List Patch) (t : Items) → AreQuiet ps t → AreQuiet qs (image ps t) → AreQuiet (ps ++ qs) t
quiet-append [] qs t h k = k
quiet-append (p ∷ ps) qs t h k = (h.0, quiet-append ps qs (patched p t) h.1 k)

pub quiet-back : (ps : List Patch) (t : Items) → AllFit ps t → AreQuiet ps t → AreQuiet (inverses ps t) (image ps t)
quiet-back [] t fit q = tt
quiet-back (p ∷ ps) t fit q =
    quiet-append (inverses ps (patched p t)) (inverse p t) (image ps (patched p t)) (quiet-back ps (patched p t) fit.1 q.1)
    (subst (AreQuiet (inverse p t)) (sym (image-inverses ps (patched p t) fit.1)) (one-back p t fit.0 q.0))
