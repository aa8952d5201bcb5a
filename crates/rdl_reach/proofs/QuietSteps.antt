-- Behind quiet patches no body is edited.
use Rattle.std.proofs.Common.{◌≡◌, ℕ, ◌<◌, true, length, List, [], ◌∷◌, ◌++◌, Option, Some, None, IsTrue, cond, refl, ap, sym, ◌∙◌, arith, subst, nat_le, length-append}
use Rattle.std.specs.Prelude.{IsSomeAnd, option_and_then}
use Rattle.std.proofs.lemmas.Bool.{and_parts, le-leb, leb-true}
use Rattle.rdl_tree.specs.Items.{Items}
use Rattle.rdl_tree.specs.View as tree
use Rattle.rdl_tree.specs.Address.{holder_of, number_of, inner, body_at, map_body}
use Rattle.rdl_tree.specs.ItemAt.{item_at}
use Rattle.rdl_tree.specs.Edit.{insert_item, remove_item, shift_item}
use Rattle.rdl_tree.specs.Part.{part_of, with_part_at}
use Rattle.rdl_tree.specs.Patch.{address_of, patched, image, fits, AllFit, inverse, inverses, insert_again, exchange_again}
use Rattle.rdl_tree.specs.declared.description.Item.{Item}
use Rattle.rdl_tree.specs.declared.patch.Patch.{Patch}
use Rattle.rdl_tree.specs.declared.patch.Patch.TheVariants.{Insert, Delete, Shift, Exchange}
use Rattle.rdl_tree.proofs.Places.{stands, the_item, holder-place, number-place}
use Rattle.rdl_tree.proofs.Undone.{place_in, item_in, part_in, undoes}
use Rattle.rdl_marks.specs.Marks.{Marks}
use Rattle.rdl_marks.specs.Noted.{here, marks_at, noted, all_noted}
use Rattle.rdl_reach.specs.Quiet.{is_quiet, IsQuietPart, IsQuiet, AreQuiet}
use Rattle.rdl_reach.specs.QuietMarks.{AreQuietMarks}
use Rattle.rdl_reach.proofs.QuietBodies.{StaysSo, insert_here, delete_here, shift_here, exchange_here, inside_here}

-- ---- Along a way.

next_body : (way : List ℕ) (b : Items) (o : Option Items) → option_and_then (body_at way) o ≡ Some b → (d : Items) × (o ≡ Some d) × (body_at way d ≡ Some b)
next_body way b None e = cc
next_body way b (Some d) e = (d, refl, e)

carried : (way : List ℕ) (f : Marks → Marks) (F : Items → Items) (m : Marks) (t b : Items) → body_at way t ≡ Some b → StaysSo f F b → AreQuietMarks m t → AreQuietMarks (marks_at way f m) (map_body way F t)
carried [] f F m t b e k h =
    let same : t ≡ b = cc in
    subst (λ u. AreQuietMarks (f m) (F u)) (sym same) (k m (subst (AreQuietMarks m) same h))
carried (i ∷ way) f F m t b e k h =
    let d = next_body way b (inner i t) e in
    inside_here i (marks_at way f) (map_body way F) m t d.0 d.1 (λ c g. carried way f F c d.0 b d.2 k g) h

-- ---- Patches that fit.

led : (back : Patch) (at way : List ℕ) (n : ℕ) (F : Items → Items) (m : Marks) (t b : Items) → address_of back ≡ at → 0 < length at → holder_of at ≡ way → number_of at ≡ n → body_at way t ≡ Some b → StaysSo (here back n) F b → AreQuietMarks m t
    → AreQuietMarks (noted back m) (map_body way F t)
led back at way n F m t b e l w i g k h =
    let some : nat_le 1 (length (address_of back)) ≡ true = le-leb 1 (length (address_of back)) (omega (arith, ap length e, l)) in
    subst (λ c. AreQuietMarks (cond c (marks_at (holder_of (address_of back)) (here back (number_of (address_of back))) m) m) (map_body way F t)) (sym some)
    (subst (λ a. AreQuietMarks (marks_at (holder_of a) (here back (number_of a)) m) (map_body way F t)) (sym e)
    (subst (λ p. AreQuietMarks (marks_at p (here back (number_of at)) m) (map_body way F t)) (sym w)
    (subst (λ j. AreQuietMarks (marks_at way (here back j) m) (map_body way F t)) (sym i) (carried way (here back n) F m t b g k h))))

same_patch : (p q : Patch) → p ∷ [] ≡ q ∷ [] → p ≡ q
same_patch p q e = cc

-- what is asked of an item that is there
of-item : (P : Item → Type 0) (o : Option Item) (x : Item) → o ≡ Some x → IsSomeAnd o P → P x
of-item P o x e h = subst (λ r. IsSomeAnd r P) e h

one_quiet : (p back : Patch) (m : Marks) (t : Items) → IsTrue (fits p t) → inverse p t ≡ back ∷ [] → IsQuiet p t → AreQuietMarks m t → AreQuietMarks (noted back m) (patched p t)
one_quiet (Insert at x) back m t h e q k =
    let parts = and_parts _ _ h in
    let b = place_in (number_of at) (body_at (holder_of at) t) parts.1 in
    let one : 0 < length at = omega (arith, leb-true 1 (length at) (and_parts _ _ parts.0).0) in
    subst (λ r. AreQuietMarks (noted r m) (patched (Insert at x) t)) (same_patch (Delete at) back e)
    (led (Delete at) at (holder_of at) (number_of at) (insert_item (number_of at) x) m t b.body refl one refl refl b.held (λ c g. insert_here at (number_of at) x c b.body b.within q g) k)
one_quiet (Delete at) back m t h e q k =
    let x = the_item (item_at at t) h in
    let s = stands at t x.0 x.1 in
    let same : Insert at x.0 ≡ back = same_patch (Insert at x.0) back (sym (ap (insert_again at) x.1) ∙ e) in
    subst (λ r. AreQuietMarks (noted r m) (patched (Delete at) t)) same
    (led (Insert at x.0) at (holder_of at) (number_of at) (remove_item (number_of at)) m t s.body refl s.within refl refl s.held
    (λ c g. delete_here at (number_of at) x.0 c s.body s.found (of-item (λ y. is_quiet y ≡ true) (item_at at t) x.0 x.1 q) g) k)
one_quiet (Shift at to) back m t h e q k =
    let parts = and_parts _ _ h in
    let x = the_item (item_at at t) parts.0 in
    let s = stands at t x.0 x.1 in
    let d = item_in to (body_at (holder_of at) t) parts.1 in
    let same : d.body ≡ s.body = (let whole : Some d.body ≡ Some s.body = sym d.held ∙ s.held in cc) in
    let low : to < length (tree.list_of s.body) = omega (arith, d.within, ap (λ b. length (tree.list_of b)) same) in
    let n : ℕ = number_of at in
    let new : List ℕ = holder_of at ++ to ∷ [] in
    subst (λ r. AreQuietMarks (noted r m) (patched (Shift at to) t)) (same_patch (Shift new n) back e)
    (led (Shift new n) new (holder_of at) to (shift_item n to) m t s.body refl (omega (arith, length-append (holder_of at) (to ∷ []))) (holder-place (holder_of at) to) (number-place (holder_of at) to) s.held
    (λ c g. shift_here new n to x.0 c s.body s.found low (of-item (λ y. is_quiet y ≡ true) (item_at at t) x.0 x.1 q) g) k)
one_quiet (Exchange at part) back m t h e q k =
    let x = part_in part (item_at at t) h in
    let s = stands at t x.0 x.1 in
    let same : Exchange at (part_of part x.0) ≡ back = same_patch (Exchange at (part_of part x.0)) back (sym (ap (exchange_again at part) x.1) ∙ e) in
    subst (λ r. AreQuietMarks (noted r m) (patched (Exchange at part) t)) same
    (led (Exchange at (part_of part x.0)) at (holder_of at) (number_of at) (with_part_at (number_of at) part) m t s.body refl s.within refl refl s.held
    (λ c g. exchange_here at (number_of at) part x.0 c s.body s.found x.2 (of-item (IsQuietPart part) (item_at at t) x.0 x.1 q) g) k)

all_noted-append : (ps : List Patch) (q : Patch) (m : Marks) → all_noted (ps ++ q ∷ []) m ≡ all_noted ps (noted q m)
all_noted-append [] q m = refl
all_noted-append (p ∷ ps) q m = ap (noted p) (all_noted-append ps q m)

pub all_quiet : (ps : List Patch) (m : Marks) (t : Items) → AllFit ps t → AreQuiet ps t → AreQuietMarks m t → AreQuietMarks (all_noted (inverses ps t) m) (image ps t)
all_quiet [] m t h q k = k
all_quiet (p ∷ ps) m t h q k =
    let r = undoes p t h.0 in
    let first = one_quiet p r.0 m t h.0 r.1.is_inverse q.0 k in
    let then = all_quiet ps (noted r.0 m) (patched p t) h.1 q.1 first in
    let same : all_noted (inverses ps (patched p t) ++ inverse p t) m ≡ all_noted (inverses ps (patched p t)) (noted r.0 m) =
    ap (λ b. all_noted (inverses ps (patched p t) ++ b) m) r.1.is_inverse ∙ all_noted-append (inverses ps (patched p t)) r.0 m in
    subst (λ n. AreQuietMarks n (image ps (patched p t))) (sym same) then
