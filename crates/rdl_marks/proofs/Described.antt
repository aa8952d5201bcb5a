-- Marks go on describing what becomes of a body, patch by patch.
use Rattle.std.proofs.Common.{◌≡◌, ℕ, ◌+◌, ◌<◌, ◌≤◌, length, List, [], ◌∷◌, ◌++◌, Option, Some, None, IsTrue, true, cond, refl, ap, sym, ◌∙◌, arith, subst, nat_le, length-append}
use Rattle.std.specs.Prelude.{remove, slice_get, option_and_then}
use Rattle.std.proofs.lemmas.Bool.{and_parts, le-leb, leb-true}
use Rattle.std.proofs.lemmas.List.Edits.{length-remove}
use Rattle.rdl_tree.specs.Items.{Items}
use Rattle.rdl_tree.specs.View as tree
use Rattle.rdl_tree.specs.Address.{holder_of, number_of, inner, map_inner, body_at, map_body}
use Rattle.rdl_tree.specs.ItemAt.{item_at}
use Rattle.rdl_tree.specs.Edit.{insert_item, remove_item, shift_item}
use Rattle.rdl_tree.specs.Part.{has_part, part_of, with_part, with_part_at}
use Rattle.rdl_tree.specs.Patch.{address_of, patched, image, fits, AllFit, inverse, inverses, insert_again, exchange_again}
use Rattle.rdl_tree.specs.declared.description.Item.{Item}
use Rattle.rdl_tree.specs.declared.part.Part.{Part}
use Rattle.rdl_tree.specs.declared.patch.Patch.{Patch}
use Rattle.rdl_tree.specs.declared.patch.Patch.TheVariants.{Insert, Delete, Shift, Exchange}
use Rattle.rdl_tree.proofs.Edits.{get-some, get-within}
use Rattle.rdl_tree.proofs.Places.{stands, the_item, holder-place, number-place}
use Rattle.rdl_tree.proofs.Undone.{place_in, item_in, part_in, shift_is, exchange_is, undoes}
use Rattle.rdl_tree.proofs.Rounds as tree_rounds
use Rattle.rdl_marks.specs.Marks.{Marks, no_marks}
use Rattle.rdl_marks.specs.View.{Trace, new_item, Told, marks_of, told_of}
use Rattle.rdl_marks.specs.Noted.{exchanged, moved, changed_inside, reach, put_in, take_out, gone_as, told_at, taken_out_as, moved_to, at_item, here, marks_at, noted, all_noted}
use Rattle.rdl_marks.specs.Describes.{Describes}
use Rattle.rdl_marks.proofs.Times.{none_once}
use Rattle.rdl_marks.proofs.From.{new_from, get_from}
use Rattle.rdl_marks.proofs.Tells.{Tells, Keep, to_lists, from_lists, moved_from, moved_times, exchanged_from, exchanged_times, reach_length, reach_tells, put_in_tells, take_out_tells, gone_tells, set_tells, inside_tells, inner_within}

pub nothing_changed : (t : Items) → Describes no_marks t t
nothing_changed t = record { items = refl; gone = refl; once = none_once }

-- ---- One patch, in the body of its item.

insert_here : (at : List ℕ) (n : ℕ) (x : Item) (m : Marks) (old d : Items) → n ≤ length (tree.list_of d) → Describes m old d → Describes (here (Delete at) n m) old (insert_item n x d)
insert_here at n x m old d h k =
    let all = reach_tells n (told_of m) old (tree.list_of d) _ h (to_lists m old d k) in
    from_lists (put_in n new_item (reach n (told_of m))) old _
    (put_in_tells n new_item x (reach n (told_of m)) old (tree.list_of d) _ (reach_length n (told_of m)) (new_from old x) (λ n. refl) all)

-- the item of a number, as it is told of
pub record IsTold (n : ℕ) (m : Marks) (old d : Items) : Type 0 where
  pub trace : Trace
  pub found : slice_get (reach (n + 1) (told_of m)).traces n ≡ Some trace
  pub within : n < length (reach (n + 1) (told_of m)).traces
  pub all : Tells (reach (n + 1) (told_of m)) old (tree.list_of d) (λ k. 0)

the_trace_of : (n : ℕ) (m : Marks) (old d : Items) → n < length (tree.list_of d) → Describes m old d → IsTold n m old d
the_trace_of n m old d h k =
    let long : n < length (reach (n + 1) (told_of m)).traces = omega (arith, reach_length (n + 1) (told_of m)) in
    let e = get-some (reach (n + 1) (told_of m)).traces n long in record {
      trace = e.0;
      found = e.1;
      within = long;
      all = reach_tells (n + 1) (told_of m) old (tree.list_of d) _ (omega (arith, h)) (to_lists m old d k);
    }

delete_here : (at : List ℕ) (n : ℕ) (x : Item) (m : Marks) (old d : Items) → slice_get (tree.list_of d) n ≡ Some x → Describes m old d → Describes (here (Insert at x) n m) old (remove_item n d)
delete_here at n x m old d h k =
    let s = the_trace_of n m old d (get-within (tree.list_of d) n x h) k in
    let all : Told = reach (n + 1) (told_of m) in
    let from = get_from old n s.trace all.traces _ x (tree.list_of d) s.found h s.all.items in
    subst (λ o. Describes (marks_of (taken_out_as n x o all)) old (remove_item n d)) (sym s.found)
    (from_lists (gone_as x s.trace (take_out n all)) old (remove (tree.list_of d) n)
    (gone_tells s.trace x (take_out n all) old (remove (tree.list_of d) n) from (take_out_tells n s.trace all old (tree.list_of d) s.within s.found s.all)))

shift_here : (at : List ℕ) (from to : ℕ) (x : Item) (m : Marks) (old d : Items) → slice_get (tree.list_of d) from ≡ Some x → to < length (tree.list_of d) → Describes m old d → Describes (here (Shift at from) to m) old (shift_item from to d)
shift_here at from to x m old d h l k =
    let s = the_trace_of from m old d (get-within (tree.list_of d) from x h) k in
    let all : Told = reach (from + 1) (told_of m) in
    let left : Told = take_out from all in
    let so = moved_from old s.trace x (get_from old from s.trace all.traces _ x (tree.list_of d) s.found h s.all.items) in
    let short : to ≤ length (remove (tree.list_of d) from) = omega (arith, length-remove (tree.list_of d) from (get-within (tree.list_of d) from x h), l) in
    let rest = reach_tells to left old (remove (tree.list_of d) from) _ short (take_out_tells from s.trace all old (tree.list_of d) s.within s.found s.all) in
    subst (λ o. Describes (marks_of (moved_to from to o all)) old (shift_item from to d)) (sym s.found)
    (subst (Describes (marks_of (put_in to (moved s.trace) (reach to left))) old) (sym (shift_is from to d x h))
    (from_lists (put_in to (moved s.trace) (reach to left)) old _
    (put_in_tells to (moved s.trace) x (reach to left) old (remove (tree.list_of d) from) _ (reach_length to left) so (λ n. moved_times n s.trace) rest)))

exchange_here : (at : List ℕ) (n : ℕ) (part : Part) (x : Item) (m : Marks) (old d : Items) → slice_get (tree.list_of d) n ≡ Some x → IsTrue (has_part part x) → Describes m old d → Describes (here (Exchange at (part_of part x)) n m) old (with_part_at n part d)
exchange_here at n part x m old d h p k =
    let s = the_trace_of n m old d (get-within (tree.list_of d) n x h) k in
    let all : Told = reach (n + 1) (told_of m) in
    let so = exchanged_from old part s.trace x p (get_from old n s.trace all.traces _ x (tree.list_of d) s.found h s.all.items) in
    subst (λ o. Describes (marks_of (told_at n (exchanged (part_of part x)) o all)) old (with_part_at n part d)) (sym s.found)
    (subst (Describes (marks_of (told_at n (exchanged (part_of part x)) (Some s.trace) all)) old) (sym (exchange_is n part d x h))
    (from_lists (told_at n (exchanged (part_of part x)) (Some s.trace) all) old _
    (set_tells n (exchanged (part_of part x)) s.trace (with_part part x) all old (tree.list_of d) s.within s.found so (λ n. exchanged_times n (part_of part x) s.trace) s.all)))

inside_here : (i : ℕ) (f : Marks → Marks) (F : Items → Items) (m : Marks) (old t d : Items) → inner i t ≡ Some d → Keep f F d → Describes m old t → Describes (marks_of (at_item i (changed_inside f) (told_of m))) old (map_inner i F t)
inside_here i f F m old t d h g k =
    let s = the_trace_of i m old t (inner_within i t d h) k in
    let all : Told = reach (i + 1) (told_of m) in
    subst (λ o. Describes (marks_of (told_at i (changed_inside f) o all)) old (map_inner i F t)) (sym s.found)
    (subst (Describes (marks_of (told_at i (changed_inside f) (Some s.trace) all)) old) (tree_rounds.items_of-list_of (map_inner i F t))
    (from_lists (told_at i (changed_inside f) (Some s.trace) all) old _ (inside_tells i s.trace f F all old t d s.found h g s.all)))

-- ---- Along a way.

next_body : (way : List ℕ) (b : Items) (o : Option Items) → option_and_then (body_at way) o ≡ Some b → (d : Items) × (o ≡ Some d) × (body_at way d ≡ Some b)
next_body way b None e = cc
next_body way b (Some d) e = (d, refl, e)

carried : (way : List ℕ) (f : Marks → Marks) (F : Items → Items) (m : Marks) (old t b : Items) → body_at way t ≡ Some b → Keep f F b → Describes m old t → Describes (marks_at way f m) old (map_body way F t)
carried [] f F m old t b e k h =
    let same : t ≡ b = cc in
    subst (λ u. Describes (f m) old (F u)) (sym same) (k old m (subst (Describes m old) same h))
carried (i ∷ way) f F m old t b e k h =
    let d = next_body way b (inner i t) e in
    inside_here i (marks_at way f) (map_body way F) m old t d.0 d.1 (λ o c g. carried way f F c o d.0 b d.2 k g) h

-- ---- Patches that fit.

-- the marks that a patch leads to, by the address of its inverse
led : (back : Patch) (at way : List ℕ) (n : ℕ) (F : Items → Items) (m : Marks) (old t b : Items) → address_of back ≡ at → 0 < length at → holder_of at ≡ way → number_of at ≡ n → body_at way t ≡ Some b → Keep (here back n) F b → Describes m old t → Describes (noted back m) old (map_body way F t)
led back at way n F m old t b e l w i g k h =
    let some : nat_le 1 (length (address_of back)) ≡ true = le-leb 1 (length (address_of back)) (omega (arith, ap length e, l)) in
    subst (λ c. Describes (cond c (marks_at (holder_of (address_of back)) (here back (number_of (address_of back))) m) m) old (map_body way F t)) (sym some)
    (subst (λ a. Describes (marks_at (holder_of a) (here back (number_of a)) m) old (map_body way F t)) (sym e)
    (subst (λ p. Describes (marks_at p (here back (number_of at)) m) old (map_body way F t)) (sym w)
    (subst (λ j. Describes (marks_at way (here back j) m) old (map_body way F t)) (sym i) (carried way (here back n) F m old t b g k h))))

same_patch : (p q : Patch) → p ∷ [] ≡ q ∷ [] → p ≡ q
same_patch p q e = cc

pub one_described : (p back : Patch) (m : Marks) (old t : Items) → IsTrue (fits p t) → inverse p t ≡ back ∷ [] → Describes m old t → Describes (noted back m) old (patched p t)
one_described (Insert at x) back m old t h e k =
    let parts = and_parts _ _ h in
    let b = place_in (number_of at) (body_at (holder_of at) t) parts.1 in
    let one : 0 < length at = omega (arith, leb-true 1 (length at) (and_parts _ _ parts.0).0) in
    subst (λ q. Describes (noted q m) old (patched (Insert at x) t)) (same_patch (Delete at) back e)
    (led (Delete at) at (holder_of at) (number_of at) (insert_item (number_of at) x) m old t b.body refl one refl refl b.held (λ o c g. insert_here at (number_of at) x c o b.body b.within g) k)
one_described (Delete at) back m old t h e k =
    let x = the_item (item_at at t) h in
    let s = stands at t x.0 x.1 in
    let same : Insert at x.0 ≡ back = same_patch (Insert at x.0) back (sym (ap (insert_again at) x.1) ∙ e) in
    subst (λ q. Describes (noted q m) old (patched (Delete at) t)) same
    (led (Insert at x.0) at (holder_of at) (number_of at) (remove_item (number_of at)) m old t s.body refl s.within refl refl s.held (λ o c g. delete_here at (number_of at) x.0 c o s.body s.found g) k)
one_described (Shift at to) back m old t h e k =
    let parts = and_parts _ _ h in
    let x = the_item (item_at at t) parts.0 in
    let s = stands at t x.0 x.1 in
    let d = item_in to (body_at (holder_of at) t) parts.1 in
    let same : d.body ≡ s.body = (let whole : Some d.body ≡ Some s.body = sym d.held ∙ s.held in cc) in
    let low : to < length (tree.list_of s.body) = omega (arith, d.within, ap (λ b. length (tree.list_of b)) same) in
    let n : ℕ = number_of at in
    let new : List ℕ = holder_of at ++ to ∷ [] in
    subst (λ q. Describes (noted q m) old (patched (Shift at to) t)) (same_patch (Shift new n) back e)
    (led (Shift new n) new (holder_of at) to (shift_item n to) m old t s.body refl (omega (arith, length-append (holder_of at) (to ∷ []))) (holder-place (holder_of at) to) (number-place (holder_of at) to) s.held (λ o c g. shift_here new n to x.0 c o s.body s.found low g) k)
one_described (Exchange at part) back m old t h e k =
    let x = part_in part (item_at at t) h in
    let s = stands at t x.0 x.1 in
    let same : Exchange at (part_of part x.0) ≡ back = same_patch (Exchange at (part_of part x.0)) back (sym (ap (exchange_again at part) x.1) ∙ e) in
    subst (λ q. Describes (noted q m) old (patched (Exchange at part) t)) same
    (led (Exchange at (part_of part x.0)) at (holder_of at) (number_of at) (with_part_at (number_of at) part) m old t s.body refl s.within refl refl s.held (λ o c g. exchange_here at (number_of at) part x.0 c o s.body s.found x.2 g) k)

all_noted-append : (ps : List Patch) (q : Patch) (m : Marks) → all_noted (ps ++ q ∷ []) m ≡ all_noted ps (noted q m)
all_noted-append [] q m = refl
all_noted-append (p ∷ ps) q m = ap (noted p) (all_noted-append ps q m)

pub all_described : (ps : List Patch) (m : Marks) (old t : Items) → AllFit ps t → Describes m old t → Describes (all_noted (inverses ps t) m) old (image ps t)
all_described [] m old t h k = k
all_described (p ∷ ps) m old t h k =
    let q = undoes p t h.0 in
    let first = one_described p q.0 m old t h.0 q.1.is_inverse k in
    let then = all_described ps (noted q.0 m) old (patched p t) h.1 first in
    let same : all_noted (inverses ps (patched p t) ++ inverse p t) m ≡ all_noted (inverses ps (patched p t)) (noted q.0 m) =
    ap (λ b. all_noted (inverses ps (patched p t) ++ b) m) q.1.is_inverse ∙ all_noted-append (inverses ps (patched p t)) q.0 m in
    subst (λ n. Describes n old (image ps (patched p t))) (sym same) then
