-- The instances of a body that isn't edited are alike, if layouts take the same of each that stayed.
use Rattle.std.proofs.Common.{◌≡◌, ℕ, suc, ◌+◌, ◌-◌, ◌<◌, ◌≤◌, Bool, true, false, not, ◌&&◌, ◌||◌, if◌then◌else◌, List, [], ◌∷◌, length, Option, Some, unwrap_or, refl, ap, ◌∙◌, arith, ◌⊎◌, inl, inr}
use Rattle.std.specs.Prelude.{slice_get}
use Rattle.std.proofs.lemmas.Bool.{cases_lt, lt-ltb, le-ltb, or_parts, and_from, not-false}
use Rattle.rdl_tree.specs.Items.{Items}
use Rattle.rdl_tree.specs.View as tree
use Rattle.rdl_tree.specs.declared.description.Item.{Item}
use Rattle.rdl_tree.specs.declared.description.Item.TheVariants.{Define, Instance, Own, Default, Dynamic}
use Rattle.rdl_tree.specs.declared.description.Of.{Of}
use Rattle.rdl_tree.specs.declared.shell.Shell.{Shell}
use Rattle.rdl_tree.proofs.Edits.{get-some}
use Rattle.rdl_marks.specs.Describes.{Describes, IsItem}
use Rattle.rdl_marks.specs.InOrder.{AreInOrder}
use Rattle.rdl_marks.specs.Marks.{Firsts, Marks}
use Rattle.rdl_marks.specs.View.{Trace, new_item, old_item, same_item, list_of}
use Rattle.rdl_marks.specs.Was.{trace_of}
use Rattle.rdl_seen.specs.Slots.{Slots}
use Rattle.rdl_renew.specs.AlikeSlots.{of_at, takes_same, says_same, is_instance, has_instance, is_told_alike, all_alike, are_alike}
use Rattle.rdl_reach.specs.EditedBodies.{is_laid_out, is_changed, any_told, any_item, is_edited}
use Rattle.rdl_reach.proofs.Follows.{laid_out_kept, unchanged_there}

-- something is told of each item
pub told_of_each : (m : Marks) (i : ℕ) → (e : Trace) × (trace_of m i ≡ Some e)
told_of_each m i = by (cases_lt i (length (list_of m.traces)))
  where
    pick : Bool → Option Trace
    pick z = if z then slice_get (list_of m.traces) i else Some (same_item (m.behind + (i - length (list_of m.traces))))

    by : ((i < length (list_of m.traces)) ⊎ (length (list_of m.traces) ≤ i)) → (e : Trace) × (trace_of m i ≡ Some e)
    by (inl l) = let e = get-some (list_of m.traces) i l in (e.0, ap pick (lt-ltb i (length (list_of m.traces)) l) ∙ e.1)
    by (inr l) = (same_item (m.behind + (i - length (list_of m.traces))), ap pick (le-ltb i (length (list_of m.traces)) l))

none_gone : (xs : List Item) → any_item is_laid_out xs ≡ false → has_instance xs ≡ false
none_gone [] e = refl
none_gone (x ∷ xs) e = let both = or_parts (is_laid_out x) (any_item is_laid_out xs) e in λ i. no_instance x both.0 i || none_gone xs both.1 i
  where
    no_instance : (x : Item) → is_laid_out x ≡ false → is_instance x ≡ false
    no_instance (Define n c) e = refl
    no_instance (Instance s o) e = absurd (let no : true ≡ false = e in cc)
    no_instance (Own p v) e = refl
    no_instance (Default p v) e = refl
    no_instance (Dynamic t p v) e = refl

module _ (m : Marks) (was now : Items) (before nows : Slots) (described : Describes m was now) (ordered : AreInOrder m) (still : is_edited m now ≡ false)
    (takes : (i n : ℕ) (f : Firsts) (inside : Marks) (s : Shell) (o : Of) → IsItem i now (Instance s o) → trace_of m i ≡ Some (old_item n f inside) → f.is_moved ≡ false
    → says_same (unwrap_or f.shell s) s ≡ true → takes_same true s (of_at n before) (of_at i nows) ≡ true) where
  one_alike : (i : ℕ) (e : Trace) (y : Item) → IsItem i now y → trace_of m i ≡ Some e → is_changed is_laid_out e y ≡ false → is_told_alike true before (of_at i nows) (Some e) y ≡ true
  one_alike i new_item (Define k c) got told h = refl
  one_alike i new_item (Instance s o) got told h = absurd (let no : true ≡ false = h in cc)
  one_alike i new_item (Own p v) got told h = refl
  one_alike i new_item (Default p v) got told h = refl
  one_alike i new_item (Dynamic t p v) got told h = refl
  one_alike i (old_item n f inside) (Define k c) got told h = refl
  one_alike i (old_item n f inside) (Instance s o) got told h =
      let says = says_same (unwrap_or f.shell s) s in
      let both = or_parts f.is_moved (not says) h in
      let same = not-false says both.1 in
      and_from (not f.is_moved && says) (takes_same true s (of_at n before) (of_at i nows)) (and_from (not f.is_moved) says (ap not both.0) same) (takes i n f inside s o got told both.0 same)
  one_alike i (old_item n f inside) (Own p v) got told h = refl
  one_alike i (old_item n f inside) (Default p v) got told h = refl
  one_alike i (old_item n f inside) (Dynamic t p v) got told h = refl

  here_alike : (i : ℕ) (y : Item) → IsItem i now y → is_told_alike true before (of_at i nows) (trace_of m i) y ≡ true
  here_alike i y got =
      let e = told_of_each m i in
      ap (λ (o : Option Trace). is_told_alike true before (of_at i nows) o y) e.1
      ∙ one_alike i e.0 y got e.1 (unchanged_there is_laid_out laid_out_kept m was now described ordered still i e.0 y got e.1)

  rest_alike : (k : ℕ) (rest : List Item) → ((i : ℕ) → slice_get (tree.list_of now) (k + i) ≡ slice_get rest i) → all_alike true m before nows k rest ≡ true
  rest_alike k [] same = refl
  rest_alike k (y ∷ ys) same =
      and_from (is_told_alike true before (of_at k nows) (trace_of m k) y) (all_alike true m before nows (suc k) ys)
      (here_alike k y (ap (slice_get (tree.list_of now)) (let e : k ≡ k + 0 = omega arith in e) ∙ same 0))
      (rest_alike (suc k) ys (λ i. ap (slice_get (tree.list_of now)) (let e : suc k + i ≡ k + suc i = omega arith in e) ∙ same (suc i)))

  pub bodies_alike : are_alike true m before nows now ≡ true
  bodies_alike =
      let both = or_parts (any_told (is_changed is_laid_out) (list_of m.traces) (tree.list_of now)) (any_item is_laid_out (tree.list_of m.items)) still in
      and_from (not (has_instance (tree.list_of m.items))) (all_alike true m before nows 0 (tree.list_of now)) (ap not (none_gone (tree.list_of m.items) both.1))
      (rest_alike 0 (tree.list_of now) (λ i. ap (slice_get (tree.list_of now)) (let e : 0 + i ≡ i = omega arith in e)))
