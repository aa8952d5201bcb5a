-- Where no default of a property on which layouts depend came, went, was moved or was set, the same is stated of it before each item that
-- stayed; and so by the assignments of a body, where none did.
use Rattle.std.proofs.Common.{◌≡◌, ℕ, ◌≤◌, arith, Bool, true, false, not, ◌&&◌, if◌then◌else◌, List, length, Option, Some, None, unwrap_or, refl, sym, ap, ◌∙◌}
use Rattle.std.specs.Prelude.{slice_get, bytes_eq, is_some}
use Rattle.std.specs.Option.{option_or}
use Rattle.std.proofs.lemmas.Slice.Eq.{bytes_eq-Decides}
use Rattle.rdl_tree.specs.Items.{Items}
use Rattle.rdl_tree.specs.View as tree
use Rattle.rdl_tree.specs.declared.description.Item.{Item}
use Rattle.rdl_tree.specs.declared.description.Item.TheVariants.{Define, Instance, Own, Default, Dynamic}
use Rattle.rdl_tree.specs.declared.description.Of.TheVariants.{Named, Anonymous}
use Rattle.rdl_tree.specs.declared.value.Value.{Value}
use Rattle.rdl_scope.specs.Value.{own_value, own_before, last_default}
use Rattle.rdl_scope.specs.Walk.{owned_by, defaulted_by}
use Rattle.rdl_scope.proofs.ValueSearches.{own-suc, own-all, default-suc}
use Rattle.rdl_marks.specs.Describes.{Describes, IsItem, restored}
use Rattle.rdl_marks.specs.InOrder.{AreInOrder}
use Rattle.rdl_marks.specs.Marks.{Firsts, Marks}
use Rattle.rdl_marks.specs.View.{old_item}
use Rattle.rdl_marks.specs.Was.{trace_of}
use Rattle.rdl_marks.proofs.From.{IsFrom}
use Rattle.rdl_reach.specs.EditedBodies.{lays_out, is_laid_out, is_layout_default, is_set, is_edited, sets_default}
use Rattle.rdl_renew.specs.Raised.{is_absent, brings_the_same}
use Rattle.rdl_reach.proofs.Follows.{same_there, laid_out_kept, layout_default_kept, Follows, at_the_end, before_each}

-- an item brought the same value, if it brings the same
same_value : (f : Firsts) (v : Value) → not (brings_the_same f) ≡ false → unwrap_or f.value v ≡ v
same_value f v e = by f.value e
  where
    by : (o : Option Value) → not (not f.is_moved && is_absent f.defined && is_absent o) ≡ false → unwrap_or o v ≡ v
    by None e = refl
    by (Some w) e = some (not f.is_moved && is_absent f.defined) e
      where
        some : (b : Bool) → not (b && false) ≡ false → w ≡ v
        some true e = absurd (let no : true ≡ false = e in cc)
        some false e = absurd (let no : true ≡ false = e in cc)

pub unset_value : (o : Option Value) (v : Value) → is_some o ≡ false → unwrap_or o v ≡ v
unset_value None v e = refl
unset_value (Some w) v e = absurd (let no : true ≡ false = e in cc)

module _ (p : List ℕ) (lays : lays_out p ≡ true) where
  -- an assignment of another property states nothing of this one
  other : (q : List ℕ) (v : Value) → lays_out q ≡ false → (if bytes_eq q p then Some v else None) ≡ None
  other q v e = by (bytes_eq q p) refl
    where
      by : (b : Bool) → bytes_eq q p ≡ b → (if b then Some v else None) ≡ None
      by true same =
          let is : q ≡ p = (bytes_eq-Decides q p).0 same in
          let no : true ≡ false = sym lays ∙ ap lays_out (sym is) ∙ e in
          cc
      by false same = refl

  no_default : (k : ℕ) (t : Items) → ((z : Item) → IsItem k t z → is_layout_default z ≡ false) → defaulted_by p (slice_get (tree.list_of t) k) ≡ None
  no_default k t none = by (slice_get (tree.list_of t) k) none
    where
      by : (o : Option Item) → ((z : Item) → o ≡ Some z → is_layout_default z ≡ false) → defaulted_by p o ≡ None
      by None none = refl
      by (Some (Define n c)) none = refl
      by (Some (Instance s of)) none = refl
      by (Some (Own q v)) none = refl
      by (Some (Default q v)) none = other q v (none (Default q v) refl)
      by (Some (Dynamic t q v)) none = refl

  no_own : (k : ℕ) (t : Items) → ((z : Item) → IsItem k t z → is_laid_out z ≡ false) → owned_by p (slice_get (tree.list_of t) k) ≡ None
  no_own k t none = by (slice_get (tree.list_of t) k) none
    where
      by : (o : Option Item) → ((z : Item) → o ≡ Some z → is_laid_out z ≡ false) → owned_by p o ≡ None
      by None none = refl
      by (Some (Define n c)) none = refl
      by (Some (Instance s of)) none = refl
      by (Some (Own q v)) none = other q v (none (Own q v) refl)
      by (Some (Default q v)) none = refl
      by (Some (Dynamic t q v)) none = refl

  only : (t : Items) (k : ℕ) (y z : Item) → IsItem k t z → IsItem k t y → is_layout_default z ≡ false → is_layout_default y ≡ false
  only t k y z is got e = ap is_layout_default (same_there t k y z got is) ∙ e

  only_laid : (t : Items) (k : ℕ) (y z : Item) → IsItem k t z → IsItem k t y → is_laid_out z ≡ false → is_laid_out y ≡ false
  only_laid t k y z is got e = ap is_laid_out (same_there t k y z got is) ∙ e

  by_test : (q : List ℕ) (v w : Value) (b : Bool) → (lays_out q && b) ≡ false → (b ≡ false → v ≡ w) → (if bytes_eq q p then Some v else None) ≡ (if bytes_eq q p then Some w else None)
  by_test q v w b e same = by (lays_out q) refl e
    where
      by : (a : Bool) → lays_out q ≡ a → (a && b) ≡ false → (if bytes_eq q p then Some v else None) ≡ (if bytes_eq q p then Some w else None)
      by true l e = ap (λ x. if bytes_eq q p then Some x else None) (same e)
      by false l e = other q v l ∙ sym (other q w l)

  -- an item states the same default as the one of which it became
  same_default : (old : Items) (n : ℕ) (f : Firsts) (m : Marks) (y z : Item) → IsFrom old (old_item n f m) y → IsItem n old z → (is_layout_default y && is_set f y) ≡ false
      → defaulted_by p (Some z) ≡ defaulted_by p (Some y)
  same_default old n f m (Define k c) z h is e = sym (ap (λ x. defaulted_by p (Some x)) (same_there old n (Define (unwrap_or f.defined k) (record { kind = c.kind; body = h.0.0 })) z h.0.1 is))
  same_default old n f m (Instance s (Named u)) z h is e = sym (ap (λ x. defaulted_by p (Some x)) (same_there old n (restored f (Instance s (Named u))) z h.0 is))
  same_default old n f m (Instance s (Anonymous c)) z h is e =
      sym (ap (λ x. defaulted_by p (Some x)) (same_there old n (Instance (unwrap_or f.shell s) (Anonymous (record { kind = c.kind; body = h.0.0 }))) z h.0.1 is))
  same_default old n f m (Own q v) z h is e = sym (ap (λ x. defaulted_by p (Some x)) (same_there old n (restored f (Own q v)) z h.0 is))
  same_default old n f m (Default q v) z h is e =
      sym (ap (λ x. defaulted_by p (Some x)) (same_there old n (restored f (Default q v)) z h.0 is))
      ∙ by_test q (unwrap_or f.value v) v (not (brings_the_same f)) e (same_value f v)
  same_default old n f m (Dynamic u q v) z h is e = sym (ap (λ x. defaulted_by p (Some x)) (same_there old n (restored f (Dynamic u q v)) z h.0 is))

  same_own : (old : Items) (n : ℕ) (f : Firsts) (m : Marks) (y z : Item) → IsFrom old (old_item n f m) y → IsItem n old z → (is_laid_out y && is_set f y) ≡ false
      → owned_by p (Some z) ≡ owned_by p (Some y)
  same_own old n f m (Define k c) z h is e = sym (ap (λ x. owned_by p (Some x)) (same_there old n (Define (unwrap_or f.defined k) (record { kind = c.kind; body = h.0.0 })) z h.0.1 is))
  same_own old n f m (Instance s (Named u)) z h is e = sym (ap (λ x. owned_by p (Some x)) (same_there old n (restored f (Instance s (Named u))) z h.0 is))
  same_own old n f m (Instance s (Anonymous c)) z h is e =
      sym (ap (λ x. owned_by p (Some x)) (same_there old n (Instance (unwrap_or f.shell s) (Anonymous (record { kind = c.kind; body = h.0.0 }))) z h.0.1 is))
  same_own old n f m (Own q v) z h is e =
      sym (ap (λ x. owned_by p (Some x)) (same_there old n (restored f (Own q v)) z h.0 is))
      ∙ by_test q (unwrap_or f.value v) v (is_some f.value) e (unset_value f.value v)
  same_own old n f m (Default q v) z h is e = sym (ap (λ x. owned_by p (Some x)) (same_there old n (restored f (Default q v)) z h.0 is))
  same_own old n f m (Dynamic u q v) z h is e = sym (ap (λ x. owned_by p (Some x)) (same_there old n (restored f (Dynamic u q v)) z h.0 is))

  module _ (m : Marks) (old now : Items) where
    default_follows : Follows is_layout_default m old now (λ k i. last_default p k old ≡ last_default p i now)
    default_follows = record {
      first = refl;
      passed = λ k i none so. default-suc p k old ∙ ap (λ o. option_or o (last_default p k old)) (no_default k old none) ∙ so;
      came = λ k i y got none so.
          so ∙ sym (default-suc p i now ∙ ap (λ o. option_or o (last_default p i now)) (no_default i now (λ z is. only now i z y got is none)));
      stayed = λ i n f inside y z got is told unmoved from e so.
          default-suc p n old
          ∙ (λ j. option_or ((ap (defaulted_by p) is ∙ (same_default old n f inside y z from is e ∙ ap (defaulted_by p) (sym got))) j) (so j))
          ∙ sym (default-suc p i now);
    }

    -- before each item that stayed in order the same default stands as before
    pub default_before : Describes m old now → AreInOrder m → sets_default m now ≡ false
        → (i n : ℕ) (f : Firsts) (inside : Marks) (y : Item) → IsItem i now y → trace_of m i ≡ Some (old_item n f inside) → f.is_moved ≡ false → last_default p n old ≡ last_default p i now
    default_before described ordered none i n f inside y got told unmoved =
        before_each is_layout_default layout_default_kept m old now described ordered none (λ k i. last_default p k old ≡ last_default p i now) default_follows i n f inside y got told unmoved

    own_follows : Follows is_laid_out m old now (λ k i. own_before p k old ≡ own_before p i now)
    own_follows = record {
      first = refl;
      passed = λ k i none so. own-suc p k old ∙ ap (λ o. option_or (own_before p k old) o) (no_own k old none) ∙ or_none (own_before p k old) ∙ so;
      came = λ k i y got none so.
          so ∙ sym (own-suc p i now ∙ ap (λ o. option_or (own_before p i now) o) (no_own i now (λ z is. only_laid now i z y got is none)) ∙ or_none (own_before p i now));
      stayed = λ i n f inside y z got is told unmoved from e so.
          own-suc p n old
          ∙ (λ j. option_or (so j) ((ap (owned_by p) is ∙ (same_own old n f inside y z from is e ∙ ap (owned_by p) (sym got))) j))
          ∙ sym (own-suc p i now);
    }
      where
        or_none : (o : Option Value) → option_or o None ≡ o
        or_none None = refl
        or_none (Some v) = refl

    -- the body's own assignments state what they stated
    pub same_owns : Describes m old now → AreInOrder m → is_edited m now ≡ false → own_value p old ≡ own_value p now
    same_owns described ordered none =
        let e = at_the_end is_laid_out laid_out_kept m old now described ordered none (λ k i. own_before p k old ≡ own_before p i now) own_follows in
        sym (own-all p e.0 old e.1) ∙ e.2 ∙ own-all p (length (tree.list_of now)) now (let l : length (tree.list_of now) ≤ length (tree.list_of now) = omega arith in l)
