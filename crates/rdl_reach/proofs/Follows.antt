-- A body beside what it was, where no item for which something holds came, went, was moved or was set.
use Rattle.std.proofs.Common.{◌≡◌, ℕ, zero, suc, ◌+◌, ◌-◌, ◌<◌, ◌≤◌, ◌==◌, Bool, true, false, not, ◌&&◌, ◌||◌, if◌then◌else◌, List, [], ◌∷◌, length, drop, Option, Some, None, unwrap_or, ◌⊎◌, inl, inr, refl, sym, ap, subst, ◌∙◌, arith}
use Rattle.std.specs.Prelude.{slice_get}
use Rattle.std.proofs.lemmas.Bool.{cases_lt, eqb-true, or_parts, and_from, or_left, eq-eqb}
use Rattle.std.proofs.lemmas.Slice.Eq.{bytes_eq-Decides}
use Rattle.std.proofs.lemmas.Option.{same_Some}
use Rattle.rdl_tree.specs.Items.{Items}
use Rattle.rdl_tree.specs.View as tree
use Rattle.rdl_tree.specs.declared.description.Item.{Item}
use Rattle.rdl_tree.specs.declared.description.Item.TheVariants.{Define, Instance, Own, Default, Dynamic}
use Rattle.rdl_tree.specs.declared.description.Of.TheVariants.{Named, Anonymous}
use Rattle.rdl_tree.specs.declared.shell.Shell.{Shell}
use Rattle.rdl_tree.proofs.Rounds as tree_rounds
use Rattle.rdl_marks.specs.Describes.{Describes, IsItem, times, AreFrom, restored}
use Rattle.rdl_marks.specs.InOrder.{AreInOrder, moved_times}
use Rattle.rdl_marks.specs.Marks.{Firsts, no_firsts, Marks}
use Rattle.rdl_marks.specs.View.{Trace, new_item, old_item, same_item, traces_of, list_of}
use Rattle.rdl_marks.specs.Was.{trace_of}
use Rattle.rdl_marks.proofs.From.{IsFrom, AreSo, first_from, none_more}
use Rattle.rdl_marks.proofs.Rounds.{traces_of-list_of}
use Rattle.rdl_renew.proofs.Beside.{StaysSo, holds_of_all}
use Rattle.rdl_renew.proofs.Raised.{from_there}
use Rattle.rdl_renew.proofs.SideBySide.{is_told, had, listed, next_within}
use Rattle.rdl_reach.specs.EditedBodies.{is_laid_out, is_layout_default, is_set, is_changed, any_told, any_item, any_changed}
use Rattle.rdl_renew.specs.AlikeSlots.{same_range, says_same}
use Rattle.rdl_nodes.specs.Placed.{same_stated}

-- ---- Tests.

none_told : (f : Trace → Item → Bool) (es : List Trace) (xs : List Item) (i : ℕ) (e : Trace) (y : Item) → any_told f es xs ≡ false → slice_get es i ≡ Some e → slice_get xs i ≡ Some y → f e y ≡ false
none_told f [] xs i e y h p q = absurd cc
none_told f (d ∷ es) [] i e y h p q = absurd cc
none_told f (d ∷ es) (z ∷ xs) zero e y h p q =
    let one : d ≡ e = cc in
    let two : z ≡ y = cc in
    sym (λ k. f (one k) (two k)) ∙ (or_parts (f d z) (any_told f es xs) h).0
none_told f (d ∷ es) (z ∷ xs) (suc i) e y h p q = none_told f es xs i e y (or_parts (f d z) (any_told f es xs) h).1 p q

-- ---- An instance says the same as itself.

range_itself : (r : Option (ℕ × ℕ)) → same_range r r ≡ true
range_itself None = refl
range_itself (Some p) = and_from (p.0 == p.0) (p.1 == p.1) (eq-eqb p.0 p.0 refl) (eq-eqb p.1 p.1 refl)

number_itself : (n : Option ℕ) → same_stated n n ≡ true
number_itself None = refl
number_itself (Some n) = eq-eqb n n refl

pub says_itself : (s : Shell) → says_same s s ≡ true
says_itself s =
    let dims = (bytes_eq-Decides s.dims s.dims).1 refl in
    let range = range_itself s.range in
    let address = number_itself s.address in
    let stride = number_itself s.stride in
    let align = number_itself s.align in
    λ i. dims i && range i && address i && stride i && align i

unset : (y : Item) → is_set no_firsts y ≡ false
unset (Define n c) = refl
unset (Instance s o) = ap not (says_itself s)
unset (Own p v) = refl
unset (Default p v) = refl
unset (Dynamic t p v) = refl

-- ---- The old item.

pub same_there : (old : Items) (n : ℕ) (y z : Item) → IsItem n old y → IsItem n old z → y ≡ z
same_there old n y z f g = same_Some y z (sym f ∙ g)

-- it holds of an item as of what it was
abbrev pub IsKept : (Item → Bool) → Type 0
IsKept test = (old : Items) (n : ℕ) (f : Firsts) (m : Marks) (y z : Item) → IsFrom old (old_item n f m) y → IsItem n old z → test z ≡ test y

pub laid_out_kept : IsKept is_laid_out
laid_out_kept old n f m (Define k c) z h is = sym (ap is_laid_out (same_there old n (Define (unwrap_or f.defined k) (record { kind = c.kind; body = h.0.0 })) z h.0.1 is))
laid_out_kept old n f m (Instance s (Named u)) z h is = sym (ap is_laid_out (same_there old n (restored f (Instance s (Named u))) z h.0 is))
laid_out_kept old n f m (Instance s (Anonymous c)) z h is =
    sym (ap is_laid_out (same_there old n (Instance (unwrap_or f.shell s) (Anonymous (record { kind = c.kind; body = h.0.0 }))) z h.0.1 is))
laid_out_kept old n f m (Own p v) z h is = sym (ap is_laid_out (same_there old n (restored f (Own p v)) z h.0 is))
laid_out_kept old n f m (Default p v) z h is = sym (ap is_laid_out (same_there old n (restored f (Default p v)) z h.0 is))
laid_out_kept old n f m (Dynamic u p v) z h is = sym (ap is_laid_out (same_there old n (restored f (Dynamic u p v)) z h.0 is))

pub layout_default_kept : IsKept is_layout_default
layout_default_kept old n f m (Define k c) z h is = sym (ap is_layout_default (same_there old n (Define (unwrap_or f.defined k) (record { kind = c.kind; body = h.0.0 })) z h.0.1 is))
layout_default_kept old n f m (Instance s (Named u)) z h is = sym (ap is_layout_default (same_there old n (restored f (Instance s (Named u))) z h.0 is))
layout_default_kept old n f m (Instance s (Anonymous c)) z h is =
    sym (ap is_layout_default (same_there old n (Instance (unwrap_or f.shell s) (Anonymous (record { kind = c.kind; body = h.0.0 }))) z h.0.1 is))
layout_default_kept old n f m (Own p v) z h is = sym (ap is_layout_default (same_there old n (restored f (Own p v)) z h.0 is))
layout_default_kept old n f m (Default p v) z h is = sym (ap is_layout_default (same_there old n (restored f (Default p v)) z h.0 is))
layout_default_kept old n f m (Dynamic u p v) z h is = sym (ap is_layout_default (same_there old n (restored f (Dynamic u p v)) z h.0 is))

-- ---- Items that are gone, or were moved.

abbrev one_if : Bool → ℕ
one_if b = if b then 1 else 0

module _ (test : Item → Bool) (kept : IsKept test) (old : Items) (n : ℕ) (z : Item) (is : IsItem n old z) where
  gone_none : (es : List Trace) (rest : List Item) (xs : List Item) → AreSo old es rest xs → any_item test xs ≡ false → 0 < times n (traces_of es) → test z ≡ false
  gone_none [] rest xs so none l = absurd (omega arith)
  gone_none (e ∷ es) rest [] so none l = absurd (none_more old e (traces_of es) rest so)
  gone_none (new_item ∷ es) rest (y ∷ ys) so none l =
      gone_none es rest ys (first_from old new_item (traces_of es) rest y (tree.items_of ys) so).1 (or_parts (test y) (any_item test ys) none).1 l
  gone_none (old_item k f m ∷ es) rest (y ∷ ys) so none l = by (λ (g : 0 < times n (traces_of es)). gone_none es rest ys both.1 nones.1 g) (k == n) refl
    where
      both : IsFrom old (old_item k f m) y × AreSo old es rest ys
      both = first_from old (old_item k f m) (traces_of es) rest y (tree.items_of ys) so

      nones : (test y ≡ false) × (any_item test ys ≡ false)
      nones = or_parts (test y) (any_item test ys) none

      by : (0 < times n (traces_of es) → test z ≡ false) → (b : Bool) → (k == n) ≡ b → test z ≡ false
      by more true e = kept old n f m y z (subst (λ j. IsFrom old (old_item j f m) y) (eqb-true k n e) both.0) is ∙ nones.0
      by more false e =
          let other : one_if (k == n) ≡ 0 = ap one_if e in
          more (omega (arith, l, other))

  -- an item that was moved isn't such a one
  abbrev IsNoMoved : Trace → Item → Type 0
  IsNoMoved new_item y = Unit {0}
  IsNoMoved (old_item k f m) y = f.is_moved ≡ true → test y ≡ false

  moved_none : (es : List Trace) (rest : List Item) (xs : List Item) → AreSo old es rest xs
      → ((j : ℕ) (e : Trace) (y : Item) → slice_get es j ≡ Some e → slice_get xs j ≡ Some y → IsNoMoved e y) → 0 < moved_times n (traces_of es) → test z ≡ false
  moved_none [] rest xs so none l = absurd (omega arith)
  moved_none (e ∷ es) rest [] so none l = absurd (none_more old e (traces_of es) rest so)
  moved_none (new_item ∷ es) rest (y ∷ ys) so none l =
      moved_none es rest ys (first_from old new_item (traces_of es) rest y (tree.items_of ys) so).1 (λ j e x p q. none (suc j) e x p q) l
  moved_none (old_item k f m ∷ es) rest (y ∷ ys) so none l =
      by (λ (g : 0 < moved_times n (traces_of es)). moved_none es rest ys both.1 (λ j e x p q. none (suc j) e x p q) g) f.is_moved (k == n) refl refl
    where
      both : IsFrom old (old_item k f m) y × AreSo old es rest ys
      both = first_from old (old_item k f m) (traces_of es) rest y (tree.items_of ys) so

      other : (a b : Bool) → f.is_moved ≡ a → (k == n) ≡ b → (a && b) ≡ false → one_if (f.is_moved && (k == n)) ≡ 0
      other a b d e off = (λ i. one_if (d i && e i)) ∙ ap one_if off

      by : (0 < moved_times n (traces_of es) → test z ≡ false) → (a b : Bool) → f.is_moved ≡ a → (k == n) ≡ b → test z ≡ false
      by more true true d e = kept old n f m y z (subst (λ j. IsFrom old (old_item j f m) y) (eqb-true k n e) both.0) is ∙ none 0 (old_item k f m) y refl refl d
      by more true false d e = more (omega (arith, l, other true false d e refl))
      by more false b d e = more (omega (arith, l, other false b d e refl))

-- ---- All items.

one_of : (a b : ℕ) → a + b ≡ 1 → (a ≡ 1) ⊎ (b ≡ 1)
one_of zero b e = inr (omega (arith, e))
one_of (suc zero) b e = inl refl
one_of (suc (suc a)) b e = absurd (omega (arith, e))

off : (a b : Bool) → a ≡ true → (b && a) ≡ false → b ≡ false
off true true e f = f
off true false e f = refl
off false b e f = absurd (let no : false ≡ true = e in cc)

or_second : (a b : Bool) → a ≡ false → (a || b) ≡ b
or_second false b e = refl
or_second true b e = absurd (let no : true ≡ false = e in cc)

-- something of the first items of the old body and the first ones of the new one, which stays so with each old item for which the test
-- doesn't hold, with each new one for which it doesn't, and with one that stayed in order, and wasn't set if it holds of it
pub record Follows (test : Item → Bool) (m : Marks) (old now : Items) (R : ℕ → ℕ → Type 0) : Type 0 where
  pub first : R 0 0
  pub passed : (k i : ℕ) → ((z : Item) → IsItem k old z → test z ≡ false) → R k i → R (suc k) i
  pub came : (k i : ℕ) (y : Item) → IsItem i now y → test y ≡ false → R k i → R k (suc i)
  pub stayed :
      (i n : ℕ) (f : Firsts) (inside : Marks) (y z : Item) → IsItem i now y → IsItem n old z → trace_of m i ≡ Some (old_item n f inside) → f.is_moved ≡ false
      → IsFrom old (old_item n f inside) y → (test y && is_set f y) ≡ false → R n i → R (suc n) (suc i)

module _ (test : Item → Bool) (kept : IsKept test) (m : Marks) (old now : Items) (described : Describes m old now) (ordered : AreInOrder m) (none : any_changed test m now ≡ false) where
  nones : (any_told (is_changed test) (list_of m.traces) (tree.list_of now) ≡ false) × (any_item test (tree.list_of m.items) ≡ false)
  nones = or_parts (any_told (is_changed test) (list_of m.traces) (tree.list_of now)) (any_item test (tree.list_of m.items)) none

  gone_listed : AreSo old (list_of m.gone) [] (tree.list_of m.items)
  gone_listed =
      subst (λ t. AreFrom old t [] (tree.items_of (tree.list_of m.items))) (sym (traces_of-list_of m.gone))
      (subst (AreFrom old m.gone []) (sym (tree_rounds.items_of-list_of m.items)) described.gone)

  -- what is told of an item is no change of it
  pub unchanged_there : (i : ℕ) (e : Trace) (y : Item) → IsItem i now y → trace_of m i ≡ Some e → is_changed test e y ≡ false
  unchanged_there i e y got told = by (is_told m i e told).is
    where
      no : (b : Bool) → (b && false) ≡ false
      no true = refl
      no false = refl

      by : (slice_get (list_of m.traces) i ≡ Some e) ⊎ ((length (list_of m.traces) ≤ i) × (same_item (m.behind + (i - length (list_of m.traces))) ≡ e)) → is_changed test e y ≡ false
      by (inl g) = none_told (is_changed test) (list_of m.traces) (tree.list_of now) i e y nones.0 g got
      by (inr g) = subst (λ d. is_changed test d y ≡ false) g.1 (ap (λ b. test y && b) (unset y) ∙ no (test y))

  moved_off : (f : Firsts) (y : Item) → f.is_moved ≡ true → (test y && (f.is_moved || is_set f y)) ≡ false → test y ≡ false
  moved_off f y moved e = off (f.is_moved || is_set f y) (test y) (or_left f.is_moved (is_set f y) moved) e

  no_moved : (z : Item) (n : ℕ) (is : IsItem n old z) (j : ℕ) (e : Trace) (y : Item) → slice_get (list_of m.traces) j ≡ Some e → slice_get (tree.list_of now) j ≡ Some y → IsNoMoved test kept old n z is e y
  no_moved z n is j new_item y p q = tt
  no_moved z n is j (old_item k f inside) y p q = λ moved. moved_off f y moved (none_told (is_changed test) (list_of m.traces) (tree.list_of now) j (old_item k f inside) y nones.0 p q)

  left_none : (n : ℕ) (z : Item) → times n m.gone + moved_times n m.traces ≡ 1 → IsItem n old z → test z ≡ false
  left_none n z e is = by (one_of (times n m.gone) (moved_times n m.traces) e)
    where
      by : (times n m.gone ≡ 1) ⊎ (moved_times n m.traces ≡ 1) → test z ≡ false
      by (inl g) =
          let one : 0 < times n (traces_of (list_of m.gone)) = subst (λ t. 0 < times n t) (sym (traces_of-list_of m.gone)) (omega (arith, g)) in
          gone_none test kept old n z is (list_of m.gone) [] (tree.list_of m.items) gone_listed nones.1 one
      by (inr g) =
          let one : 0 < moved_times n (traces_of (list_of m.traces)) = subst (λ t. 0 < moved_times n t) (sym (traces_of-list_of m.traces)) (omega (arith, g)) in
          moved_none test kept old n z is (list_of m.traces) (drop m.behind (tree.list_of old)) (tree.list_of now) (listed m old now described) (no_moved z n is) one

  module _ (R : ℕ → ℕ → Type 0) (follows : Follows test m old now R) where
    -- it holds, and held before each item that stayed in order
    abbrev All : ℕ → ℕ → Type 0
    All k i = R k i × ((j n : ℕ) (f : Firsts) (inside : Marks) → j < i → trace_of m j ≡ Some (old_item n f inside) → f.is_moved ≡ false → R n j)

    no_more : (k i : ℕ) → R k (suc i) → ((n : ℕ) (f : Firsts) (inside : Marks) → trace_of m i ≡ Some (old_item n f inside) → f.is_moved ≡ false → R n i)
        → ((j n : ℕ) (f : Firsts) (inside : Marks) → j < i → trace_of m j ≡ Some (old_item n f inside) → f.is_moved ≡ false → R n j) → All k (suc i)
    no_more k i so here before = (so, λ j n f inside l told unmoved. by j n f inside told unmoved (cases_lt j i) l)
      where
        by : (j n : ℕ) (f : Firsts) (inside : Marks) → trace_of m j ≡ Some (old_item n f inside) → f.is_moved ≡ false → ((j < i) ⊎ (i ≤ j)) → j < suc i → R n j
        by j n f inside told unmoved (inl l) less = before j n f inside l told unmoved
        by j n f inside told unmoved (inr l) less =
            let same : i ≡ j = omega (arith, l, less) in
            subst (λ j. R n j) same (here n f inside (ap (trace_of m) same ∙ told) unmoved)

    steps : StaysSo m now All
    steps = record {
      first = (follows.first, λ j n f inside l told unmoved. absurd (omega (arith, l)));
      passed = λ k i e so. (follows.passed k i (λ z is. left_none k z e is) so.0, so.1);
      new = λ k i y got told so.
          no_more k i (follows.came k i y got (unchanged_there i new_item y got told) so.0) (λ n f inside other unmoved. absurd (let no : Some new_item ≡ Some (old_item n f inside) = sym told ∙ other in cc)) so.1;
      moved = λ k i n f inside y got told moved so.
          no_more k i (follows.came k i y got (moved_off f y moved (unchanged_there i (old_item n f inside) y got told)) so.0)
          (λ j g within other unmoved. absurd (
          let same : Some (old_item n f inside) ≡ Some (old_item j g within) = sym told ∙ other in
          let firsts : f ≡ g = cc in
          let no : true ≡ false = sym moved ∙ ap (λ (h : Firsts). h.is_moved) firsts ∙ unmoved in
          cc)) so.1;
      stayed = λ i n f inside y got told unmoved so.
          let z = had m old now i n f inside y described got told in
          let still = unchanged_there i (old_item n f inside) y got told in
          no_more (suc n) i
          (follows.stayed i n f inside y z.item got z.is told unmoved (from_there m old now i (old_item n f inside) y described got told)
          (ap (λ b. test y && b) (sym (or_second f.is_moved (is_set f y) unmoved)) ∙ still) so.0)
          (λ j g within other unmoved.
          let same : Some (old_item n f inside) ≡ Some (old_item j g within) = sym told ∙ other in
          let number : n ≡ j = cc in
          subst (λ k. R k i) number so.0) so.1;
    }

    ends : (k : ℕ) × (length (tree.list_of old) ≤ k) × All k (length (tree.list_of now))
    ends = holds_of_all m old now All described ordered steps

    -- behind all items
    pub at_the_end : (k : ℕ) × (length (tree.list_of old) ≤ k) × R k (length (tree.list_of now))
    at_the_end = let e = ends in (e.0, e.1, e.2.0)

    -- before each item that stayed in order
    pub before_each : (i n : ℕ) (f : Firsts) (inside : Marks) (y : Item) → IsItem i now y → trace_of m i ≡ Some (old_item n f inside) → f.is_moved ≡ false → R n i
    before_each i n f inside y got told unmoved = ends.2.1 i n f inside (let l = next_within (tree.list_of now) i y got in omega (arith, l)) told unmoved
