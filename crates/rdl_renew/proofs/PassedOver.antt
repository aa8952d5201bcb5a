-- What holds of the items that are done still does when more are passed over.
use Rattle.std.proofs.Common.{◌≡◌, ℕ, zero, suc, ◌+◌, ◌-◌, ◌<◌, ◌≤◌, ◌^◌, min, Bool, true, false, ◌&&◌, ◌⊎◌, inl, inr, List, length, get_or, Some, None, refl, sym, ap, subst, ◌∙◌, arith}
use Rattle.std.specs.Prelude.{slice_get}
use Rattle.std.proofs.lemmas.Option.{slice_get_cases}
use Rattle.rdl_tree.specs.View as tree
use Rattle.rdl_tree.specs.declared.description.Item.{Item}
use Rattle.rdl_marks.specs.View.{Trace, same_item, told, marks_of}
use Rattle.rdl_marks.specs.declared.marks.Gone.{Gone}
use Rattle.rdl_marks.specs.declared.marks.Piece.{Piece}
use Rattle.rdl_marks.specs.Was.{trace_of}
use Rattle.rdl_nodes.specs.declared.node.Slot.{Slot}
use Rattle.rdl_nodes.specs.View.{slots_of}
use Rattle.rdl_places.specs.Lasting.{AreLasts}
use Rattle.rdl_places.specs.Scopes.{IsScope}
use Rattle.rdl_seen.specs.Layouts.{Laying}
use Rattle.rdl_tree.specs.Items.{Items}
use Rattle.rdl_renew.specs.declared.along.Stretch.{Stretch}
use Rattle.rdl_renew.specs.declared.done.Done.{Done}
use Rattle.rdl_renew.specs.declared.done.Reach.{Reach}
use Rattle.rdl_renew.specs.AlikeSlots.{tells_of_width, is_alike}
use Rattle.rdl_renew.specs.Along.{HasNumber, AreUntouched, AreAsTheyWere}
use Rattle.rdl_renew.specs.Anew.{slots_there}
use Rattle.rdl_renew.specs.InPlace.{IsInPlace, AreInPlace, AddAsSaid, of_last}
use Rattle.rdl_renew.specs.Judged.{IfStillClean}
use Rattle.rdl_renew.specs.PassedOver.{MayPass, IsKept, IsPassed, ArePassed}
use Rattle.rdl_renew.specs.Renewing.{Renewing, Became, AreDone, IsNext}
use Rattle.rdl_renew.specs.StillClean.{IsCleanStill}
use Rattle.rdl_renew.proofs.BodySteps.{number_fits, one_renewed}
use Rattle.rdl_renew.proofs.CleanSteps.{same_judge, settled_clean, AreCleanStill, next_clean}
use Rattle.rdl_renew.proofs.CountSteps.{AreCounted, settled_counted, one_counted}
use Rattle.rdl_renew.specs.Counting.{CountsItem}
use Rattle.rdl_renew.proofs.InFront.{front_done, front_clean, front_counted}
use Rattle.rdl_renew.proofs.InPlace.{alike_on, kept_add, kept_alike, kept_in_place, next_add, next_alike, next_in_place}
use Rattle.rdl_renew.proofs.ItemSteps.{kept_done}
use Rattle.rdl_renew.proofs.OneDone.{done_many}

-- ---- What holds of items that are done.

-- so many are done, none of them has a fault so far as that is known, what was placed for them is counted, and it is told how they are like
-- what they were
pub record Stand (lay : Laying) (r : Renewing) (xs : List Item) (w : Bool) (judged judge : Bool) (before placed : ℕ) (i : ℕ) (d : Done) : Type 0 where
  pub done : AreDone lay r i d
  pub clean : AreCleanStill lay r i judged judge
  pub counted : AreCounted w r.marks r.slots (slots_there lay r.places r.now) r.now xs i before placed
  pub in_place : d.are_in_place ≡ true → AreInPlace r.marks i
  pub alike : alike_on r.marks r.slots (slots_there lay r.places r.now) r.now 0 ≡ (d.are_alike && alike_on r.marks r.slots (slots_there lay r.places r.now) r.now i)

-- ---- One item more.

pub stand_next : (lay : Laying) (r : Renewing) (ys : List Item) (w judged judge now : Bool) (before placed after : ℕ) (i : ℕ) (d e : Done) (y : Item) (t : Trace) → IsNext lay r i d y t → ys ≡ tree.list_of r.now → i < length ys → y ≡ get_or ys i y
    → tells_of_width d.reach.alert ≡ w → Stand lay r ys w judged judge before placed i d → AreDone lay r (suc i) e → IfStillClean judge now (IsCleanStill lay r i y)
    → CountsItem lay r (tells_of_width d.reach.alert) i t y placed after → (e.are_in_place ≡ true → (d.are_in_place ≡ true) × IsInPlace (length d.slots.items) t)
    → e.are_alike ≡ (d.are_alike && is_alike true r.slots (of_last d e) t y) → Stand lay r ys w judged now before after (i + 1) e
stand_next lay r ys w judged judge now before placed after i d e y t next all l here width stand done clean counted in_place alike = record {
  done = one_renewed lay r i e done;
  clean = next_clean lay r i y judged judge now next.there stand.clean clean;
  counted =
      one_counted w (tells_of_width d.reach.alert) r.marks r.slots (slots_there lay r.places r.now) r.now ys i before placed after t y stand.counted l here next.told width counted;
  in_place = next_in_place r.marks i d e t stand.in_place (done_many lay r i d next.done) next.told in_place;
  alike = next_alike lay r i d e y t ys stand.alike all l here next.told next.done done alike;
}

-- ---- One that is passed over.

module _ (lay : Laying) (r : Renewing) (n : ℕ) (d e : Done) (y : Item) (number front : ℕ) (s : Slot) (xs : List Slot) (next : IsNext lay r n d y (same_item number)) (of : r.slots ≡ slots_of xs)
    (ahead : AreUntouched r.marks front) (may : MayPass xs front number d s) (kept : IsKept d number s e) where
  one_done : AreDone lay r (suc n) e
  one_done = by may.is_settled refl
    where
      by : (b : Bool) → may.is_settled ≡ b → AreDone lay r (suc n) e
      by true is = kept_done lay r n d e y number s xs next of (record { there = may.there; settled = may.settled is }) kept.slots kept.reach
      by false is = front_done lay r n d y number front s xs next of may.there (may.in_front is) ahead e kept.slots kept.reach

  one_clean : IsCleanStill lay r n y
  one_clean = by may.is_settled refl
    where
      by : (b : Bool) → may.is_settled ≡ b → IsCleanStill lay r n y
      by true is = settled_clean lay r n d y number s xs next of (record { there = may.there; settled = may.settled is })
      by false is = front_clean lay r n d y number front s xs next of may.there (may.in_front is) ahead

  one_counts : (a : ℕ) → CountsItem lay r (tells_of_width d.reach.alert) n (same_item number) y a a
  one_counts a = by may.is_settled refl
    where
      by : (b : Bool) → may.is_settled ≡ b → CountsItem lay r (tells_of_width d.reach.alert) n (same_item number) y a a
      by true is = settled_counted lay r n d e y number s xs a next of (record { there = may.there; settled = may.settled is }) one_done kept.slots
      by false is = front_counted lay r n d y number front s xs next of may.there (may.in_front is) ahead e a one_done kept.slots

  one_stands : (ys : List Item) (w judged judge : Bool) (before placed : ℕ) → ys ≡ tree.list_of r.now → n < length ys → y ≡ get_or ys n y → tells_of_width d.reach.alert ≡ w
      → Stand lay r ys w judged judge before placed n d → Stand lay r ys w judged judge before placed (n + 1) e
  one_stands ys w judged judge before placed all l here width stand =
      stand_next lay r ys w judged judge judge before placed placed n d e y (same_item number) next all l here width stand one_done (same_judge judge one_clean) (one_counts placed)
      (kept_in_place d e number (same_item number) refl kept.in_place)
      (subst (λ q. e.are_alike ≡ (d.are_alike && is_alike true q (of_last d e) (same_item number) y)) (sym of) (kept_alike xs d e s number (same_item number) y may.there refl kept.slots kept.alike))

-- ---- As many as are passed over.

pub same_reach : (xs : List Slot) (front from k : ℕ) (d e : Done) → ArePassed xs front from k d e → e.reach ≡ d.reach
same_reach xs front from zero d e passed = ap (λ (z : Done). z.reach) (sym passed)
same_reach xs front from (suc k) d e passed = passed.2.kept.reach ∙ same_reach xs front from k d passed.0 passed.1

pub same_lasts : (xs : List Slot) (front from k : ℕ) (d e : Done) (t : Items) → ArePassed xs front from k d e → AreLasts t d.lasts → AreLasts t e.lasts
same_lasts xs front from zero d e t passed are = subst (λ (z : Done). AreLasts t z.lasts) passed are
same_lasts xs front from (suc k) d e t passed are = subst (AreLasts t) (sym passed.2.kept.lasts) (same_lasts xs front from k d passed.0 t passed.1 are)

-- they add the same as they did, if that is said
pub adds_passed : (xs : List Slot) (front from k : ℕ) (d e : Done) → ArePassed xs front from k d e → AddAsSaid (slots_of xs) d → AddAsSaid (slots_of xs) e
adds_passed xs front from zero d e passed was = subst (AddAsSaid (slots_of xs)) passed was
adds_passed xs front from (suc k) d e passed was =
    let m = passed.0 in
    let one = passed.2 in
    next_add (slots_of xs) m e (adds_passed xs front from k d m passed.1 was) (kept_add xs m e one.slot (from + k) one.may.there one.kept.slots one.kept.add_same)

-- what is told of the items that the code takes for those that are as they were
pub told_of : (lay : Laying) (r : Renewing) (i : ℕ) (ys : List Item) (xs : List Slot) (ps : List Piece) (behind : ℕ) (gone : List Gone) (s : Stretch) → Became lay r.saw r.slots r.marks r.old r.now → r.slots ≡ slots_of xs → length xs < 2 ^ 64
    → ys ≡ tree.list_of r.now → i < length ys → marks_of (told ps behind gone) ≡ r.marks → (HasNumber (marks_of (told ps behind gone)) i → AreAsTheyWere (marks_of (told ps behind gone)) i s) → AreAsTheyWere r.marks i s
told_of lay r i ys xs ps behind gone s became of few all low marks tells = by (slice_get_cases ys i).1
  where
    by : ((y : Item) × (i < length ys) × (slice_get ys i ≡ Some y) × (get_or ys i y ≡ y)) ⊎ ((length ys ≤ i) × (slice_get ys i ≡ None)) → AreAsTheyWere r.marks i s
    by (inl at) =
        let there : slice_get (tree.list_of r.now) i ≡ Some at.0 = ap (λ zs. slice_get zs i) (sym all) ∙ at.2 in
        let fits = number_fits lay r.saw r.marks r.old r.now xs i at.0 (subst (λ z. Became lay r.saw z r.marks r.old r.now) of became) few there in
        subst (λ m. AreAsTheyWere m i s) marks (tells (subst (λ m. HasNumber m i) (sym marks) fits))
    by (inr past) = absurd (let l = past.0 in omega (arith, low, l))

module _ (lay : Laying) (r : Renewing) (ys : List Item) (w judged judge : Bool) (before placed : ℕ) (xs : List Slot) (front from i : ℕ) (of : r.slots ≡ slots_of xs) (ahead : AreUntouched r.marks front)
    (all : ys ≡ tree.list_of r.now) (became : Became lay r.saw r.slots r.marks r.old r.now) (scope : IsScope lay r.places) where
  one_more : (k : ℕ) (m e : Done) → trace_of r.marks (i + k) ≡ Some (same_item (from + k)) → i + suc k ≤ length ys → tells_of_width m.reach.alert ≡ w → IsPassed xs front (from + k) m e
      → Stand lay r ys w judged judge before placed (i + k) m → Stand lay r ys w judged judge before placed (i + suc k) e
  one_more k m e told few width one stand = by (slice_get_cases ys (i + k)).1
    where
      by : ((y : Item) × (i + k < length ys) × (slice_get ys (i + k) ≡ Some y) × (get_or ys (i + k) y ≡ y)) ⊎ ((length ys ≤ i + k) × (slice_get ys (i + k) ≡ None))
          → Stand lay r ys w judged judge before placed (i + suc k) e
      by (inl at) =
          let next : IsNext lay r (i + k) m at.0 (same_item (from + k)) =
          record { became = became; scope = scope; done = stand.done; there = ap (λ zs. slice_get zs (i + k)) (sym all) ∙ at.2; told = told } in
          subst (λ n. Stand lay r ys w judged judge before placed n e) (let s : i + k + 1 ≡ i + suc k = omega arith in s)
          (one_stands lay r (i + k) m e at.0 (from + k) front one.slot xs next of ahead one.may one.kept ys w judged judge before placed all at.1 (sym at.3) width stand)
      by (inr past) = absurd (let l = past.0 in omega (arith, few, l))

  they_stand : (k : ℕ) (d e : Done) → ((j : ℕ) → j < k → trace_of r.marks (i + j) ≡ Some (same_item (from + j))) → i + k ≤ length ys → tells_of_width d.reach.alert ≡ w → ArePassed xs front from k d e
      → Stand lay r ys w judged judge before placed i d → Stand lay r ys w judged judge before placed (i + k) e
  they_stand zero d e told few width passed stand =
      subst (λ n. Stand lay r ys w judged judge before placed n e) (let s : i ≡ i + 0 = omega arith in s) (subst (Stand lay r ys w judged judge before placed i) passed stand)
  they_stand (suc k) d e told few width passed stand =
      let m = passed.0 in
      one_more k m e (told k (omega arith)) few (ap (λ (z : Reach). tells_of_width z.alert) (same_reach xs front from k d m passed.1) ∙ width) passed.2
      (they_stand k d m (λ j l. told j (omega (arith, l))) (omega (arith, few)) width passed.1 stand)

-- so do the items that the code passes over: the first ones of a stretch, as many as are left at most
pub stands_on : (lay : Laying) (r : Renewing) (ys : List Item) (w judged judge : Bool) (before placed : ℕ) (xs : List Slot) (front i k : ℕ) (s t : Stretch) (d e : Done) → r.slots ≡ slots_of xs → AreUntouched r.marks front
    → ys ≡ tree.list_of r.now → Became lay r.saw r.slots r.marks r.old r.now → IsScope lay r.places → AreAsTheyWere r.marks i s → t ≡ record s { count = min s.count (length ys - i) } → i ≤ length ys → k ≤ t.count
    → tells_of_width d.reach.alert ≡ w → ArePassed xs front t.from k d e → Stand lay r ys w judged judge before placed i d → Stand lay r ys w judged judge before placed (i + k) e
stands_on lay r ys w judged judge before placed xs front i k s t d e of ahead all became scope told is low few width passed stand =
    let count = ap (λ (z : Stretch). z.count) is in
    let from : t.from ≡ s.from = ap (λ (z : Stretch). z.from) is in
    they_stand lay r ys w judged judge before placed xs front t.from i of ahead all became scope k d e
    (λ j l. told j (omega (arith, l, few, count)) ∙ ap (λ n. Some (same_item (n + j))) (sym from)) (omega (arith, few, count, low)) width passed stand
