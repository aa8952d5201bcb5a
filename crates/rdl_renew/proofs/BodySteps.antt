-- How the items of a body are gone along, and what is told of the next one.
use Rattle.std.proofs.Common.{◌≡◌, ℕ, suc, ◌+◌, ◌<◌, ◌≤◌, ◌^◌, List, [], length, get_or, Some, None, refl, sym, ap, subst, ◌∙◌, arith, add-one, ◌⊎◌, inl, inr}
use Rattle.std.proofs.lemmas.Bool.{cases_lt}
use Rattle.rdl_tree.specs.Items.{Items}
use Rattle.rdl_tree.specs.View as tree
use Rattle.rdl_tree.specs.declared.description.Item.{Item}
use Rattle.rdl_tree.proofs.Edits.{get-within}
use Rattle.rdl_marks.specs.Describes.{IsItem}
use Rattle.rdl_marks.specs.Marks.{Marks}
use Rattle.rdl_marks.specs.View.{Trace, told, marks_of}
use Rattle.rdl_marks.specs.Was.{trace_of}
use Rattle.rdl_marks.specs.declared.marks.Gone.{Gone}
use Rattle.rdl_marks.specs.declared.marks.Piece.{Piece}
use Rattle.rdl_nodes.specs.declared.node.Slot.{Slot}
use Rattle.rdl_nodes.specs.View.{slots_of}
use Rattle.rdl_places.specs.Scopes.{around_places}
use Rattle.rdl_seen.specs.declared.alert.Alert.{Alert}
use Rattle.rdl_seen.specs.Alert.{with_alert}
use Rattle.rdl_seen.specs.Inside.{no_instances}
use Rattle.rdl_seen.specs.Layouts.{Laying}
use Rattle.rdl_seen.specs.Node.{Around}
use Rattle.rdl_seen.specs.OneByOne.{slot_at}
use Rattle.rdl_seen.specs.Slots.{Slots}
use Rattle.rdl_seen.proofs.OneByOne.{slots_are_of_items}
use Rattle.rdl_renew.specs.declared.done.Done.{Done}
use Rattle.rdl_renew.specs.declared.done.Reach.{Reach}
use Rattle.rdl_renew.specs.Along.{HasNumber}
use Rattle.rdl_renew.specs.Anew.{slots_there}
use Rattle.rdl_renew.specs.Raised.{raised}
use Rattle.rdl_renew.specs.Renewing.{Renewing, Became, DiffersNoMoreBefore, IsReached, AreDone, IsNext}
use Rattle.rdl_renew.proofs.NewItems.{item_there, slot_past}
use Rattle.rdl_renew.proofs.OneDone.{none_done, all_done}
use Rattle.rdl_renew.proofs.SideBySide.{no_more_differs_before}
use Rattle.rdl_renew.proofs.TakenOver.{same_items_stay}

-- a slot of a list stands within it
slot_within : (xs : List Slot) (n : ℕ) (s : Slots) → slot_at n (slots_of xs) ≡ Some s → n < length xs
slot_within xs n s e = by (cases_lt n (length xs))
  where
    by : (n < length xs) ⊎ (length xs ≤ n) → n < length xs
    by (inl l) = l
    by (inr l) = let none = slot_past xs n l in absurd (let no : None ≡ Some s = sym none ∙ e in cc)

-- the number that an item had is that of a slot
pub number_fits : (lay : Laying) (saw : Around) (m : Marks) (old now : Items) (xs : List Slot) (i : ℕ) (y : Item) → Became lay saw (slots_of xs) m old now → length xs < 2 ^ 64 → IsItem i now y → HasNumber m i
number_fits lay saw m old now xs i y became few there = λ n told.
    let was = same_items_stay m old now i n y became.describes there told in
    let slot = slots_are_of_items lay saw no_instances old n y was in
    let l = slot_within xs n _ (ap (slot_at n) became.kept ∙ slot) in
    omega (arith, l, few)

-- ---- A body.

pub first_done : (lay : Laying) (r : Renewing) (d : Done) (reach : Reach) (x : Alert) → Became lay r.saw r.slots r.marks r.old r.now → IsReached lay r.places r.saw reach → d.slots.items ≡ []
    → d.reach.defaults ≡ reach.defaults → d.reach.alert ≡ with_alert reach.alert x → x ≡ raised r.marks r.now → AreDone lay r 0 d
first_done lay r d reach x became reached none defaults alert same = none_done lay r d reach became reached none defaults (alert ∙ ap (with_alert reach.alert) same)

-- the next item, with what pieces tell of it
pub next_is : (lay : Laying) (r : Renewing) (i : ℕ) (d : Done) (y : Item) (e : Trace) (xs : List Item) (reach : Reach) (ps : List Piece) (behind : ℕ) (gone : List Gone)
    → Became lay r.saw r.slots r.marks r.old r.now → IsReached lay r.places r.saw reach → AreDone lay r i d → xs ≡ tree.list_of r.now → i < length xs → y ≡ get_or xs i y
    → marks_of (told ps behind gone) ≡ r.marks → (HasNumber (marks_of (told ps behind gone)) i → trace_of (marks_of (told ps behind gone)) i ≡ Some e)
    → (ss : List Slot) → r.slots ≡ slots_of ss → length ss < 2 ^ 64 → IsNext lay r i d y e
next_is lay r i d y e xs reach ps behind gone became reached done all l here marks tells ss slots few =
    let there = item_there xs r.now i i y all refl l here in
    record {
      became = became;
      scope = reached.scope;
      done = done;
      there = there;
      told =
          ap (λ m. trace_of m i) (sym marks)
          ∙ tells (subst (λ m. HasNumber m i) (sym marks) (number_fits lay r.saw r.marks r.old r.now ss i y (subst (λ s. Became lay r.saw s r.marks r.old r.now) slots became) few there));
    }

pub one_renewed : (lay : Laying) (r : Renewing) (i : ℕ) (d : Done) → AreDone lay r (suc i) d → AreDone lay r (i + 1) d
one_renewed lay r i d done = subst (λ n. AreDone lay r n d) (sym (add-one i)) done

pub body_done : (lay : Laying) (r : Renewing) (i : ℕ) (d : Done) (xs : List Item) → AreDone lay r i d → xs ≡ tree.list_of r.now → i ≤ length xs → length xs ≤ i → slots_of d.slots.items ≡ slots_there lay r.places r.now
body_done lay r i d xs done all up down = all_done lay r i d done (let e = ap length all in let s : length (tree.list_of r.now) ≡ i = omega (arith, e, up, down) in s)

-- before items that stayed no more differs than what was met up to the end
pub differs_no_more : (lay : Laying) (r : Renewing) (i : ℕ) (d : Done) (xs : List Item) → Became lay r.saw r.slots r.marks r.old r.now → AreDone lay r i d → xs ≡ tree.list_of r.now → length xs ≤ i
    → DiffersNoMoreBefore lay d.reach.alert r.marks r.old r.now r.saw (around_places lay r.places)
differs_no_more lay r i d xs became done all down = λ j n firsts inside y got told unmoved.
    let low = get-within (tree.list_of r.now) j y got in
    let many : length xs ≡ length (tree.list_of r.now) = ap length all in
    no_more_differs_before lay d.reach.alert r.marks r.old r.now r.saw (around_places lay r.places) i became.describes became.in_order done.tells done.agree j n firsts inside y (omega (arith, low, many, down)) got told unmoved
