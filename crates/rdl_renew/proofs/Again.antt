-- An item that was changed itself, and whose component is as it was.
use Rattle.std.proofs.Common.{◌≡◌, ℕ, Bool, true, false, List, Option, Some, None, refl, sym, ap, subst, ◌∙◌}
use Rattle.std.specs.Prelude.{slice_get, option_and_then, Result, Ok, Err, IfOk, IfSome}
use Rattle.rdl_tree.specs.Items.{Items}
use Rattle.rdl_tree.specs.declared.description.Component.{Component}
use Rattle.rdl_tree.specs.declared.description.Item.{Item}
use Rattle.rdl_tree.proofs.Rounds.{items_of-list_of}
use Rattle.rdl_tree.specs.View as tree
use Rattle.rdl_marks.specs.Describes.{Describes}
use Rattle.rdl_marks.specs.Marks.{Firsts, no_firsts, Marks, no_marks}
use Rattle.rdl_marks.specs.View.{old_item}
use Rattle.rdl_nodes.specs.KeptNode.{slot_node}
use Rattle.rdl_nodes.specs.Placed.{CountsOn}
use Rattle.rdl_nodes.specs.View.{slots_of}
use Rattle.rdl_nodes.specs.declared.node.Slot.{Slot}
use Rattle.rdl_nodes.proofs.Counts.{counts_so, counts_none}
use Rattle.rdl_nodes.proofs.Paths.{kept_at_is}
use Rattle.rdl_places.specs.Scopes.{Place, around_places}
use Rattle.rdl_seen.specs.declared.alert.Alert.{Alert}
use Rattle.rdl_seen.specs.Alert.{reaches}
use Rattle.rdl_seen.specs.Layouts.{Laying}
use Rattle.rdl_seen.specs.Meaning.{around_before, kept_at}
use Rattle.rdl_seen.specs.Node.{Around, node}
use Rattle.rdl_seen.specs.Slots.{no_slots, written, Node}
use Rattle.rdl_seen.proofs.Alerts.{unreached_are_kept}
use Rattle.rdl_renew.specs.declared.done.Done.{Done}
use Rattle.rdl_renew.specs.Again.{IsSameComponent, IsHeldAgain}
use Rattle.rdl_renew.specs.AlikeSlots.{tells_of_width}
use Rattle.rdl_renew.specs.Anew.{slot_there}
use Rattle.rdl_renew.specs.Counting.{stayed_placed}
use Rattle.rdl_renew.specs.Fronts.{front_of}
use Rattle.rdl_renew.specs.Judged.{IfStillClean, IsCleanBody, HasNoneInside}
use Rattle.rdl_renew.specs.Renewing.{Renewing, IsReached, IsNext, kept_component, written_of}
use Rattle.rdl_renew.specs.StillClean.{BecameClean}
use Rattle.rdl_renew.proofs.CleanSteps.{clean_inside, same_judge}
use Rattle.rdl_renew.proofs.ItemSteps.{WasThere, was_there, slot_of_component, component_was}
use Rattle.rdl_renew.proofs.PlacedItems.{stayed_item, settled_placed}
use Rattle.rdl_renew.proofs.Raised.{from_there}

-- such a slot, as the code makes it
pub held_again : {E : Type 0} (x : Alert) (slots : List Slot) (number : ℕ) (inside : Marks) (y : Item) (before : Slot) (component : Component) (o : Result (Option Slot) E) → inside ≡ no_marks → tells_of_width x ≡ false
    → kept_component y ≡ Some component → slice_get slots number ≡ Some before → IfOk o (λ again. IfSome again (λ s. IsSameComponent (written_of y) x before s))
    → IfOk o (λ again. IfSome again (λ s. IsHeldAgain x slots number inside y s))
held_again x slots number inside y before component (Ok None) untouched width is there same = tt
held_again x slots number inside y before component (Ok (Some s)) untouched width is there same =
    record { untouched = untouched; width = width; component = component; is = is; before = before; there = there; same = same }
held_again x slots number inside y before component (Err e) untouched width is there same = tt

pub which_held : (x : Alert) (slots : List Slot) (number : ℕ) (inside : Marks) (y : Item) (s : Slot) (o : Option Slot) → o ≡ Some s → IfSome o (λ s. IsHeldAgain x slots number inside y s) → IsHeldAgain x slots number inside y s
which_held x slots number inside y s o is held = subst (λ q. IfSome q (λ s. IsHeldAgain x slots number inside y s)) is held

-- a body in which nothing was changed is what it was
same_body : (m : Marks) (old now : Items) → m ≡ no_marks → Describes m old now → old ≡ now
same_body m old now none described =
    let same : tree.list_of now ≡ tree.list_of old = (subst (λ n. Describes n old now) none described).items in
    sym (items_of-list_of old) ∙ (ap tree.items_of (sym same) ∙ items_of-list_of now)

-- what was kept of the item
kept_is : (number : ℕ) (r : Renewing) (xs : List Slot) (before : Slot) → r.slots ≡ slots_of xs → slice_get xs number ≡ Some before → kept_at number r.slots ≡ slot_node before
kept_is number r xs before of there = ap (kept_at number) of ∙ (kept_at_is xs number ∙ ap (option_and_then slot_node) there)

-- it is what is kept of the component that it has now, by what that saw
module _ (lay : Laying) (r : Renewing) (n : ℕ) (d : Done) (y : Item) (number : ℕ) (firsts : Firsts) (inside : Marks) (s : Slot) (xs : List Slot) (next : IsNext lay r n d y (old_item number firsts inside))
    (of : r.slots ≡ slots_of xs) (h : IsHeldAgain d.reach.alert xs number inside y s) where
  abbrev saw : Around
  saw = around_before lay number r.saw r.old

  abbrev was : WasThere r.old number inside y
  was = was_there r.old number firsts inside y (from_there r.marks r.old r.now n (old_item number firsts inside) y next.became.describes next.there next.told)

  keeps : kept_at number r.slots ≡ Some h.same.node
  keeps = kept_is number r xs h.before of h.there ∙ h.same.kept

  held : h.same.node ≡ node lay saw h.component.kind h.component.body
  held =
      component_was lay r.saw r.old number inside y r.slots (Some h.same.node) was next.became.kept (sym keeps) h.same.node h.component refl h.is
      ∙ ap (node lay saw h.component.kind) (same_body inside (was.described h.component h.is).0 h.component.body h.untouched (was.described h.component h.is).2)

  deaf : reaches d.reach.alert (node lay saw h.component.kind h.component.body).core.seen ≡ false
  deaf = ap (λ (k : Node). reaches d.reach.alert k.core.seen) (sym held) ∙ h.same.deaf

  -- so its slot is that of its place
  pub again_there : (there : List Place) → IsReached lay there saw d.reach → front_of s ≡ slot_there lay there y
  again_there there reached =
      let kept = (unreached_are_kept lay d.reach.alert saw (around_places lay there) h.component.kind h.component.body reached.agree deaf).0 in
      let same : h.same.node ≡ node lay (around_places lay there) h.component.kind h.component.body = held ∙ sym kept in
      h.same.front ∙ ((λ j. written (written_of y) (same j).core (same j).slots no_slots) ∙ sym (slot_of_component lay there y h.component h.is))

  -- nothing inside it has a fault, where nothing had
  pub again_clean : (there : List Place) (b was_clean : Bool) → BecameClean lay saw (kept_at number r.slots) inside was_clean y → IsReached lay there saw d.reach → IfStillClean b b (was_clean ≡ true → HasNoneInside lay there y)
  again_clean there b was_clean became reached = same_judge b (λ e. clean_inside lay (around_places lay there) y h.component h.is (stays (first e)))
    where
      old : Items
      old = (became h.same.node h.component keeps h.is).0

      first : was_clean ≡ true → IsCleanBody lay saw (Some h.component.kind) h.component.body
      first e = subst (IsCleanBody lay saw (Some h.component.kind)) (same_body inside old h.component.body h.untouched (became h.same.node h.component keeps h.is).1.describes) ((became h.same.node h.component keeps h.is).2 e)

      stays : IsCleanBody lay saw (Some h.component.kind) h.component.body → IsCleanBody lay (around_places lay there) (Some h.component.kind) h.component.body
      stays e = (unreached_are_kept lay d.reach.alert saw (around_places lay there) h.component.kind h.component.body reached.agree deaf).1 ∙ e

  -- and nothing is placed for it
  pub again_placed : (a : ℕ) → CountsOn a a (stayed_placed (tells_of_width d.reach.alert) inside (kept_at number r.slots) (kept_at 0 (front_of s)) y)
  again_placed a =
      let w = tells_of_width d.reach.alert in
      let now = kept_at 0 (front_of s) in
      let put : now ≡ kept_at number r.slots = ap (kept_at 0) h.same.front ∙ sym keeps in
      counts_so a a
      (sym
      (ap (λ m. stayed_placed w m (kept_at number r.slots) now y) h.untouched
      ∙ (sym (stayed_item w r.slots number no_firsts no_marks now y refl) ∙ settled_placed r.slots number now y w put (λ k is. h.width))))
      (counts_none a)
