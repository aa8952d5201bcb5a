-- The items of a body that are renewed, one by one.
use Rattle.std.proofs.Common.{◌≡◌, ◌+◌, ◌*◌, ◌<◌, ◌^◌, ◌||◌, length, Some, None, refl, ap, subst, sym, ◌∙◌, arith, rules}
use Rattle.std.specs.Prelude.{option_map}
use Rattle.std.specs.Option.{option_copied}
use Rattle.rdl_scope.proofs.Sizes.{count-item}
use Rattle.rdl_tree.proofs.Sizes.{item_count}
use Rattle.rdl_marks.specs.Marks.{no_firsts}
use Rattle.rdl_marks.specs.View.{new_item, old_item, firsts_of, in_order}
use Rattle.rdl_nodes.specs.KeptNode.{kept_of}
use Rattle.rdl_nodes.specs.View.{slots_of}
use Rattle.rdl_nodes.proofs.Counts.{counts_so}
use Rattle.rdl_places.specs.HeldScope.{places_of}
use Rattle.rdl_places.specs.Scopes.{around_places}
use Rattle.rdl_seen.specs.declared.alert.Alert.{Alert}
use Rattle.rdl_seen.specs.Meaning.{around_before}
use Rattle.rdl_seen.specs.PropertySet.{with_properties}
use Rattle.rdl_renew.specs.declared.along.Stretch.{Stretch}
use Rattle.rdl_renew.specs.declared.done.Reach.{Reach}
use Rattle.rdl_renew.specs.AlikeSlots.{tells_of_width}
use Rattle.rdl_renew.specs.Along.{next_of}
use Rattle.rdl_renew.specs.Anew.{slots_there}
use Rattle.rdl_renew.specs.Fronts.{front_of}
use Rattle.rdl_renew.specs.HeldRenewal.{renewing}
use Rattle.rdl_renew.specs.InPlace.{AddAsSaid, IsLike}
use Rattle.rdl_renew.specs.Judged.{IsCleanBody}
use Rattle.rdl_renew.specs.Placed.{in_body, placed_stayed, sets_width}
use Rattle.rdl_renew.specs.Raised.{raised}
use Rattle.rdl_renew.specs.Renewing.{kept_component, Became, WasLaidOut}
use Rattle.rdl_renew.proofs.Again.{which_held}
use Rattle.rdl_renew.proofs.BodySteps.{first_done, next_is, body_done, differs_no_more}
use Rattle.rdl_renew.proofs.CleanSteps.{on_any, was_clean, stayed_clean, component_still, first_clean, body_clean}
use Rattle.rdl_renew.proofs.CountSteps.{if_both, on_two, width_either, on_told, stayed_became, stayed_counted, component_counted, bare_counted, unkept_counted, finished_counted, none_counted, all_counted}
use Rattle.rdl_renew.proofs.InPlace.{liken_add, none_add, next_add, first_alike, all_like}
use Rattle.rdl_renew.proofs.ItemSteps.{on_all, on_both, stayed_done, slot_made, with_next, reached_stayed}
use Rattle.rdl_renew.proofs.OneDone.{place_made}
use Rattle.rdl_renew.proofs.PassedOver.{told_of, same_reach, same_lasts, adds_passed, stand_next, stands_on}
use Rattle.rdl_renew.proofs.Raises.{with_none}
use Rattle.rdl_renew.proofs.renew.+renew.Goals as goal

pub renew_other-returns-in-New-clause-done : goal.renew_other-returns-in-New-clause-done
renew_other-returns-in-New-clause-done g t c = λ m old saw n next.
    c.renew_new.ensures.done m old saw n new_item (with_next g.L.Lays.laying (renewing c.args.renewal.now m old saw) n c.args.done.now c.args.item.now (next_of c.args.next) new_item (ap next_of c.in-New.is) next) tt

pub renew_other-returns-in-Same-clause-done : goal.renew_other-returns-in-Same-clause-done
renew_other-returns-in-Same-clause-done g t c = λ m old saw n next.
    let r = renewing c.args.renewal.now m old saw in
    let told : next_of c.args.next ≡ old_item c.in-Same.number no_firsts c.new-unchanged.result = ap next_of c.in-Same.is ∙ ap (old_item c.in-Same.number no_firsts) (sym c.new-unchanged.ensures) in
    c.renew_stayed.ensures.done m old saw n no_firsts
    (with_next g.L.Lays.laying r n c.args.done.now c.args.item.now (next_of c.args.next) (old_item c.in-Same.number no_firsts c.new-unchanged.result) told next) refl

pub renew_other-returns-then-mark-clause-done : goal.renew_other-returns-then-mark-clause-done
renew_other-returns-then-mark-clause-done g t c = λ m old saw n next.
    let r = renewing c.args.renewal.now m old saw in
    let mark = c.in-Marked.mark.now in
    c.renew_new-then-mark.ensures.done m old saw n (old_item c.in-Marked.number (firsts_of mark) mark.inside)
    (with_next g.L.Lays.laying r n c.args.done.now c.args.item.now (next_of c.args.next) (old_item c.in-Marked.number (firsts_of mark) mark.inside) (ap next_of c.in-Marked.is) next) c.if-mark.true

pub renew_other-returns-else-mark-clause-done : goal.renew_other-returns-else-mark-clause-done
renew_other-returns-else-mark-clause-done g t c = λ m old saw n next.
    let r = renewing c.args.renewal.now m old saw in
    let mark = c.in-Marked.mark.now in
    c.renew_marked.ensures.done m old saw n (firsts_of mark)
    (with_next g.L.Lays.laying r n c.args.done.now c.args.item.now (next_of c.args.next) (old_item c.in-Marked.number (firsts_of mark) mark.inside) (ap next_of c.in-Marked.is) next) c.if-mark.false

pub renew_marked-returns-in-Some-clause-done : goal.renew_marked-returns-in-Some-clause-done
renew_marked-returns-in-Some-clause-done g t c = λ m old saw n firsts next unmoved.
    let held = which_held c.args.done.now.reach.alert c.args.renewal.now.slots.now c.args.number c.args.inside.now c.args.item.now c.in-Some.slot c.in_ok-slot.field-0 c.in-Some.is c.in_ok-slot.ensures in
    c.renew_again.ensures.done g.L.Lays.laying m old saw n firsts c.args.inside.now next unmoved held

pub renew_marked-returns-in-Some-clause-placed : goal.renew_marked-returns-in-Some-clause-placed
renew_marked-returns-in-Some-clause-placed g t c = λ m old saw n firsts next unmoved.
    let held = which_held c.args.done.now.reach.alert c.args.renewal.now.slots.now c.args.number c.args.inside.now c.args.item.now c.in-Some.slot c.in_ok-slot.field-0 c.in-Some.is c.in_ok-slot.ensures in
    c.renew_again.ensures.placed g.L.Lays.laying m old saw n firsts c.args.inside.now next unmoved held

pub renew_stayed-returns-clause-done : goal.renew_stayed-returns-clause-done
renew_stayed-returns-clause-done g t c = λ m old saw n firsts next unmoved.
    let r = renewing c.args.renewal.now m old saw in
    let d = c.args.done.now in
    let there = place_made r d (places_of c.among-scope.result) c.len-count.result c.as_slice.result.now c.among-scope.ensures c.len-count.ensures c.as_slice.ensures.value in
    on_all c.put.result c.put.ensures.slots c.put.ensures.defaults c.put.ensures.alert
    (stayed_done g.L.Lays.laying r n d c.put.new.self c.args.item.now c.args.number firsts c.args.inside.now c.in_ok-slot.slot c.raises_behind-raises.result (option_map kept_of c.kept_slot-kept.result) (places_of c.among-scope.result)
    there next unmoved c.kept_slot-kept.ensures (c.in_ok-slot.ensures.slot (around_before g.L.Lays.laying c.args.number saw old)) c.raises_behind-raises.ensures.raises)

pub renewed_slot-returns-in_ok-node-in-Some-kept_component-clause-slot : goal.renewed_slot-returns-in_ok-node-in-Some-kept_component-clause-slot
renewed_slot-returns-in_ok-node-in-Some-kept_component-clause-slot g t c = λ saw became reached.
    let lay = g.L.Lays.laying in
    let ps = places_of c.args.scope.now in
    let kept = c.in-Some.kept in
    let component = c.in-Some-kept_component.component.now in
    let is : kept_component c.args.item.now ≡ Some component = sym c.kept_component.ensures ∙ ap option_copied c.in-Some-kept_component.is in
    let was = became (kept_of kept) component (ap (option_map kept_of) c.in-Some.is) is in
    let laid : WasLaidOut lay saw component.kind was.0 kept.node.now.core =
    record { own = was.2.own; own_weight = was.2.own_weight; values = was.2.values; layouts = was.2.layouts; apart = was.2.apart } in
    let node = c.in_ok-node-in-Some-kept_component.ensures.node was.0 saw was.1 laid reached in
    slot_made lay ps c.args.item.now component c.slot_with.result c.in_ok-node-in-Some-kept_component.node is node c.slot_with.ensures

pub renewed_component-returns-clause-node : goal.renewed_component-returns-clause-node
renewed_component-returns-clause-node g t c = λ old saw became laid reached.
    let lay = g.L.Lays.laying in
    let body = c.args.component.now.body in
    let inside = c.args.inside.now in
    let same = subst (λ s. Became lay saw s inside old body) (sym c.slots.ensures) became in
    let like = subst (λ s. IsLike inside s body c.in_ok-done.done) c.slots.ensures (c.in_ok-done.ensures.likeness old saw same reached) in
    c.finished_again.ensures.node old saw (around_places lay (places_of c.args.scope.now)) became laid (c.in_ok-done.ensures.alert old saw same reached) like reached.defaults (c.in_ok-done.ensures.slots old saw same reached)

pub renew_body-loop-number-init : goal.renew_body-loop-number-init
renew_body-loop-number-init g t c = record {
  passed = c.new-along.ensures;
  few = omega arith;
  lasts = c.in_ok-done.ensures.lasts c.args.renewal.now.body.now;
  stand = λ old saw became reached.
      let r = renewing c.args.renewal.now c.args.marks.now old saw in
      record {
        done =
            first_done g.L.Lays.laying r c.in_ok-done.done c.args.reach.now c.raised.result became reached c.in_ok-done.ensures.slots (ap (λ (x : Reach). x.defaults) c.in_ok-done.ensures.reach)
            (ap (λ (x : Reach). x.alert) c.in_ok-done.ensures.reach ∙ c.with.ensures) c.raised.ensures;
        clean = first_clean g.L.Lays.laying r c.args.account.now.judge.is_clean c.look_at_changed.new.self.is_clean became c.look_at_changed.ensures;
        counted =
            none_counted (tells_of_width c.args.reach.now.alert || sets_width r.marks r.now) r.marks r.slots (slots_there g.L.Lays.laying r.places r.now) r.now c.as_slice-items.result.now c.args.account.now.placed c.as_slice-items.ensures;
        in_place = λ so j l. absurd (omega (arith, l));
        alike = first_alike r.marks r.slots (slots_there g.L.Lays.laying r.places r.now) r.now c.in_ok-done.done c.in_ok-done.ensures.alike;
      };
  add_same = none_add (slots_of c.args.renewal.now.slots.now) c.in_ok-done.done c.in_ok-done.ensures.slots;
  width = ap (λ (x : Reach). x.alert.properties) c.in_ok-done.ensures.reach
      ∙ (ap (λ (x : Alert). x.properties) c.with.ensures ∙ ap (λ (x : Alert). with_properties c.args.reach.now.alert.properties x.properties) c.raised.ensures);
}

pub renew_body-renew_item-requires : goal.renew_body-renew_item-requires
renew_body-renew_item-requires g t c κs within =
    let few =
    count-item (c.loop-number.number + c.in_ok-passed.passed) c.args.renewal.now.body.now c.as_slice-items.result.now c.index-items-number.result c.index-items-number.result c.as_slice-items.ensures c.if-number-items.true
    c.index-items-number.is in
    let less : 9 * item_count c.index-items-number.result + 5 < t = omega (arith, c.decreases, few) in
    let lasts =
    same_lasts c.args.renewal.now.slots.now c.untouched-front.result c.within-stretch.result.from c.in_ok-passed.passed c.loop-number.done c.pass_over.new.self c.args.renewal.now.body.now c.in_ok-passed.ensures.passed
    c.loop-number.invariant.lasts in
    search (rules, less, lasts)

pub renew_body-loop-number-preserved : goal.renew_body-loop-number-preserved
renew_body-loop-number-preserved g t c =
    let lay = g.L.Lays.laying in
    let i = c.loop-number.number in
    let k = c.in_ok-passed.passed in
    let marks = c.marks.inside in
    let inv = c.loop-number.invariant in
    let slots = c.args.renewal.now.slots.now in
    let front = c.untouched-front.result in
    let from = c.within-stretch.result.from in
    let over = c.in_ok-passed.ensures.passed in
    let ys = c.as_slice-items.result.now in
    let count = ap (λ (z : Stretch). z.count) c.within-stretch.ensures in
    let few = c.in_ok-passed.ensures.few in
    let fit : length ys < 2 ^ 64 = search rules in
    record {
      passed = c.pass.ensures (in_order marks.pieces) marks.behind i (c.stretch.ensures.passed i inv.passed) (omega (arith, few, count, c.stretch.ensures.left)) (omega (arith, few, count, inv.few, fit));
      few = omega (arith, few, count, inv.few);
      lasts = same_lasts slots front from k c.loop-number.done c.pass_over.new.self c.args.renewal.now.body.now over inv.lasts;
      stand = λ old saw became reached.
          let r = renewing c.args.renewal.now c.args.marks.now old saw in
          let slots_fit : length slots < 2 ^ 64 = search rules in
          stands_on lay r ys (tells_of_width c.args.reach.now.alert || sets_width r.marks r.now) c.args.account.now.judge.is_clean c.loop-number.account.judge.is_clean c.args.account.now.placed c.loop-number.account.placed slots front i k
          c.stretch.result c.within-stretch.result c.loop-number.done c.pass_over.new.self refl c.untouched-front.ensures c.as_slice-items.ensures became reached.scope
          (told_of lay r i ys slots (in_order marks.pieces) marks.behind marks.gone.items c.stretch.result became refl slots_fit c.as_slice-items.ensures c.loop-number-test.true c.marks.view_is (c.stretch.ensures.told marks.gone.items i inv.passed))
          c.within-stretch.ensures inv.few few (width_either c.args.reach.now.alert.properties (raised r.marks r.now).properties c.loop-number.done.reach.alert inv.width) over (inv.stand old saw became reached);
      add_same = adds_passed slots front from k c.loop-number.done c.pass_over.new.self over inv.add_same;
      width = ap (λ (x : Reach). x.alert.properties) (same_reach slots front from k c.loop-number.done c.pass_over.new.self over) ∙ inv.width;
    }

pub renew_body-loop-number-preserved-then-number-items : goal.renew_body-loop-number-preserved-then-number-items
renew_body-loop-number-preserved-then-number-items g t c =
    let lay = g.L.Lays.laying in
    let i = c.loop-number.number in
    let k = c.in_ok-passed.passed in
    let n = i + k in
    let marks = c.marks.inside in
    let inv = c.loop-number.invariant in
    let slots = c.args.renewal.now.slots.now in
    let front = c.untouched-front.result in
    let from = c.within-stretch.result.from in
    let over = c.in_ok-passed.ensures.passed in
    let ys = c.as_slice-items.result.now in
    let y = c.index-items-number.result in
    let d = c.pass_over.new.self in
    let e = c.renew_item.new.done in
    let count = ap (λ (z : Stretch). z.count) c.within-stretch.ensures in
    let few = c.in_ok-passed.ensures.few in
    let low = c.if-number-items.true in
    let fit : length ys < 2 ^ 64 = search rules in
    let slots_fit : length slots < 2 ^ 64 = search rules in
    let passed = c.pass.ensures (in_order marks.pieces) marks.behind i (c.stretch.ensures.passed i inv.passed) (omega (arith, few, count, c.stretch.ensures.left)) (omega (arith, low, fit)) in
    let width = ap (λ (x : Reach). x.alert.properties) (same_reach slots front from k c.loop-number.done d over) ∙ inv.width in
    record {
      passed = c.next-next.ensures.passed n (omega (arith, low, fit)) passed;
      few = omega (arith, low);
      lasts = c.renew_item.ensures.lasts;
      stand = λ old saw became reached.
          let r = renewing c.args.renewal.now c.args.marks.now old saw in
          let w = tells_of_width c.args.reach.now.alert || sets_width r.marks r.now in
          let here =
          stands_on lay r ys w c.args.account.now.judge.is_clean c.loop-number.account.judge.is_clean c.args.account.now.placed c.loop-number.account.placed slots front i k
          c.stretch.result c.within-stretch.result c.loop-number.done d refl c.untouched-front.ensures c.as_slice-items.ensures became reached.scope
          (told_of lay r i ys slots (in_order marks.pieces) marks.behind marks.gone.items c.stretch.result became refl slots_fit c.as_slice-items.ensures c.loop-number-test.true c.marks.view_is (c.stretch.ensures.told marks.gone.items i inv.passed))
          c.within-stretch.ensures inv.few few (width_either c.args.reach.now.alert.properties (raised r.marks r.now).properties c.loop-number.done.reach.alert inv.width) over (inv.stand old saw became reached) in
          let next =
          next_is lay r n d y (next_of c.next-next.result) ys c.args.reach.now (in_order marks.pieces) marks.behind marks.gone.items became reached here.done c.as_slice-items.ensures low c.index-items-number.is c.marks.view_is
          (c.next-next.ensures.next marks.gone.items n passed) slots refl slots_fit in
          stand_next lay r ys w c.args.account.now.judge.is_clean c.loop-number.account.judge.is_clean c.renew_item.new.account.judge.is_clean c.args.account.now.placed c.loop-number.account.placed c.renew_item.new.account.placed n d e y
          (next_of c.next-next.result) next c.as_slice-items.ensures low c.index-items-number.is (width_either c.args.reach.now.alert.properties (raised r.marks r.now).properties d.reach.alert width) here
          (c.in_ok-renew_item.ensures.done c.args.marks.now old saw n next) (c.in_ok-renew_item.ensures.clean c.args.marks.now old saw n next) (c.in_ok-renew_item.ensures.placed c.args.marks.now old saw n next)
          c.in_ok-renew_item.ensures.in_place c.in_ok-renew_item.ensures.alike;
      add_same = next_add (slots_of slots) d e (adds_passed slots front from k c.loop-number.done d over inv.add_same) c.in_ok-renew_item.ensures.add_same;
      width = c.in_ok-renew_item.ensures.properties ∙ width;
    }

pub renew_body-returns-clause-slots : goal.renew_body-returns-clause-slots
renew_body-returns-clause-slots g t c = λ old saw became reached.
    let r = renewing c.args.renewal.now c.args.marks.now old saw in
    body_done g.L.Lays.laying r c.loop-number.number c.loop-number.done c.as_slice-items.result.now (c.loop-number.invariant.stand old saw became reached).done c.as_slice-items.ensures
    c.loop-number.invariant.few c.loop-number-test.false

pub renew_body-returns-clause-alert : goal.renew_body-returns-clause-alert
renew_body-returns-clause-alert g t c = λ old saw became reached.
    let r = renewing c.args.renewal.now c.args.marks.now old saw in
    differs_no_more g.L.Lays.laying r c.loop-number.number c.loop-number.done c.as_slice-items.result.now became (c.loop-number.invariant.stand old saw became reached).done c.as_slice-items.ensures c.loop-number-test.false

-- ---- That no item has a fault.

pub renew_stayed-returns-clause-clean : goal.renew_stayed-returns-clause-clean
renew_stayed-returns-clause-clean g t c = λ m old saw n firsts next unmoved.
    let lay = g.L.Lays.laying in
    let r = renewing c.args.renewal.now m old saw in
    let d = c.args.done.now in
    let ps = places_of c.among-scope.result in
    let there = place_made r d (places_of c.among-scope.result) c.len-count.result c.as_slice.result.now c.among-scope.ensures c.len-count.ensures c.as_slice.ensures.value in
    on_any c.put.result
    (stayed_clean lay r n d c.args.item.now c.args.number firsts c.args.inside.now (option_map kept_of c.kept_slot-kept.result) ps c.args.account.now.judge.is_clean c.look_at.new.self.is_clean c.renewed_slot.new.account.judge.is_clean
    there next unmoved c.kept_slot-kept.ensures (c.look_at.ensures lay) (c.in_ok-slot.ensures.clean (around_before lay c.args.number saw old) (was_clean lay r)))

pub renewed_slot-returns-in_ok-node-in-Some-kept_component-clause-clean : goal.renewed_slot-returns-in_ok-node-in-Some-kept_component-clause-clean
renewed_slot-returns-in_ok-node-in-Some-kept_component-clause-clean g t c = λ saw clean became reached.
    let lay = g.L.Lays.laying in
    let ps = places_of c.args.scope.now in
    let kept = c.in-Some.kept in
    let component = c.in-Some-kept_component.component.now in
    let is : kept_component c.args.item.now ≡ Some component = sym c.kept_component.ensures ∙ ap option_copied c.in-Some-kept_component.is in
    let was = became (kept_of kept) component (ap (option_map kept_of) c.in-Some.is) is in
    let inside = c.in_ok-node-in-Some-kept_component.ensures.clean was.0 saw was.1 reached in
    on_any c.slot_with.result (component_still lay ps c.args.item.now component _ _ clean (IsCleanBody lay saw (Some component.kind) was.0) is was.2 inside)

pub renew_body-returns-clause-clean : goal.renew_body-returns-clause-clean
renew_body-returns-clause-clean g t c = λ old saw became reached.
    let r = renewing c.args.renewal.now c.args.marks.now old saw in
    body_clean g.L.Lays.laying r c.loop-number.number c.args.account.now.judge.is_clean c.loop-number.account.judge.is_clean c.as_slice-items.result.now (c.loop-number.invariant.stand old saw became reached).clean c.as_slice-items.ensures
    c.loop-number-test.false

-- ---- How many instances are placed.

pub renew_other-returns-in-New-clause-placed : goal.renew_other-returns-in-New-clause-placed
renew_other-returns-in-New-clause-placed g t c = λ m old saw n next.
    let lay = g.L.Lays.laying in
    let r = renewing c.args.renewal.now m old saw in
    let d = c.args.done.now in
    let y = c.args.item.now in
    let told : next_of c.args.next ≡ new_item = ap next_of c.in-New.is in
    on_told lay r n y new_item (next_of c.args.next) (tells_of_width d.reach.alert) c.args.account.now.placed c.renew_new.new.account.placed c.renew_new.result told
    (c.renew_new.ensures.placed m old saw n new_item (with_next lay r n d y (next_of c.args.next) new_item told next) tt)

pub renew_other-returns-in-Same-clause-placed : goal.renew_other-returns-in-Same-clause-placed
renew_other-returns-in-Same-clause-placed g t c = λ m old saw n next.
    let lay = g.L.Lays.laying in
    let r = renewing c.args.renewal.now m old saw in
    let d = c.args.done.now in
    let y = c.args.item.now in
    let e = old_item c.in-Same.number no_firsts c.new-unchanged.result in
    let told : next_of c.args.next ≡ e = ap next_of c.in-Same.is ∙ ap (old_item c.in-Same.number no_firsts) (sym c.new-unchanged.ensures) in
    on_told lay r n y e (next_of c.args.next) (tells_of_width d.reach.alert) c.args.account.now.placed c.renew_stayed.new.account.placed c.renew_stayed.result told
    (c.renew_stayed.ensures.placed m old saw n no_firsts (with_next lay r n d y (next_of c.args.next) e told next) refl)

pub renew_other-returns-then-mark-clause-placed : goal.renew_other-returns-then-mark-clause-placed
renew_other-returns-then-mark-clause-placed g t c = λ m old saw n next.
    let lay = g.L.Lays.laying in
    let r = renewing c.args.renewal.now m old saw in
    let d = c.args.done.now in
    let y = c.args.item.now in
    let mark = c.in-Marked.mark.now in
    let e = old_item c.in-Marked.number (firsts_of mark) mark.inside in
    let told : next_of c.args.next ≡ e = ap next_of c.in-Marked.is in
    on_told lay r n y e (next_of c.args.next) (tells_of_width d.reach.alert) c.args.account.now.placed c.renew_new-then-mark.new.account.placed c.renew_new-then-mark.result told
    (c.renew_new-then-mark.ensures.placed m old saw n e (with_next lay r n d y (next_of c.args.next) e told next) c.if-mark.true)

pub renew_other-returns-else-mark-clause-placed : goal.renew_other-returns-else-mark-clause-placed
renew_other-returns-else-mark-clause-placed g t c = λ m old saw n next.
    let lay = g.L.Lays.laying in
    let r = renewing c.args.renewal.now m old saw in
    let d = c.args.done.now in
    let y = c.args.item.now in
    let mark = c.in-Marked.mark.now in
    let e = old_item c.in-Marked.number (firsts_of mark) mark.inside in
    let told : next_of c.args.next ≡ e = ap next_of c.in-Marked.is in
    on_told lay r n y e (next_of c.args.next) (tells_of_width d.reach.alert) c.args.account.now.placed c.renew_marked.new.account.placed c.renew_marked.result told
    (c.renew_marked.ensures.placed m old saw n (firsts_of mark) (with_next lay r n d y (next_of c.args.next) e told next) c.if-mark.false)

pub renew_stayed-returns-clause-placed : goal.renew_stayed-returns-clause-placed
renew_stayed-returns-clause-placed g t c = λ m old saw n firsts next unmoved.
    let lay = g.L.Lays.laying in
    let r = renewing c.args.renewal.now m old saw in
    let d = c.args.done.now in
    let ps = places_of c.among-scope.result in
    let there = place_made r d ps c.len-count.result c.as_slice.result.now c.among-scope.ensures c.len-count.ensures c.as_slice.ensures.value in
    let kept = option_map kept_of c.kept_slot-kept.result in
    let became = stayed_became lay r n d c.args.item.now c.args.number firsts c.args.inside.now kept next c.kept_slot-kept.ensures in
    let reached = reached_stayed lay r n d c.args.item.now c.args.number firsts c.args.inside.now ps there next unmoved in
    on_two c.put.result (renew_stayed-returns-clause-done g t c m old saw n firsts next unmoved) c.put.ensures.slots
    (stayed_counted lay r n d c.put.new.self c.args.item.now c.args.number firsts c.args.inside.now kept c.in_ok-slot.slot c.args.account.now.placed c.renewed_slot.new.account.placed next unmoved c.kept_slot-kept.ensures
    (c.in_ok-slot.ensures.placed (around_before lay c.args.number saw old) became reached))

pub renew_stayed-returns-clause-properties : goal.renew_stayed-returns-clause-properties
renew_stayed-returns-clause-properties g t c = on_both c.put.result c.put.ensures.alert
    (λ alert.
    ap (λ (x : Alert). x.properties) alert
    ∙ (ap (with_properties c.args.done.now.reach.alert.properties) c.raises_behind-raises.ensures.properties ∙ ap (λ (x : Alert). x.properties) (with_none c.args.done.now.reach.alert)))

pub renewed_slot-returns-in_ok-node-in-Some-kept_component-clause-placed : goal.renewed_slot-returns-in_ok-node-in-Some-kept_component-clause-placed
renewed_slot-returns-in_ok-node-in-Some-kept_component-clause-placed g t c = λ saw became reached.
    let kept = c.in-Some.kept in
    let component = c.in-Some-kept_component.component.now in
    let w = tells_of_width c.args.reach.now.alert in
    let inside = c.args.inside.now in
    let is : kept_component c.args.item.now ≡ Some component = sym c.kept_component.ensures ∙ ap option_copied c.in-Some-kept_component.is in
    let there : option_map kept_of c.args.kept ≡ Some (kept_of kept) = ap (option_map kept_of) c.in-Some.is in
    let was = became (kept_of kept) component there is in
    let node = c.in_ok-node-in-Some-kept_component.node in
    let counted = c.in_ok-node-in-Some-kept_component.ensures.placed was.0 saw was.1 reached in
    component_counted c.args.item.now component node w inside (option_map kept_of c.args.kept) c.args.account.now.placed c.renewed_component.new.account.placed c.slot_with.result is
    (counts_so c.args.account.now.placed c.renewed_component.new.account.placed (ap (λ k. placed_stayed (in_body component.body) w inside k component.body (Some node)) (sym there)) counted) c.slot_with.ensures

pub renewed_slot-returns-in-None-kept_component-clause-placed : goal.renewed_slot-returns-in-None-kept_component-clause-placed
renewed_slot-returns-in-None-kept_component-clause-placed g t c = λ saw became reached.
    let lay = g.L.Lays.laying in
    let ps = places_of c.args.scope.now in
    let none : kept_component c.args.item.now ≡ None = sym c.kept_component.ensures ∙ ap option_copied c.in-None-kept_component.is in
    if_both c.slot_anew.result (c.slot_anew.ensures.slot reached.scope reached.defaults) c.slot_anew.ensures.placed
    (λ x front counted.
    bare_counted lay ps (tells_of_width c.args.reach.now.alert) c.args.inside.now (option_map kept_of c.args.kept) c.args.item.now (front_of x) _ _ none front counted)

pub renewed_slot-returns-in-None-clause-placed : goal.renewed_slot-returns-in-None-clause-placed
renewed_slot-returns-in-None-clause-placed g t c = λ saw became reached.
    let lay = g.L.Lays.laying in
    let ps = places_of c.args.scope.now in
    let none : option_map kept_of c.args.kept ≡ None = ap (option_map kept_of) c.in-None.is in
    if_both c.slot_anew-in-None.result (c.slot_anew-in-None.ensures.slot reached.scope reached.defaults) c.slot_anew-in-None.ensures.placed
    (λ x front counted.
    unkept_counted lay ps (tells_of_width c.args.reach.now.alert) c.args.inside.now (option_map kept_of c.args.kept) c.args.item.now (front_of x) _ _ none front counted)

pub renewed_component-returns-clause-placed : goal.renewed_component-returns-clause-placed
renewed_component-returns-clause-placed g t c = λ old saw became reached.
    let lay = g.L.Lays.laying in
    let body = c.args.component.now.body in
    let inside = c.args.inside.now in
    let before = c.args.before.now in
    let same = subst (λ s. Became lay saw s inside old body) (sym c.slots.ensures) became in
    let first = c.in_ok-done.ensures.placed old saw same reached in
    let like = subst (λ s. IsLike inside s body c.in_ok-done.done) c.slots.ensures (c.in_ok-done.ensures.likeness old saw same reached) in
    if_both c.finished_again.result c.finished_again.ensures.slots (c.finished_again.ensures.placed old saw became like)
    (λ n slots counted.
    finished_counted body inside before n (slots_of c.slots.result.now) (slots_of c.in_ok-done.done.slots.items) (tells_of_width c.in_ok-done.done.reach.alert)
    (tells_of_width c.args.reach.now.alert || sets_width inside body) c.args.account.now.placed c.renew_body.new.account.placed c.finished_again.new.placed c.in_ok-done.ensures.width c.slots.ensures slots first counted)

pub renew_body-returns-clause-placed : goal.renew_body-returns-clause-placed
renew_body-returns-clause-placed g t c = λ old saw became reached.
    let r = renewing c.args.renewal.now c.args.marks.now old saw in
    all_counted (tells_of_width c.args.reach.now.alert || sets_width r.marks r.now) r.marks r.slots (slots_there g.L.Lays.laying r.places r.now) (slots_of c.loop-number.done.slots.items) r.now c.as_slice-items.result.now
    c.loop-number.number c.args.account.now.placed c.loop-number.account.placed (c.loop-number.invariant.stand old saw became reached).counted c.loop-number-test.false (renew_body-returns-clause-slots g t c old saw became reached)

pub renew_body-returns-clause-width : goal.renew_body-returns-clause-width
renew_body-returns-clause-width g t c =
    width_either c.args.reach.now.alert.properties (raised c.args.marks.now c.args.renewal.now.body.now).properties c.loop-number.done.reach.alert c.loop-number.invariant.width

pub renew_body-returns-clause-likeness : goal.renew_body-returns-clause-likeness
renew_body-returns-clause-likeness g t c = λ old saw became reached.
    let r = renewing c.args.renewal.now c.args.marks.now old saw in
    all_like g.L.Lays.laying r c.loop-number.number c.loop-number.done c.as_slice-items.result.now (c.loop-number.invariant.stand old saw became reached).in_place (c.loop-number.invariant.stand old saw became reached).alike
    c.as_slice-items.ensures c.loop-number-test.false (renew_body-returns-clause-slots g t c old saw became reached)

pub renewed_component-finished_again-requires : goal.renewed_component-finished_again-requires
renewed_component-finished_again-requires g t c = subst (λ s. AddAsSaid s c.in_ok-done.done) c.slots.ensures c.in_ok-done.ensures.add_same

-- ---- How its items are like what they were.

pub renew_item-returns-clause-add_same : goal.renew_item-returns-clause-add_same
renew_item-returns-clause-add_same g t c =
    let number : c.len-number.result ≡ length c.args.done.now.slots.items = search rules in
    liken_add (slots_of c.args.renewal.now.slots.now) c.args.done.now c.renew_other.new.done c.liken.new.self c.len-number.result c.in_ok-renew_other.ensures.likeness c.liken.ensures.slots number c.liken.ensures.add_same
