use Rattle.std.proofs.Common.{refl, ap, ◌∙◌}
use Rattle.std.specs.Prelude.{option_map}
use Rattle.rdl_nodes.specs.KeptNode.{kept_of}
use Rattle.rdl_places.specs.HeldScope.{places_of}
use Rattle.rdl_seen.specs.declared.alert.Alert.{Alert}
use Rattle.rdl_seen.specs.Meaning.{kept_at}
use Rattle.rdl_seen.specs.PropertySet.{with_properties}
use Rattle.rdl_renew.specs.HeldRenewal.{renewing}
use Rattle.rdl_renew.proofs.Again.{again_there, again_clean, again_placed}
use Rattle.rdl_renew.proofs.CleanSteps.{on_any, was_clean, stayed_clean}
use Rattle.rdl_renew.proofs.CountSteps.{on_two, stayed_counted}
use Rattle.rdl_renew.proofs.ItemSteps.{on_all, on_both, stayed_done}
use Rattle.rdl_renew.proofs.OneDone.{place_made}
use Rattle.rdl_renew.proofs.Raises.{with_none}
use Rattle.rdl_renew.proofs.renew.renew_again.Goals as goal

pub returns-clause-done : goal.returns-clause-done
returns-clause-done c = λ lay m old saw n firsts inside next unmoved held.
    let r = renewing c.args.renewal.now m old saw in
    let d = c.args.done.now in
    let y = c.args.item.now in
    let ps = places_of c.new-scope.result in
    let there = place_made r d ps c.len-count.result c.as_slice-slots.result.now c.new-scope.ensures c.len-count.ensures c.as_slice-slots.ensures.value in
    on_all c.put.result c.put.ensures.slots c.put.ensures.defaults c.put.ensures.alert
    (stayed_done lay r n d c.put.new.self y c.args.number firsts inside c.args.slot c.raises_behind-raises.result (option_map kept_of c.kept_slot-kept.result) ps there next unmoved c.kept_slot-kept.ensures
    (λ became reached. again_there lay r n d y c.args.number firsts inside c.args.slot c.args.renewal.now.slots.now next refl held ps reached) c.raises_behind-raises.ensures.raises)

pub returns-clause-clean : goal.returns-clause-clean
returns-clause-clean c = λ lay m old saw n firsts inside next unmoved held.
    let r = renewing c.args.renewal.now m old saw in
    let d = c.args.done.now in
    let y = c.args.item.now in
    let ps = places_of c.new-scope.result in
    let look = c.look_at.new.self.is_clean in
    let there = place_made r d ps c.len-count.result c.as_slice-slots.result.now c.new-scope.ensures c.len-count.ensures c.as_slice-slots.ensures.value in
    on_any c.put.result
    (stayed_clean lay r n d y c.args.number firsts inside (kept_at c.args.number r.slots) ps c.args.account.now.judge.is_clean look look there next unmoved refl (c.look_at.ensures lay)
    (λ became reached. again_clean lay r n d y c.args.number firsts inside c.args.slot c.args.renewal.now.slots.now next refl held ps look (was_clean lay r) became reached))

pub returns-clause-placed : goal.returns-clause-placed
returns-clause-placed c = λ lay m old saw n firsts inside next unmoved held.
    let r = renewing c.args.renewal.now m old saw in
    let d = c.args.done.now in
    let y = c.args.item.now in
    let a = c.args.account.now.placed in
    on_two c.put.result (returns-clause-done c lay m old saw n firsts inside next unmoved held) c.put.ensures.slots
    (stayed_counted lay r n d c.put.new.self y c.args.number firsts inside (kept_at c.args.number r.slots) c.args.slot a a next unmoved refl
    (again_placed lay r n d y c.args.number firsts inside c.args.slot c.args.renewal.now.slots.now next refl held a))

pub returns-clause-properties : goal.returns-clause-properties
returns-clause-properties c = on_both c.put.result c.put.ensures.alert
    (λ alert.
    ap (λ (x : Alert). x.properties) alert
    ∙ (ap (with_properties c.args.done.now.reach.alert.properties) c.raises_behind-raises.ensures.properties ∙ ap (λ (x : Alert). x.properties) (with_none c.args.done.now.reach.alert)))
