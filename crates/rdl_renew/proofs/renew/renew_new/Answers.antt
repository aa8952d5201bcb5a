use Rattle.std.proofs.Common.{ap, ◌∙◌}
use Rattle.rdl_places.specs.HeldScope.{places_of}
use Rattle.rdl_seen.specs.declared.alert.Alert.{Alert}
use Rattle.rdl_seen.specs.Alert.{with_alert}
use Rattle.rdl_renew.specs.Fronts.{front_of}
use Rattle.rdl_renew.specs.HeldRenewal.{renewing}
use Rattle.rdl_renew.proofs.CleanSteps.{on_any, new_clean}
use Rattle.rdl_renew.proofs.CountSteps.{on_two, new_counted}
use Rattle.rdl_renew.proofs.ItemSteps.{on_all, on_both, new_done}
use Rattle.rdl_renew.proofs.OneDone.{place_made}
use Rattle.rdl_renew.proofs.Raises.{with_none}
use Rattle.rdl_renew.proofs.renew.renew_new.Goals as goal

pub returns-clause-done : goal.returns-clause-done
returns-clause-done g c = λ m old saw n e next anew.
    let r = renewing c.args.renewal.now m old saw in
    let d = c.args.done.now in
    let there = place_made r d (places_of c.among-scope.result) c.len-number.result c.as_slice.result.now c.among-scope.ensures c.len-number.ensures c.as_slice.ensures.value in
    on_all c.put.result c.put.ensures.slots c.put.ensures.defaults c.put.ensures.alert
    (new_done g.L.Lays.laying r n d c.put.new.self c.args.item.now e (front_of c.in_ok-slot.slot) c.none.result (places_of c.among-scope.result) there next anew c.in_ok-slot.ensures.slot)

pub returns-clause-clean : goal.returns-clause-clean
returns-clause-clean g c = λ m old saw n e next.
    let lay = g.L.Lays.laying in
    let r = renewing c.args.renewal.now m old saw in
    let d = c.args.done.now in
    let ps = places_of c.among-scope.result in
    let there = place_made r d (places_of c.among-scope.result) c.len-number.result c.as_slice.result.now c.among-scope.ensures c.len-number.ensures c.as_slice.ensures.value in
    on_any c.put.result
    (new_clean lay r n d c.args.item.now e ps c.args.account.now.judge.is_clean c.look_at.new.self.is_clean c.slot_anew.new.account.judge.is_clean there next (c.look_at.ensures lay) c.in_ok-slot.ensures.clean)

pub returns-clause-placed : goal.returns-clause-placed
returns-clause-placed g c = λ m old saw n e next anew.
    let lay = g.L.Lays.laying in
    let r = renewing c.args.renewal.now m old saw in
    let d = c.args.done.now in
    let there = place_made r d (places_of c.among-scope.result) c.len-number.result c.as_slice.result.now c.among-scope.ensures c.len-number.ensures c.as_slice.ensures.value in
    on_two c.put.result (returns-clause-done g c m old saw n e next anew) c.put.ensures.slots
    (new_counted lay r n d c.put.new.self c.args.item.now e c.in_ok-slot.slot (places_of c.among-scope.result) c.args.account.now.placed c.slot_anew.new.account.placed there next anew c.in_ok-slot.ensures.slot
    c.in_ok-slot.ensures.placed)

pub returns-clause-properties : goal.returns-clause-properties
returns-clause-properties g c = on_both c.put.result c.put.ensures.alert (λ alert. ap (λ (x : Alert). x.properties) (alert ∙ (ap (with_alert c.args.done.now.reach.alert) c.none.ensures ∙ with_none c.args.done.now.reach.alert)))
