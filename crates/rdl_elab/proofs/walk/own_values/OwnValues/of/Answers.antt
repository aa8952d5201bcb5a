use Rattle.std.proofs.Common.{◌+◌, ap, sym, subst, arith}
use Rattle.std.specs.Prelude.{slice_get}
use Rattle.rdl_tree.specs.View.{list_of}
use Rattle.rdl_elab.specs.OwnValues.{IsInstance}
use Rattle.rdl_elab.proofs.OwnValues.{behind-instance, of-instances-at, stated-none, stated-all, stated-same}
use Rattle.rdl_elab.proofs.walk.own_values.OwnValues.of.Goals as goal
use Rattle.rdl_elab.proofs.walk.own_values.OwnValues.of.Goals.{then-next-place+then-place-len+in_ok-add_up_to, else-next-place}

pub loop-part-init : goal.loop-part-init
loop-part-init c = record { within = omega arith; stated = stated-none c.args.body.now c.new-items.result.items c.new-items.ensures.items }

pub loop-part-preserved : goal.loop-part-preserved
loop-part-preserved c =
    let body = c.args.body.now in
    let place = c.place-place.result in
    elim c.if-next-place.branch [
      | then-next-place+then-place-len+in_ok-add_up_to w ↦
          let there : IsInstance (slice_get (list_of body) place) = subst (λ n. IsInstance (slice_get (list_of body) n)) (sym c.place-place.ensures)
          (of-instances-at (list_of body) c.args.instances.now c.loop-part.part-index c.part-item.result c.loop-part-test.true c.part-item.is c.requires) in
          let behind = behind-instance place w.add_up_to.new.items.items w.add_up_to.new.first_dynamic body there w.in_ok-add_up_to.ensures in
          record {
            within = omega (arith, w.next-is, w.if-place-len.true, c.len-len.ensures);
            stated = stated-same c.if-next-place.next (place + 1) c.if-next-place.items.items w.add_up_to.new.items.items c.if-next-place.first_dynamic w.add_up_to.new.first_dynamic body w.next-is (ap (λ v. v.items) w.items-is) w.first_dynamic-is behind;
          }
      | else-next-place w ↦ record {
        within = omega (arith, w.next-is, c.loop-part.invariant.within);
        stated = stated-same c.if-next-place.next c.loop-part.next c.if-next-place.items.items c.loop-part.items.items c.if-next-place.first_dynamic c.loop-part.first_dynamic body w.next-is (ap (λ v. v.items) w.items-is) w.first_dynamic-is c.loop-part.invariant.stated;
      }
    ]

pub invariant_of-result : goal.invariant_of-result
invariant_of-result c = stated-all c.len-len.result c.add_up_to-2.new.items.items c.add_up_to-2.new.first_dynamic c.args.body.now c.len-len.ensures c.in_ok-add_up_to-2.ensures
