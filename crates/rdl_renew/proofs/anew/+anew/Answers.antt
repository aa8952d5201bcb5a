-- The items of a body that are done anew, one by one.
use Rattle.std.proofs.Common.{◌≡◌, ◌*◌, ◌<◌, length, ap, subst, sym, arith, rules}
use Rattle.std.specs.Prelude.{IfOk}
use Rattle.rdl_scope.proofs.Sizes.{count-item}
use Rattle.rdl_tree.proofs.Sizes.{item_count}
use Rattle.rdl_tree.specs.declared.description.Item.{Item}
use Rattle.rdl_tree.specs.declared.description.Item.TheVariants.{Instance}
use Rattle.rdl_tree.specs.declared.description.Of.TheVariants.{Anonymous}
use Rattle.rdl_nodes.specs.View.{slots_of}
use Rattle.rdl_places.specs.HeldScope.{places_of, outer_places}
use Rattle.rdl_renew.specs.Anew.{slot_there}
use Rattle.rdl_renew.specs.Fronts.{front_of}
use Rattle.rdl_marks.specs.Describes.{IsItem}
use Rattle.rdl_renew.proofs.CleanBelow.{one_looked_at, all_below}
use Rattle.rdl_renew.proofs.NewItems.{AreFirst, none_done, place_made, reached_behind, item_there, one_longer, done_there, all_done}
use Rattle.rdl_renew.proofs.anew.+anew.Goals as goal

pub body_anew-item_anew-requires : goal.body_anew-item_anew-requires
body_anew-item_anew-requires g t c κs within =
    let few = count-item c.loop-i.i c.args.body.now c.as_slice-item-items.result.now c.item-item.result c.item-item.result c.as_slice-item-items.ensures c.loop-i-test.true c.item-item.is in
    let less : 4 * item_count c.item-item.result < t = omega (arith, c.decreases, few) in
    search (rules, less)

pub body_anew-loop-i-init : goal.body_anew-loop-i-init
body_anew-loop-i-init g t c =
    let lay = g.L.Lays.laying in
    let ps = outer_places c.args.outer in
    record {
      number = ap length c.new-slots.ensures.items;
      lasts = c.none-lasts.ensures c.args.body.now;
      done = λ is reached. subst (λ xs. AreFirst lay ps c.args.body.now xs c.args.defaults.now) (sym c.new-slots.ensures.items) (none_done lay ps c.args.body.now c.args.defaults.now reached);
      clean = search rules;
    }

pub body_anew-loop-i-preserved : goal.body_anew-loop-i-preserved
body_anew-loop-i-preserved g t c =
    let lay = g.L.Lays.laying in
    let ps = outer_places c.args.outer in
    let body = c.args.body.now in
    let done = c.loop-i.slots.items in
    let x = c.item-item.result in
    let s = c.in_ok-slot.slot in
    let count = c.loop-i.invariant.number in
    let here = place_made ps (places_of c.among-scope.result) body done c.as_slice.result.now c.loop-i.i c.among-scope.ensures count c.as_slice.ensures.value in
    let got = item_there c.as_slice-item-items.result.now body c.loop-i.i (length done) x c.as_slice-item-items.ensures count c.loop-i-test.true c.item-item.is in
    record {
      lasts = c.look.ensures;
      number = one_longer c.push.new.self.items done s c.loop-i.i c.in_ok-push.ensures.items count;
      done = λ is reached.
          done_there lay ps (places_of c.among-scope.result) body done c.push.new.self.items c.loop-i.defaults c.put_default.new.defaults x s here got c.in_ok-slot.ensures.slot c.in_ok-push.ensures.items
          c.put_default.ensures is (c.loop-i.invariant.done is reached);
      clean = λ is reached.
          let there = reached_behind lay ps (places_of c.among-scope.result) body done c.loop-i.defaults here is (c.loop-i.invariant.done is reached) in
          one_looked_at lay ps (places_of c.among-scope.result) c.args.around body (slots_of c.as_slice.result.now) c.loop-i.i x c.args.judge.now.is_clean c.loop-i.judge.is_clean c.look_at.new.self.is_clean
          c.item_anew.new.judge.is_clean c.among-scope.ensures (subst (λ k. IsItem k body x) count got) (c.loop-i.invariant.clean is reached) (c.look_at.ensures lay there.0)
          (c.in_ok-slot.ensures.clean there.0 there.1);
    }

pub body_anew-returns-clause-slots : goal.body_anew-returns-clause-slots
body_anew-returns-clause-slots g t c is reached =
    let all = ap length c.as_slice-item-items.ensures in
    all_done g.L.Lays.laying (outer_places c.args.outer) c.args.body.now c.loop-i.slots.items c.loop-i.defaults (c.loop-i.invariant.done is reached)
    (omega (arith, all, c.loop-i.invariant.number, c.loop-i-test.false))

pub item_anew-returns-in-Instance-default-Anonymous-clause-slot : goal.item_anew-returns-in-Instance-default-Anonymous-clause-slot
item_anew-returns-in-Instance-default-Anonymous-clause-slot g t c is reached =
    let a = c.in-Instance-default-Anonymous in
    let e : c.args.item.now ≡ Instance a.field-0 (Anonymous a.component) = search rules in
    subst (λ (y : Item). IfOk c.anonymous_anew.result (λ z. front_of z ≡ slot_there g.L.Lays.laying (places_of c.args.scope.now) y)) (sym e)
    (c.anonymous_anew.ensures.slot a.field-0 is reached)

pub body_anew-returns-clause-clean : goal.body_anew-returns-clause-clean
body_anew-returns-clause-clean g t c is reached =
    let all = ap length c.as_slice-item-items.ensures in
    all_below g.L.Lays.laying (outer_places c.args.outer) c.args.around c.args.body.now c.loop-i.i c.args.judge.now.is_clean c.loop-i.judge.is_clean (c.loop-i.invariant.clean is reached)
    (omega (arith, all, c.loop-i-test.false))
