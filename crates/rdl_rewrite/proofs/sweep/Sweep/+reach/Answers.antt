use Rattle.std.proofs.Common.{◌*◌, ◌+◌, ◌<◌, ◌++◌, ◌∷◌, [], length, reverse, option_copied, refl, ap, sym, ◌∙◌, arith}
use Rattle.rdl_tree.specs.Address.{body_at, holder_of}
use Rattle.rdl_tree.specs.Items.{count}
use Rattle.rdl_tree.specs.View.{list_of}
use Rattle.rdl_tree.proofs.Sizes.{item_count}
use Rattle.rdl_scope.proofs.Depths.{depth-body_at}
use Rattle.rdl_scope.proofs.Levelled.{item_got}
use Rattle.rdl_rewrite.specs.Fates.{fate}
use Rattle.rdl_rewrite.proofs.Defined.{count-item}
use Rattle.rdl_rewrite.proofs.FirstInstances.{firsts_none, firsts_next, inside_same}
use Rattle.rdl_rewrite.proofs.Led.{led_first, led_next, led_here, led_same}
use Rattle.rdl_rewrite.proofs.Located.{body_at-item, item_met, count-own}
use Rattle.rdl_rewrite.proofs.Staying.{dynamic_among}
use Rattle.rdl_rewrite.proofs.Reached.{reached_first, reached_more}
use Rattle.rdl_rewrite.proofs.sweep.Sweep.+reach.Goals as goal

pub push_body-push_item-requires : goal.push_body-push_item-requires
push_body-push_item-requires t c =
    let d = c.args.self.now.whole.now.items in
    let at = c.args.at.now in
    let body = c.args.body.now in
    let xs = c.as_slice-found-items.result.now in
    let x = c.found-item.result in
    let h = count-item xs c.items.number x body c.items-test.true c.found-item.is c.as_slice-found-items.ensures in
    let less : 2 * item_count x < t = omega (arith, h, c.decreases) in
    let room : length at < 17 = omega (arith, depth-body_at at d body c.requires.here, c.requires.nesting) in
    let got = item_got body c.items.number xs x c.as_slice-found-items.ensures c.items-test.true c.found-item.is in
    (less, (c.requires.nesting, (c.requires.known, (room, (item_met at c.items.number d body xs x c.requires.here c.as_slice-found-items.ensures c.items-test.true c.found-item.is, (c.items.invariant.led, (c.items.invariant.inside_led, λ h. c.items.invariant.firsts (c.has_dynamic-assigns.ensures ∙ dynamic_among (list_of body) c.items.number x got h))))))))

pub push_body-items-init : goal.push_body-items-init
push_body-items-init t c = record {
  reached = reached_first (fate c.args.self.now.whole.now.items c.args.self.now.way.now (option_copied c.args.self.now.name)) c.args.at.now c.args.body.now c.as_slice-found-items.result.now
      (reverse c.args.patches.now.items) c.as_slice-found-items.ensures;
  led = led_first c.args.self.now.whole.now.items c.args.self.now.way.now c.args.at.now c.args.body.now c.args.led c.requires.here c.requires.led;
  inside_led = led_first c.args.self.now.whole.now.items (holder_of c.args.self.now.way.now) c.args.at.now c.args.body.now c.args.inside_led c.requires.here c.requires.inside_led;
  firsts = λ _. firsts_none c.args.self.now.whole.now.items (holder_of c.args.self.now.way.now) c.args.at.now c.args.body.now c.in_ok-firsts.firsts c.requires.here c.in_ok-firsts.ensures;
}

pub push_body-items-preserved : goal.push_body-items-preserved
push_body-items-preserved t c =
    let d = c.args.self.now.whole.now.items in
    let way = c.args.self.now.way.now in
    let place = holder_of way in
    let here = c.args.at.now ++ c.items.number ∷ [] in
    let x = c.found-item.result in
    let met = item_met c.args.at.now c.items.number d c.args.body.now c.as_slice-found-items.result.now x c.requires.here c.as_slice-found-items.ensures c.items-test.true c.found-item.is in
    let got = item_got c.args.body.now c.items.number c.as_slice-found-items.result.now c.found-item.result c.as_slice-found-items.ensures c.items-test.true c.found-item.is in
    record {
      reached = reached_more (fate d way (option_copied c.args.self.now.name)) c.args.at.now c.items.number c.as_slice-found-items.result.now
          x _ (reverse c.items.patches.items) (reverse c.push_item.new.patches.items) c.items-test.true c.found-item.is c.in_ok-push_item.ensures c.items.invariant.reached;
      led = led_next d way c.args.at.now c.items.number c.args.body.now x c.items.led c.led_behind-led.result c.requires.here got c.items.invariant.led
          (led_same _ _ _ _ here x c.items.led _ c.led_behind-led.ensures refl c.requires.known.taken);
      inside_led = led_next d place c.args.at.now c.items.number c.args.body.now x c.items.inside_led c.led_behind-inside_led.result c.requires.here got c.items.invariant.inside_led
          (led_same _ _ _ _ here x c.items.inside_led _ c.led_behind-inside_led.ensures c.requires.known.place c.requires.known.holder);
      firsts = λ h. firsts_next d place c.args.at.now c.items.number c.args.body.now x c.items.firsts c.note.new.firsts _ c.requires.here got (c.items.invariant.firsts h)
          (inside_same d _ _ _ here x c.items.inside_led _ met c.items.invariant.inside_led refl c.requires.known.place c.requires.known.holder) (c.in_ok-note.ensures h);
    }

pub push_item-push_body-requires : goal.push_item-push_body-requires
push_item-push_body-requires t c =
    let d = c.args.self.now.whole.now.items in
    let held = sym c.in-Some.ensures in
    let h = count-own c.args.found.now c.in-Some.body.now held in
    let less : 2 * count c.in-Some.body.now + 1 < t = omega (arith, h, c.decreases) in
    (less, (c.requires.nesting, (c.requires.known, (ap (λ a. body_at a d) c.inside.ensures ∙ body_at-item _ d c.args.found.now c.requires.here ∙ held, (led_here _ _ _ _ _ c.inside.ensures c.requires.led, led_here _ _ _ _ _ c.inside.ensures c.requires.inside_led)))))
