use Rattle.std.proofs.Common.{◌≡◌, ◌*◌, ◌+◌, ◌<◌, ◌++◌, ◌∷◌, [], ◌&&◌, false, length, option_copied, ap, sym, ◌∙◌, arith}
use Rattle.rdl_tree.specs.Address.{body_at}
use Rattle.rdl_tree.specs.ItemAt.{item_at}
use Rattle.rdl_tree.specs.Items.{count}
use Rattle.rdl_tree.proofs.Sizes.{item_count}
use Rattle.rdl_scope.specs.Types.{type_of}
use Rattle.rdl_scope.proofs.Depths.{depth-body_at}
use Rattle.rdl_scope.proofs.Levelled.{item_got}
use Rattle.rdl_rewrite.specs.Addresses.{leads_to}
use Rattle.rdl_rewrite.specs.Led.{refers_to, led_behind}
use Rattle.rdl_rewrite.specs.Touched.{may_touch, is_any_inside}
use Rattle.rdl_rewrite.proofs.Defined.{count-item}
use Rattle.rdl_rewrite.proofs.Led.{led_first, led_next, led_here, led_type}
use Rattle.rdl_rewrite.proofs.Located.{body_at-item, item_met, count-own, any_first, any_unmet, any_itself}
use Rattle.rdl_rewrite.proofs.Untouched.{nothing_led}
use Rattle.rdl_rewrite.proofs.removal.+used.Goals as goal

pub is_used-items-init : goal.is_used-items-init
is_used-items-init t c = record {
  unmet = any_first _ c.args.at.now c.args.body.now c.as_slice-found-items.result.now c.as_slice-found-items.ensures;
  led = led_first c.args.sweep.now.whole.now.items c.args.sweep.now.way.now c.args.at.now c.args.body.now c.args.led c.requires.here c.requires.led;
}

pub is_used-is_used_by-requires : goal.is_used-is_used_by-requires
is_used-is_used_by-requires t c =
    let d = c.args.sweep.now.whole.now.items in
    let h = count-item c.as_slice-found-items.result.now c.items.number c.found-item.result c.args.body.now c.items-test.true c.found-item.is c.as_slice-found-items.ensures in
    let less : 2 * item_count c.found-item.result < t = omega (arith, h, c.decreases) in
    let room : length c.args.at.now < 17 = omega (arith, depth-body_at c.args.at.now d c.args.body.now c.requires.here, c.requires.nesting) in
    let here = item_met c.args.at.now c.items.number d c.args.body.now c.as_slice-found-items.result.now c.found-item.result c.requires.here c.as_slice-found-items.ensures c.items-test.true c.found-item.is in
    (less, (c.requires.nesting, (c.requires.known, (room, (here, c.items.invariant.led)))))

pub is_used-items-preserved : goal.is_used-items-preserved
is_used-items-preserved t c =
    let d = c.args.sweep.now.whole.now.items in
    let way = c.args.sweep.now.way.now in
    let got = item_got c.args.body.now c.items.number c.as_slice-found-items.result.now c.found-item.result c.as_slice-found-items.ensures c.items-test.true c.found-item.is in
    record {
      unmet = any_unmet _ c.args.at.now c.items.number c.as_slice-found-items.result.now c.found-item.result c.is_used_by.result _ c.items-test.true c.found-item.is c.is_used_by.ensures c.if-is_used_by.false c.items.invariant.unmet;
      led = led_next d way c.args.at.now c.items.number c.args.body.now c.found-item.result c.items.led c.led_behind-led.result c.requires.here got c.items.invariant.led
          (c.led_behind-led.ensures ∙ ap (λ o. led_behind way o (c.args.at.now ++ c.items.number ∷ []) c.found-item.result c.items.led) c.requires.known.taken);
    }

pub is_used_by-is_used-requires : goal.is_used_by-is_used-requires
is_used_by-is_used-requires t c =
    let held = sym c.in-Some.ensures in
    let h = count-own c.args.found.now c.in-Some.body.now held in
    let less : 2 * count c.in-Some.body.now + 1 < t = omega (arith, h, c.decreases) in
    let at = c.inside.ensures in
    (less, (c.requires.nesting, (c.requires.known, (ap (λ a. body_at a c.args.sweep.now.whole.now.items) at ∙ body_at-item _ c.args.sweep.now.whole.now.items c.args.found.now c.requires.here ∙ held, led_here _ _ _ _ _ at c.requires.led))))

pub is_used_by-returns-else-is_touched : goal.is_used_by-returns-else-is_touched
is_used_by-returns-else-is_touched t c =
    let d = c.args.sweep.now.whole.now.items in
    let way = c.args.sweep.now.way.now in
    let outer = option_copied c.args.sweep.now.holder in
    let none : is_any_inside (may_touch (item_at way d) outer) c.in-Some.body.now ≡ false =
    ap (λ o. is_any_inside (may_touch o outer) c.in-Some.body.now) (sym c.requires.known.taken) ∙ sym c.is_touched.ensures ∙ c.if-is_touched.false in
    c.if-is_touched.false ∙ sym (nothing_led d way outer c.args.at.now c.args.number c.args.found.now c.in-Some.body.now c.requires.here (sym c.in-Some.ensures) none)

pub is_used_by-returns-in-None : goal.is_used_by-returns-in-None
is_used_by-returns-in-None t c =
    let d = c.args.sweep.now.whole.now.items in
    let way = c.args.sweep.now.way.now in
    let at = c.args.at.now ++ c.args.number ∷ [] in
    any_itself (λ a. leads_to way (type_of d a)) c.args.at.now c.args.number c.args.found.now _ (sym c.in-None.ensures)
    (c.leads_to.ensures ∙ ap (λ o. c.args.led && refers_to o c.args.found.now) c.requires.known.taken ∙ led_type d way at c.args.found.now c.args.led c.requires.here c.requires.led)
