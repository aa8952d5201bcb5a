use Rattle.std.proofs.Common.{◌≡◌, true, false, refl, rules, ap, sym, length, ◌∙◌}
use Rattle.std.specs.Prelude.{option_copied}
use Rattle.std.proofs.lemmas.Option.{slice_get_read}
use Rattle.rdl_renew.specs.AlikeSlots.{tells_of_width}
use Rattle.rdl_renew.proofs.Again.{held_again}
use Rattle.rdl_renew.proofs.component.slot_again.Goals as goal

pub returns-in-Some-get : goal.returns-in-Some-get
returns-in-Some-get c =
    let xs = c.args.slots.now in
    let untouched : c.is_untouched.result ≡ true = search rules in
    let width : tells_of_width c.args.alert.now ≡ false = search rules in
    let there = slice_get_read xs (length xs) c.args.number c.in-Some-get.slot.now refl c.in-Some-get.ensures.lookup.3.0 c.in-Some-get.ensures.lookup.1 in
    held_again c.args.alert.now xs c.args.number c.args.inside.now c.args.item.now c.in-Some-get.slot.now c.in-Some.field-0.now c.component_again.result (c.is_untouched.ensures untouched) width
    (sym c.kept_component.ensures ∙ ap option_copied c.in-Some.is) there c.component_again.ensures
