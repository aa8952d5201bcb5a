use Rattle.std.proofs.Common.{◌≡◌, ◌&&◌, ◌++◌, ◌∷◌, [], ap, sym, ◌∙◌}
use Rattle.std.proofs.lemmas.Result.{IfOk-weaker}
use Rattle.rdl_tree.specs.declared.part.Part.TheVariants.{OfTarget, OfType}
use Rattle.rdl_scope.specs.Target.{passes}
use Rattle.rdl_rewrite.specs.Addresses.{passes_by}
use Rattle.rdl_rewrite.specs.Fates.{given_if, fate_of_target, fate_in_renaming}
use Rattle.rdl_rewrite.specs.Passed.{if_passed}
use Rattle.rdl_rewrite.specs.Renaming.{renamed_target}
use Rattle.rdl_rewrite.specs.Led.{refers_to}
use Rattle.rdl_rewrite.proofs.Led.{led_type}
use Rattle.rdl_rewrite.proofs.Found.{through-inside}
use Rattle.rdl_rewrite.proofs.Renamed.{type_renamed, target_renamed}
use Rattle.rdl_rewrite.proofs.renaming.fate.Goals as goal

pub returns-in-Named : goal.returns-in-Named
returns-in-Named c =
    let d = c.args.sweep.now.whole.now.items in
    let way = c.args.sweep.now.way.now in
    let name = c.args.name.now in
    let at = c.args.at.now ++ c.args.number ∷ [] in
    let x = c.args.found.now in
    let leads = c.leads_to.ensures ∙ ap (λ o. c.args.led && refers_to o x) c.requires.known.taken ∙ led_type d way at x c.args.led c.requires.here c.requires.led in
    let named = type_renamed d way name at x c.in-Instance.shell c.in-Instance.of c.in-Named.field-0 c.leads_to.result c.in-Instance.is c.in-Named.is (sym c.ends_at-in-Instance.ensures ∙ c.if-ends_at.false) leads in
    IfOk-weaker c.type_fate.result (λ fate. fate ≡ given_if c.leads_to.result (OfType name)) (λ fate. fate ≡ fate_in_renaming d way name at x) (λ _ is. is ∙ named) c.type_fate.ensures

pub returns-in-Dynamic : goal.returns-in-Dynamic
returns-in-Dynamic c =
    let d = c.args.sweep.now.whole.now.items in
    let way = c.args.sweep.now.way.now in
    let name = c.args.name.now in
    let b = c.args.at.now in
    let n = c.args.number in
    let at = b ++ n ∷ [] in
    let x = c.args.found.now in
    let target = c.in-Dynamic.target in
    let path = passes d b n target in
    let through_is = through-inside d b n x target c.in-Dynamic.field-1 c.in-Dynamic.field-2 c.requires.here c.in-Dynamic.is in
    let gets = target_renamed way name target path ∙ ap (λ o. given_if (passes_by way o) (OfTarget (renamed_target way name o target))) (sym through_is) ∙ sym (ap (fate_in_renaming d way name at) c.in-Dynamic.is) in
    IfOk-weaker c.target_fate.result (λ fate. fate ≡ fate_of_target way name target (if_passed way path)) (λ fate. fate ≡ fate_in_renaming d way name at x) (λ _ is. is ∙ gets) c.target_fate.ensures
