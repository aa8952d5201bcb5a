use Rattle.std.proofs.Common.{◌≡◌, Err, List, map, IsTrue, ap, sym, subst, ◌∙◌, rules}
use Rattle.rdl_edit.specs.Step.{State}
use Rattle.rdl_origin.specs.Numbered.{origins_of}
use Rattle.rdl_run.specs.Edited.{all_led_back, are_all_placed}
use Rattle.rdl_run.specs.Sessions.{LeadBack}
use Rattle.rdl_tree.specs.declared.patch.Patch.{Patch}
use Rattle.rdl_run.proofs.Besides.{made_if, same_if}
use Rattle.rdl_weave.specs.Sound.{IsSound}
use Rattle.rdl_weave.specs.declared.fault.WeaveFault.TheVariants.{NotWoven}
use Rattle.rdl_run.proofs.edited.woven.Goals as goal

pub returns-clause-made : goal.returns-clause-made
returns-clause-made c =
    let h = c.args.journal.now.history in
    let now : State = c.map.result.now.state in
    let led = c.in_ok-led.led in
    let steps : List (List Patch) = map (λ step. step.now) c.in_ok-steps.steps.items in
    let are : IsTrue led.is_whole → led.origins ≡ all_led_back steps (origins_of now.description) = search rules in
    let placed : led.is_whole ≡ are_all_placed steps (origins_of now.description) = search rules in
    let refused : c.weave-text.result ≡ Err NotWoven → IsSound c.args.source.now led.origins now.description c.args.canonical.now → ⊥ = search rules in
    made_if h now steps led.origins led.is_whole c.args.source.now c.args.canonical.now c.map.ensures.at c.in_ok-steps.ensures.leads are placed
    c.weave-text.result c.edited_of.result c.weave-text.ensures.reads (search rules) refused c.edited_of.ensures.taken

pub returns-clause-same : goal.returns-clause-same
returns-clause-same c =
    same_if c.in_ok-led.led.is_whole c.args.source.now c.args.canonical.now c.weave-text.result c.edited_of.result c.weave-text.ensures.same c.edited_of.ensures.taken
