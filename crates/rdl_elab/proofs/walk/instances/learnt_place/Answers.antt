use Rattle.std.proofs.Common.{rules, ap, ◌∙◌, ◌≡◌, Some, slice_get}
use Rattle.rdl_elab.proofs.PlacedParts.{learnt}
use Rattle.rdl_elab.proofs.walk.instances.learnt_place.Goals as goal

pub returns-clause-known : goal.returns-clause-known
returns-clause-known c =
    let fs = c.args.components.now in
    let f = c.in_ok-finished.finished.now in
    let there : slice_get fs c.args.part.now.component ≡ Some f = search rules in
    learnt c.args.placing.now.alignment c.args.mode c.args.placing.now.mode fs c.number.result f c.under.result.now c.bare_place-place.result (ap (slice_get fs) c.number.ensures ∙ there) c.requires.mode c.under.ensures c.bare_place-place.ensures

pub returns-clause-place : goal.returns-clause-place
returns-clause-place c =
    let fs = c.args.components.now in
    let f = c.in_ok-finished.finished.now in
    let there : slice_get fs c.args.part.now.component ≡ Some f = search rules in
    learnt c.args.placing.now.alignment c.args.mode c.args.placing.now.mode fs c.args.part.now.component f c.under.result.now c.bare_place-place.result there c.requires.mode c.under.ensures c.bare_place-place.ensures
