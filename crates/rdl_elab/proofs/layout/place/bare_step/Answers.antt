use Rattle.rdl_elab.specs.BarePlaces.{bare_alignment}
use Rattle.rdl_elab.proofs.BarePlaces.{bare_step}
use Rattle.rdl_elab.proofs.CappedNumbers.{around_power, power_positive}
use Rattle.rdl_elab.proofs.layout.place.bare_step.Goals as goal

pub returns-clause-starts : goal.returns-clause-starts
returns-clause-starts c =
    let b = c.unwrap_or-around.result in
    let positive = power_positive b (around_power c.args.alignment b c.requires c.unwrap_or-around.ensures) in
    bare_step c.args.alignment b (bare_alignment c.args.mode c.args.layout.now) c.bare_alignment.result c.max.result c.common_step.result c.min.result
    c.unwrap_or-around.ensures positive c.bare_alignment.ensures c.max.ensures c.common_step.ensures.step c.common_step.ensures.whole c.min.ensures
