use Rattle.std.proofs.Common.{ap, sym, ◌∙◌}
use Rattle.rdl_seen.specs.Inside.{end_in, is_fitting_end}
use Rattle.rdl_nodes.specs.declared.inside.Within.{Within}
use Rattle.rdl_nodes.specs.HeldInside.{within_of}
use Rattle.rdl_nodes.specs.HeldVerdict.{asked_of}
use Rattle.rdl_nodes.proofs.Targets.{leads_nowhere}
use Rattle.rdl_nodes.proofs.target.+is_fitting_end.Goals as goal

pub returns-in-Nothing : goal.returns-in-Nothing
returns-in-Nothing t c =
    let asked = asked_of c.args.asked in
    let names = c.args.names.now in
    sym (ap (λ (w : Within). is_fitting_end asked (end_in names (within_of w))) c.in-Nothing.is ∙ leads_nowhere asked names)
