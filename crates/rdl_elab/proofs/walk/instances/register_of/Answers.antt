use Rattle.std.proofs.Common.{◌∙◌}
use Rattle.rdl_elab.specs.Inside.{kept_parts}
use Rattle.rdl_elab.proofs.Counting.{register-taken}
use Rattle.rdl_elab.proofs.walk.instances.register_of.Goals as goal

pub returns : goal.returns
returns c =
    let xs = kept_parts c.args.mode c.args.components.now c.args.parts.now in
    c.register.ensures ∙ register-taken c.args.values c.args.mode xs c.as_slice.result.now c.in_ok-spans.spans (c.as_slice.ensures.value ∙ c.in_ok-fields.ensures) c.in_ok-spans.ensures
