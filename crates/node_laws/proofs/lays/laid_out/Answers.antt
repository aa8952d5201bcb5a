use Rattle.std.proofs.Common.{◌∙◌}
use Rattle.node_laws.proofs.AsLaid.{container_laid, register_laid, if_ok}
use Rattle.node_laws.proofs.lays.laid_out.Goals as goal

pub returns-in-Addrmap : goal.returns-in-Addrmap
returns-in-Addrmap c = if_ok c.container.result (λ x e. e ∙ container_laid c.args.kind c.args.values c.args.mode c.args.parts.now c.in-Addrmap.is) c.container.ensures

pub returns-in_ok-bits-in-Reg : goal.returns-in_ok-bits-in-Reg
returns-in_ok-bits-in-Reg c =
    let made = c.as_slice.ensures.value ∙ c.in_ok-fields-in-Reg.ensures in
    c.register.ensures ∙ register_laid c.args.kind c.args.values c.args.mode c.args.parts.now c.as_slice.result.now c.in_ok-bits-in-Reg.field-0 c.in-Reg.is made c.in_ok-bits-in-Reg.ensures
