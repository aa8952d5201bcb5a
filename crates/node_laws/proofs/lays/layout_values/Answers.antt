use Rattle.std.proofs.Common.{sym, subst}
use Rattle.rdl_elab.specs.Capped.{IsAlignment}
use Rattle.node_laws.proofs.AsLaid.{power_alignment}
use Rattle.node_laws.proofs.lays.layout_values.Goals as goal

pub returns-clause-alignment : goal.returns-clause-alignment
returns-clause-alignment c = subst IsAlignment (sym c.power_in.ensures) (power_alignment c.args.values.now.alignment)
