use Rattle.std.proofs.Common.{sym, ◌∙◌}
use Rattle.rdl_session.proofs.Cuts.{cut-none, cut-some}
use Rattle.rdl_session.proofs.parts.cut.Goals as goal

pub returns-in-None : goal.returns-in-None
returns-in-None c = cut-none c.args.separator c.args.bytes.now (sym c.position_of.ensures ∙ c.in-None.is)

pub returns-in-Some : goal.returns-in-Some
returns-in-Some c = cut-some c.args.separator c.args.bytes.now c.in-Some.at (sym c.position_of.ensures ∙ c.in-Some.is)
