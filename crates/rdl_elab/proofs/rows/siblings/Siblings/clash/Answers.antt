use Rattle.std.proofs.Common.{sym}
use Rattle.rdl_elab.proofs.Watermarks.{beyond-clash}
use Rattle.rdl_elab.proofs.rows.siblings.Siblings.clash.Goals as goal

pub returns-then-self-field : goal.returns-then-self-field
returns-then-self-field c = rw (← c.self.view_is) (sym (beyond-clash c.args.field c.self.inside.end c.self.inside.items.items c.self.invariant.0 c.if-self-field.true))
