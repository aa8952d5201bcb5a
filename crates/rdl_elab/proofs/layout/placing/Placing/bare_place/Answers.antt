use Rattle.std.proofs.Common.{refl}
use Rattle.rdl_elab.proofs.BarePlaces.{placed_so}
use Rattle.rdl_elab.proofs.layout.placing.Placing.bare_place.Goals as goal

pub returns : goal.returns
returns c = placed_so c.args.self.now.alignment c.args.self.now.mode c.args.layout.now _ refl refl c.bare_step.ensures.starts
