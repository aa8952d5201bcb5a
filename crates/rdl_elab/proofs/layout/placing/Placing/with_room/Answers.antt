use Rattle.rdl_elab.proofs.Placing.{behind-none}
use Rattle.rdl_elab.proofs.layout.placing.Placing.with_room.Goals as goal

pub returns-clause-none : goal.returns-clause-none
returns-clause-none c = λ behind. behind-none c.args.alignment c.args.mode c.in_ok-with_capacity.field-0.items behind c.in_ok-with_capacity.ensures.items
