use Rattle.rdl_tree.proofs.Stepped.{room_again}
use Rattle.rdl_tree.proofs.step.delete.Goals as goal

pub returns-in-Ok-clause-room : goal.returns-in-Ok-clause-room
returns-in-Ok-clause-room c = room_again c.args.address _ _ _ _ c.requires c.take_out-back.ensures.changed c.take_out-back.ensures.inverse c.in-Ok.ensures.room
