use Rattle.std.proofs.Common.{refl}
use Rattle.rdl_tree.proofs.Edits.{moved_in}
use Rattle.rdl_tree.proofs.back.move_in.Goals as goal

pub returns-clause-one_more : goal.returns-clause-one_more
returns-clause-one_more c = moved_in _ _ _ _ _ _ _ c.requires.empty c.in-Ok.ensures.items refl c.in-Ok-insert.ensures.items
