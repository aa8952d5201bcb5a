use Rattle.std.proofs.Common.{refl}
use Rattle.rdl_tree.proofs.Steps.{path_end}
use Rattle.rdl_tree.proofs.descent.HereDescent.descend.Goals as goal

pub returns : goal.returns
returns c = rw (path_end c.args.path.now c.in-empty.len_below) (refl, record { writes_back = tt; value = refl })
