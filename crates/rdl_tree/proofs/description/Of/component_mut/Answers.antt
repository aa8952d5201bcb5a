use Rattle.std.proofs.Common.{refl}
use Rattle.rdl_tree.proofs.description.Of.component_mut.Goals as goal

pub returns-in-Anonymous : goal.returns-in-Anonymous
returns-in-Anonymous c = rw c.in-Anonymous.is (refl, record { writes_back = tt; value = refl })
