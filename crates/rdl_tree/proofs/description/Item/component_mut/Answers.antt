use Rattle.std.proofs.Common.{refl}
use Rattle.rdl_tree.proofs.description.Item.component_mut.Goals as goal

pub returns-in-Define : goal.returns-in-Define
returns-in-Define c = rw c.in-Define.is (refl, record { writes_back = tt; value = refl })

pub returns-in-Instance : goal.returns-in-Instance
returns-in-Instance c = rw c.in-Instance.is (refl, record { writes_back = tt; value = rw c.in-Instance.is at c.component_mut.ensures.value })
