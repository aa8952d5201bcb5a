use Rattle.rdl_tree.proofs.Patching.{image-inverses, inverses-inverses, length-inverses}
use Rattle.rdl_tree.proofs.laws.patches_go_back.Goals as goal

pub returns-clause-back : goal.returns-clause-back
returns-clause-back c = λ ps t h. image-inverses ps t h

pub returns-clause-again : goal.returns-clause-again
returns-clause-again c = λ ps t h. inverses-inverses ps t h

pub returns-clause-count : goal.returns-clause-count
returns-clause-count c = λ ps t h. length-inverses ps t h
