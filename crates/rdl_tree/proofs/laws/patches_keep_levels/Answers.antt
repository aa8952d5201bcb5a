use Rattle.rdl_tree.proofs.Nesting.{image-depth, AllFit-inverses}
use Rattle.rdl_tree.proofs.PatchWeights.{weight-inverses}
use Rattle.rdl_tree.proofs.laws.patches_keep_levels.Goals as goal

pub returns-clause-nesting : goal.returns-clause-nesting
returns-clause-nesting c = λ ps t h k. image-depth ps t h k

pub returns-clause-fit : goal.returns-clause-fit
returns-clause-fit c = λ ps t h k. AllFit-inverses ps t h k

pub returns-clause-weight : goal.returns-clause-weight
returns-clause-weight c = λ ps t h k. weight-inverses ps t h k
