use Rattle.std.proofs.Common.{◌∙◌}
use Rattle.rdl_diff.specs.Paths.{same_path}
use Rattle.rdl_diff.proofs.Lookups.{names_eq-texts}
use Rattle.rdl_diff.proofs.rename.are_same.Goals as goal

pub returns : goal.returns
returns c = c.eq.ensures ∙ names_eq-texts c.below.result.now c.below-2.result.now ∙ (λ i. same_path (c.below.ensures i) (c.below-2.ensures i))
