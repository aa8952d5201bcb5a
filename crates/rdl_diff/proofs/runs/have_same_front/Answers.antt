use Rattle.std.proofs.Common.{◌∙◌}
use Rattle.rdl_diff.specs.Paths.{same_path}
use Rattle.rdl_diff.proofs.Lookups.{names_eq-texts}
use Rattle.rdl_diff.proofs.runs.have_same_front.Goals as goal

pub returns : goal.returns
returns c = c.eq.ensures ∙ names_eq-texts c.first_names.result.now c.first_names-2.result.now ∙ (λ i. same_path (c.first_names.ensures i) (c.first_names-2.ensures i))
