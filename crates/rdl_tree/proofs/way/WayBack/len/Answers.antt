use Rattle.std.proofs.Common.{List, ◌∙◌, ap, sym, length}
use Rattle.rdl_tree.specs.Way.{patches_back}
use Rattle.rdl_tree.specs.declared.way.Step.{Step}
use Rattle.rdl_tree.specs.declared.way.WayBack.{WayBack}
use Rattle.rdl_tree.proofs.Lent.{length-back}
use Rattle.rdl_tree.proofs.way.WayBack.len.Goals as goal

pub returns-in-Steps : goal.returns-in-Steps
returns-in-Steps c =
    ap (λ (ss : List Step). length ss) c.as_slice.ensures.value ∙ sym (length-back c.in-Steps.way.steps.items) ∙ ap (λ (w : WayBack). length (patches_back w)) (sym c.in-Steps.is)
