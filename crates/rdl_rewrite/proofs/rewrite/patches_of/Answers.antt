use Rattle.std.proofs.Common.{ap, sym, ◌∙◌}
use Rattle.rdl_tree.specs.Find.{find}
use Rattle.rdl_rewrite.proofs.Made.{patches_made, patches_fit}
use Rattle.rdl_rewrite.proofs.rewrite.patches_of.Goals as goal

pub returns-clause-made : goal.returns-clause-made
returns-clause-made c =
    let d = c.args.description.now.items in
    let found = ap (λ p. find p d) (sym c.path.ensures) ∙ sym c.find.ensures ∙ c.in_ok-way.was in
    patches_made d c.args.edit.now c.in_ok-way.way c.patches_on.result (λ ps. ps.items) found c.patches_on.ensures.level c.patches_on.ensures.accepted c.patches_on.ensures.which

pub returns-clause-fit : goal.returns-clause-fit
returns-clause-fit c =
    let d = c.args.description.now.items in
    let found = ap (λ p. find p d) (sym c.path.ensures) ∙ sym c.find.ensures ∙ c.in_ok-way.was in
    patches_fit d c.args.edit.now c.in_ok-way.way c.patches_on.result (λ ps. ps.items) found c.patches_on.ensures.level c.patches_on.ensures.accepted c.patches_on.ensures.which
