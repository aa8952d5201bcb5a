use Rattle.std.proofs.Common.{sym, ◌∙◌}
use Rattle.rdl_elab.proofs.TypeStacks.{uncovered}
use Rattle.rdl_elab.proofs.walk.types.TypeIndex.uncover.Goals as goal

pub returns-in_ok-put-in-Some-clause-ok : goal.returns-in_ok-put-in-Some-clause-ok
returns-in_ok-put-in-Some-clause-ok c =
    λ types component is hides q.
    uncovered c.args.name.now q types component _ _ _ (c.in_ok-put-in-Some.ensures.after q) (is q) (sym c.in-Some.is ∙ hides)

pub returns-in-None-clause-ok : goal.returns-in-None-clause-ok
returns-in-None-clause-ok c =
    λ types component is hides q.
    uncovered c.args.name.now q types component _ _ _ (c.remove.ensures q) (is q) (sym c.in-None.is ∙ hides)
