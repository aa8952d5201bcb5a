use Rattle.std.proofs.Common.{ap, sym, ◌∙◌}
use Rattle.rdl_weave.proofs.Sounding.{lie_so, some_same, none_some}
use Rattle.rdl_weave.proofs.source.statements_of.Goals as goal

pub returns-in-Some-clause-only : goal.returns-in-Some-clause-only
returns-in-Some-clause-only c = λ laid s w d.
    some_same c.in-Some.statements laid
    (sym c.in-Some.is ∙ c.in_ok-statements.ensures.only laid (lie_so c.args.text.now _ _ laid s c.requires.words.cut (c.as_slice.ensures ∙ ap (λ q. q.places) (c.requires.read.only s.map s.places s.spelled w).1)) d)

pub returns-in-None-clause-only : goal.returns-in-None-clause-only
returns-in-None-clause-only c = λ laid s w d.
    none_some laid
    (sym c.in-None.is ∙ c.in_ok-statements.ensures.only laid (lie_so c.args.text.now _ _ laid s c.requires.words.cut (c.as_slice.ensures ∙ ap (λ q. q.places) (c.requires.read.only s.map s.places s.spelled w).1)) d)
