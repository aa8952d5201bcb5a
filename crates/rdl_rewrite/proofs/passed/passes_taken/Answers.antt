use Rattle.std.proofs.Common.{ap, sym, ◌∙◌}
use Rattle.std.specs.Prelude.{is_some}
use Rattle.rdl_scope.specs.Target.{passes}
use Rattle.rdl_rewrite.proofs.Found.{some-map, some_passed}
use Rattle.rdl_rewrite.proofs.passed.passes_taken.Goals as goal

pub returns : goal.returns
returns c =
    c.is_some.ensures ∙ sym (some-map (λ v. v.items) c.in_ok-path.path) ∙ ap is_some c.in_ok-path.ensures
    ∙ some_passed c.args.sweep.now.way.now (passes c.args.sweep.now.whole.now.items c.args.at.now c.args.number c.args.names.now)
