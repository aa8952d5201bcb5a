use Rattle.std.proofs.Common.{ap, ◌∙◌, Some}
use Rattle.std.specs.Prelude.{bytes_eq, if◌then◌else◌}
use Rattle.rdl_elab.proofs.walk.types.TypeIndex.put.Goals as goal

pub returns-clause-ok : goal.returns-clause-ok
returns-clause-ok c =
    λ types is q.
    c.in_ok-put.ensures.after q
    ∙ ap (λ rest. if bytes_eq c.args.name.now q then Some c.args.component else rest) (is q)
