use Rattle.std.proofs.Common.{◌≡◌, drop}
use Rattle.rdl_weave.specs.Coarse.{kept_at}
use Rattle.rdl_weave.proofs.coarse.kept_at.Given as goal

abbrev pub invariant-statements : goal.invariant-statements
invariant-statements l = kept_at l.sizes l.number l.statements l.origins ≡ kept_at l.sizes l.number (drop l.statement-index l.statements) l.rest
