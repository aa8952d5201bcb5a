use Rattle.std.proofs.Common.{◌≡◌, drop}
use Rattle.rdl_weave.specs.Coarse.{changed_at}
use Rattle.rdl_weave.proofs.coarse.changed_at.Given as goal

abbrev pub invariant-statements : goal.invariant-statements
invariant-statements l = changed_at l.number l.statements l.origins ≡ changed_at l.number (drop l.statement-index l.statements) l.rest
