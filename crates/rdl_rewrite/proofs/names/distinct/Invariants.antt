use Rattle.std.proofs.Common.{take, map}
use Rattle.rdl_rewrite.specs.Names.{IsSetOf}
use Rattle.rdl_rewrite.proofs.names.distinct.Given as goal

abbrev pub invariant-names : goal.invariant-names
invariant-names l = IsSetOf l.set (map (λ n. n.now) (take l.name-index l.names))
