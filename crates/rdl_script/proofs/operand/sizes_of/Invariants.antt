use Rattle.std.proofs.Common.{◌≡◌, length}
use Rattle.rdl_parse.specs.Symbol.{symbols}
use Rattle.rdl_script.specs.Operands.{sizes_by}
use Rattle.rdl_script.proofs.Splits.{ahead}
use Rattle.rdl_script.proofs.operand.sizes_of.Given as goal

abbrev pub invariant-sizes : goal.invariant-sizes
invariant-sizes l = ahead l.sizes.items (sizes_by (symbols l.rest)) ≡ sizes_by (symbols l.fn.words)

abbrev pub decreases-sizes : goal.decreases-sizes
decreases-sizes l = length l.rest
