use Rattle.std.proofs.Common.{◌≡◌, length}
use Rattle.rdl_parse.specs.Reading.{sizes_at}
use Rattle.rdl_parse.specs.Symbol.{symbols}
use Rattle.rdl_parse.proofs.reader.Reader.sizes.Given as goal

abbrev pub invariant-sizes : goal.invariant-sizes
invariant-sizes l = sizes_at l.sizes.items (symbols l.self.rest) ≡ sizes_at l.initial.sizes.items (symbols l.initial.self.rest)

abbrev pub decreases-sizes : goal.decreases-sizes
decreases-sizes l = length l.self.rest
