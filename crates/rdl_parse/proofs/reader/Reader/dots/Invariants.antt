use Rattle.std.proofs.Common.{◌≡◌, length}
use Rattle.rdl_parse.specs.Reading.{dots_at}
use Rattle.rdl_parse.specs.Symbol.{symbols}
use Rattle.rdl_parse.proofs.reader.Reader.dots.Given as goal

abbrev pub invariant-dots : goal.invariant-dots
invariant-dots l = dots_at l.names.items (symbols l.self.rest) ≡ dots_at l.initial.names.items (symbols l.initial.self.rest)

abbrev pub decreases-dots : goal.decreases-dots
decreases-dots l = length l.self.rest
