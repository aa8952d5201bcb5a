use Rattle.std.proofs.Common.{◌≡◌, ◌+◌, ◌*◌, length}
use Rattle.rdl_parse.specs.Finds.{seen, nothing}
use Rattle.rdl_parse.specs.Reading.{following_at, body_at}
use Rattle.rdl_parse.specs.Symbol.{symbols}
use Rattle.rdl_parse.proofs.reader.Reader.+parse.Given as goal

abbrev pub decreases-body : goal.decreases-body
decreases-body l = 6 * l.levels

abbrev pub decreases-definition : goal.decreases-definition
decreases-definition l = 6 * l.levels + 1

abbrev pub decreases-anonymous : goal.decreases-anonymous
decreases-anonymous l = 6 * l.levels + 1

abbrev pub decreases-component : goal.decreases-component
decreases-component l = 6 * l.levels + 2

abbrev pub decreases-fronted : goal.decreases-fronted
decreases-fronted l = 6 * l.levels + 3

abbrev pub decreases-statement : goal.decreases-statement
decreases-statement l = 6 * l.levels + 4

abbrev pub decreases-statements : goal.decreases-statements
decreases-statements l = 6 * l.levels + 5

abbrev pub invariant-statements-turns : goal.invariant-statements-turns
invariant-statements-turns l = following_at (body_at l.levels) (seen l.found, l.room) (symbols l.self.rest) ≡ following_at (body_at l.levels) (nothing, l.fn.before) (symbols l.fn.self.rest)

abbrev pub decreases-statements-turns : goal.decreases-statements-turns
decreases-statements-turns l = length l.self.rest
