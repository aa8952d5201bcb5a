use Rattle.std.proofs.Common.{take}
use Rattle.rdl_weave.specs.Standing.{AreBlanks}
use Rattle.rdl_weave.proofs.stands.front_blanks.Given as goal

abbrev pub invariant-blanks : goal.invariant-blanks
invariant-blanks l = AreBlanks (take l.index l.bytes)
