use Rattle.std.proofs.Common.{arith}
use Rattle.rdl_origin.proofs.Once.{numbered-once, all-once}
use Rattle.rdl_origin.proofs.laws.numbers_stand_once.Goals as goal

pub returns-clause-first : goal.returns-clause-first
returns-clause-first c = λ last h. numbered-once 0 last (omega (arith, h))

pub returns-clause-then : goal.returns-clause-then
returns-clause-then c = λ ps origins h. all-once ps origins h
