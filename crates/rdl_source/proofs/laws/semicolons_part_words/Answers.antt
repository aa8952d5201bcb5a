use Rattle.std.proofs.Common.{length, arith}
use Rattle.rdl_source.proofs.Semis.{parted}
use Rattle.rdl_source.proofs.laws.semicolons_part_words.Goals as goal

pub returns : goal.returns
returns c = λ at text rest ws h k. let p = parted (length text) at text rest ws (omega arith) h k in (p.front, p.any)
