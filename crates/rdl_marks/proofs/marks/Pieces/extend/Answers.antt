use Rattle.std.proofs.Common.{◌-◌, arith}
use Rattle.rdl_marks.proofs.Cuts.{length-run}
use Rattle.rdl_marks.proofs.marks.Pieces.extend.Goals as goal

pub returns-clause-begins : goal.returns-clause-begins
returns-clause-begins c =
    omega (arith, c.in_ok-put.ensures.count, length-run c.args.behind.now (c.in-Some.end - c.args.behind.now), c.in-Some.ensures, c.requires.far)
