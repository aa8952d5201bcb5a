use Rattle.std.proofs.Common.{arith}
use Rattle.rdl_marks.proofs.Cuts.{kept_next}
use Rattle.rdl_marks.proofs.pieces.cut_kept.Goals as goal

pub returns-in-Kept-clause-some : goal.returns-in-Kept-clause-some
returns-in-Kept-clause-some c = kept_next c.args.piece.now _ _ c.in-Kept.is (omega (arith, c.if-from-to.true))
