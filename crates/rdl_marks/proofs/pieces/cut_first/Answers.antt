use Rattle.rdl_marks.proofs.Cuts.{kept_first}
use Rattle.rdl_marks.proofs.pieces.cut_first.Goals as goal

pub returns-in-Kept-clause-same : goal.returns-in-Kept-clause-same
returns-in-Kept-clause-same c = kept_first c.args.piece.now _ _ c.none.result c.in-Kept.is c.requires c.none.ensures.firsts c.none.ensures.inside
