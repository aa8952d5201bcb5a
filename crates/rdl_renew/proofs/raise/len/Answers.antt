use Rattle.rdl_marks.proofs.Cuts.{kept_len}
use Rattle.rdl_renew.proofs.raise.len.Goals as goal

pub returns-in-Kept : goal.returns-in-Kept
returns-in-Kept c = kept_len c.args.piece.now _ _ c.saturating_sub.result c.in-Kept.is c.saturating_sub.ensures
