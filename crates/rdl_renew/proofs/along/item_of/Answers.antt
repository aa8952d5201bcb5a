use Rattle.std.proofs.Common.{sym}
use Rattle.rdl_renew.proofs.Passed.{kept_item, kept_none}
use Rattle.rdl_renew.proofs.along.item_of.Goals as goal

pub returns-then-number-saturating_sub : goal.returns-then-number-saturating_sub
returns-then-number-saturating_sub c =
    sym (kept_item c.args.piece.now c.in-Kept.from c.in-Kept.to c.args.number c.saturating_sub.result c.in-Kept.is c.saturating_sub.ensures c.if-number-saturating_sub.true)

pub returns-else-number-saturating_sub : goal.returns-else-number-saturating_sub
returns-else-number-saturating_sub c =
    sym (kept_none c.args.piece.now c.in-Kept.from c.in-Kept.to c.args.number c.saturating_sub.result c.in-Kept.is c.saturating_sub.ensures c.if-number-saturating_sub.false)
