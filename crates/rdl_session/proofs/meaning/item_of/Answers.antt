use Rattle.std.proofs.Common.{sym, ap, ◌∙◌}
use Rattle.rdl_session.specs.Meaning.{one_read}
use Rattle.rdl_session.proofs.Meant.{item-no_text, item-text}
use Rattle.rdl_session.proofs.meaning.item_of.Goals as goal

pub returns-in_default : goal.returns-in_default
returns-in_default c = item-no_text c.args.bytes.now c.in_default.ensures.cases.0

pub returns-in-Ok-parse_item : goal.returns-in-Ok-parse_item
returns-in-Ok-parse_item c =
    c.one_of.ensures ∙ sym (ap one_read c.in-Ok-parse_item.ensures.exact) ∙ item-text c.in-Ok.text.now c.args.bytes.now c.in-Ok.ensures.cases.0 c.in-Ok.ensures.cases.1
