use Rattle.rdl_session.proofs.Saved.{item-spelled}
use Rattle.rdl_session.proofs.laws.written_items_read_back.Goals as goal

pub returns : goal.returns
returns c = item-spelled
