use Rattle.command_line.proofs.Order.{reads_in_order}
use Rattle.command_line.proofs.laws.words_in_order_are_read.Goals as goal

pub returns : goal.returns
returns c = reads_in_order
