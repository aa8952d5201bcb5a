use Rattle.command_line.proofs.Order.{reads_with_session}
use Rattle.command_line.proofs.laws.words_with_a_session_are_read.Goals as goal

pub returns : goal.returns
returns c = λ map script rdl header session m s r h k. reads_with_session map script rdl header m s r h session k
