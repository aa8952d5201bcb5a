use Rattle.rdl_diff.proofs.TurnedLines.{turned-lines}
use Rattle.rdl_diff.proofs.laws.lines_turn_round.Goals as goal

pub returns : goal.returns
returns call = λ c old new l own h. turned-lines c old new own l h
