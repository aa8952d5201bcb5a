use Rattle.sound_nodes.proofs.Nodes.{limits_are_seen, sound_top_is_its_rows}
use Rattle.sound_nodes.proofs.laws.sound_tops_are_their_rows.Goals as goal

pub returns-clause-limits : goal.returns-clause-limits
returns-clause-limits c = limits_are_seen

pub returns-clause-rows : goal.returns-clause-rows
returns-clause-rows c = sound_top_is_its_rows
