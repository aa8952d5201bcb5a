use Rattle.sound_nodes.proofs.Nodes.{seen_are_sound, nodes_tell, sound_nodes_have_no_fault, seen_is_cautious}
use Rattle.sound_nodes.proofs.laws.sound_nodes_have_no_fault.Goals as goal

pub returns-clause-seen : goal.returns-clause-seen
returns-clause-seen c = seen_are_sound

pub returns-clause-told : goal.returns-clause-told
returns-clause-told c = nodes_tell

pub returns-clause-below : goal.returns-clause-below
returns-clause-below c = sound_nodes_have_no_fault

pub returns-clause-search : goal.returns-clause-search
returns-clause-search c = seen_is_cautious
