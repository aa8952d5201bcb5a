use Rattle.sound_laws.proofs.Maps.{modes}
use Rattle.sound_laws.proofs.laws.modes_matter_to_register_files.Goals as goal

pub returns : goal.returns
returns c = modes
