use Rattle.sound_laws.proofs.Exact.{sound_is_exact}
use Rattle.sound_laws.proofs.laws.soundness_is_exact.Goals as goal

pub returns : goal.returns
returns c = sound_is_exact
