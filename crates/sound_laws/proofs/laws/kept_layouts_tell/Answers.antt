use Rattle.sound_laws.proofs.Kept.{kept_suffices}
use Rattle.sound_laws.proofs.laws.kept_layouts_tell.Goals as goal

pub returns : goal.returns
returns c = kept_suffices
