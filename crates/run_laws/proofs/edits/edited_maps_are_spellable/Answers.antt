use Rattle.run_laws.proofs.Stepped.{step-spellable}
use Rattle.run_laws.proofs.edits.edited_maps_are_spellable.Goals as goal

pub returns : goal.returns
returns c = step-spellable
