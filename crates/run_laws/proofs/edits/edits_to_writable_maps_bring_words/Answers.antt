use Rattle.run_laws.proofs.Standing.{step-brings}
use Rattle.run_laws.proofs.edits.edits_to_writable_maps_bring_words.Goals as goal

pub returns : goal.returns
returns c = step-brings
