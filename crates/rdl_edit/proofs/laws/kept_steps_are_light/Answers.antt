use Rattle.rdl_edit.proofs.LightSteps.{steps-light}
use Rattle.rdl_edit.proofs.laws.kept_steps_are_light.Goals as goal

pub returns : goal.returns
returns c = steps-light
