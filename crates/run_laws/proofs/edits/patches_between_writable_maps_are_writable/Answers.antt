use Rattle.run_laws.proofs.Standing.{step-patches-between}
use Rattle.run_laws.proofs.edits.patches_between_writable_maps_are_writable.Goals as goal

pub returns-clause-on : goal.returns-clause-on
returns-clause-on c = λ old e new led from to. (step-patches-between old e new led from to).0

pub returns-clause-back : goal.returns-clause-back
returns-clause-back c = λ old e new led from to. (step-patches-between old e new led from to).1
