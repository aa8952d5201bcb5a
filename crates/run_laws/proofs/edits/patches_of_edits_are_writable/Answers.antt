use Rattle.run_laws.proofs.EditBrings.{step-patches}
use Rattle.run_laws.proofs.edits.patches_of_edits_are_writable.Goals as goal

pub returns-clause-on : goal.returns-clause-on
returns-clause-on c = λ old e new led w words spells. (step-patches old e new led w words spells).on

pub returns-clause-back : goal.returns-clause-back
returns-clause-back c = λ old e new led w words spells. (step-patches old e new led w words spells).back
