use Rattle.journal_core.proofs.Runs.{back-place, back-kept, same_item}
use Rattle.journal_core.proofs.laws.undos_lead_back.Goals as goal

pub returns-clause-place : goal.returns-clause-place
returns-clause-place g c = λ h states i. back-place h states

pub returns-clause-state : goal.returns-clause-state
returns-clause-state g c = λ h states i. same_item _ _ _ (back-kept h states i)

pub returns-clause-before : goal.returns-clause-before
returns-clause-before g c = λ h states i. back-kept h states i
