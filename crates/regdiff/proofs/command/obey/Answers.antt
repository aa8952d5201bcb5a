use Rattle.regdiff.proofs.Refused.{ends_of}
use Rattle.regdiff.proofs.command.obey.Goals as goal

pub returns-clause-ends : goal.returns-clause-ends
returns-clause-ends g c = ends_of _ _ _ _ c.compare_files.result c.ended.result c.asked_by-asked.ensures.top c.asked_by-asked.ensures.choice c.compare_files.ensures.status c.ended.ensures
