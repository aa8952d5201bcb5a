use Rattle.rdl_seen.proofs.Taken.{stated_are_taken}
use Rattle.rdl_seen.proofs.Whole.{values_are_stated, values_are_whole}
use Rattle.rdl_seen.proofs.laws.values_mean.Goals as goal

pub returns-clause-taken : goal.returns-clause-taken
returns-clause-taken c = stated_are_taken

pub returns-clause-stated : goal.returns-clause-stated
returns-clause-stated c = values_are_stated

pub returns-clause-whole : goal.returns-clause-whole
returns-clause-whole c = values_are_whole
