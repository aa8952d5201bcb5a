use Rattle.rdl_diff.proofs.SameLines.{same-none, none-same, alike-none, none-alike, itself-none, asked-none, none-asked}
use Rattle.rdl_diff.proofs.laws.same_rows_have_no_lines.Goals as goal

pub returns-clause-none : goal.returns-clause-none
returns-clause-none c = same-none

pub returns-clause-same : goal.returns-clause-same
returns-clause-same c = none-same

pub returns-clause-none_alike : goal.returns-clause-none_alike
returns-clause-none_alike c = alike-none

pub returns-clause-alike : goal.returns-clause-alike
returns-clause-alike c = none-alike

pub returns-clause-itself : goal.returns-clause-itself
returns-clause-itself c = itself-none

pub returns-clause-none_asked : goal.returns-clause-none_asked
returns-clause-none_asked c = asked-none

pub returns-clause-asked : goal.returns-clause-asked
returns-clause-asked c = λ choice old new any e. none-asked choice any old new e
