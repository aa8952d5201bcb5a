use Rattle.rdl_source.proofs.Beside.{line_ends}
use Rattle.rdl_source.proofs.Behind as behind
use Rattle.rdl_source.proofs.laws.lines_part_words.Goals as goal

pub returns-clause-feed : goal.returns-clause-feed
returns-clause-feed c = line_ends

pub returns-clause-line : goal.returns-clause-line
returns-clause-line c = behind.lines_part_words
