use Rattle.rdl_source.proofs.Behind as behind
use Rattle.rdl_source.proofs.laws.texts_append.Goals as goal

pub returns : goal.returns
returns c = behind.texts_append
