use Rattle.rdl_header.proofs.Apart.{apart_if_rising}
use Rattle.rdl_header.proofs.mark.are_apart.Goals as goal

pub returns : goal.returns
returns c = λ rises. apart_if_rising c.args.marks.now c.sort_unstable.new.self c.sort_unstable.ensures.permutation (c.is_rising.ensures rises)
