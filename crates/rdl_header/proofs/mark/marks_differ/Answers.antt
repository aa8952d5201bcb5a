use Rattle.std.proofs.Common.{subst}
use Rattle.rdl_header.specs.Places.{AreApart}
use Rattle.rdl_header.proofs.mark.marks_differ.Goals as goal

pub returns : goal.returns
returns c = λ differ. c.in_ok-doubtful.ensures (subst AreApart c.as_mut_slice.ensures.value (c.are_apart.ensures differ))
