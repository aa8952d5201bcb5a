-- What was put in is what is left of the text up to a place.
use Rattle.std.proofs.Common.{string_bytes}
use Rattle.rdl_weave.proofs.Thinned.{LeftOut}
use Rattle.rdl_weave.proofs.thin.without_gaps.Given as goal

abbrev pub invariant-gaps : goal.invariant-gaps
invariant-gaps l = LeftOut l.text (string_bytes l.thin) l.at
