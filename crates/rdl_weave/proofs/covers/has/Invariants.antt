use Rattle.std.proofs.Common.{◌≡◌, drop}
use Rattle.rdl_weave.specs.Coarse.{has}
use Rattle.rdl_weave.proofs.covers.has.Given as goal

abbrev pub invariant-spans : goal.invariant-spans
invariant-spans l = has l.spans l.span ≡ has (drop l.other-index l.spans) l.span
