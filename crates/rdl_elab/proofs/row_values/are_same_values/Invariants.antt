-- Where what is left of the two is the same, the two are.
use Rattle.std.proofs.Common.{◌≡◌, drop}
use Rattle.rdl_elab.proofs.row_values.are_same_values.Given as goal

abbrev pub invariant-loop-value : goal.invariant-loop-value
invariant-loop-value l = drop l.value-index l.values ≡ l.rest → l.values ≡ l.others
