use Rattle.rdl_elab.specs.OwnValues.{AreStatedBefore}
use Rattle.rdl_elab.proofs.walk.own_values.add_between.Given as goal

abbrev pub invariant-loop-i : goal.invariant-loop-i
invariant-loop-i l = AreStatedBefore l.i l.items.items l.first_dynamic l.body
