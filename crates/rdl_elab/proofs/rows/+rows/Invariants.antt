use Rattle.std.proofs.Common.{◌+◌, ◌*◌}
use Rattle.rdl_elab.proofs.SiblingsBefore.{AreTold}
use Rattle.rdl_elab.proofs.rows.+rows.Given as goal

abbrev pub decreases-add_below : goal.decreases-add_below
decreases-add_below l = 2 * l.levels + 2

abbrev pub decreases-add_rows : goal.decreases-add_rows
decreases-add_rows l = 2 * l.levels + 1

abbrev pub invariant-add_rows-loop-i : goal.invariant-add_rows-loop-i
invariant-add_rows-loop-i l = AreTold l.levels l.components l.around l.spans l.parts l.initial.rows.items l.i l.rows.items l.kept
