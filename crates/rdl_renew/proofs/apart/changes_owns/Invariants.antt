use Rattle.std.proofs.Common.{◌-◌, drop, length}
use Rattle.rdl_marks.specs.View.{in_order, pieces_traces}
use Rattle.rdl_renew.proofs.ApartItems.{AreDoneApart}
use Rattle.rdl_renew.proofs.apart.changes_owns.Given as goal

abbrev pub invariant-loop-piece : goal.invariant-loop-piece
invariant-loop-piece l = AreDoneApart (pieces_traces (in_order l.pieces)) (pieces_traces (drop l.place (in_order l.pieces))) l.body l.owns l.from

abbrev pub decreases-loop-piece : goal.decreases-loop-piece
decreases-loop-piece l = length (in_order l.pieces) - l.place
