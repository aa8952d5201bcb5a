use Rattle.std.proofs.Common.{◌≡◌, ◌-◌, drop, length}
use Rattle.rdl_marks.specs.View.{in_order, pieces_traces}
use Rattle.rdl_seen.specs.Alert.{with_alert}
use Rattle.rdl_renew.specs.Raised.{item_raises, all_raise}
use Rattle.rdl_renew.proofs.raise.pieces_raise.Given as goal

abbrev pub invariant-loop-piece : goal.invariant-loop-piece
invariant-loop-piece l =
    with_alert l.alert (all_raise item_raises (pieces_traces (drop l.place (in_order l.pieces))) l.rest) ≡ all_raise item_raises (pieces_traces (in_order l.pieces)) l.items

abbrev pub decreases-loop-piece : goal.decreases-loop-piece
decreases-loop-piece l = length (in_order l.pieces) - l.place
